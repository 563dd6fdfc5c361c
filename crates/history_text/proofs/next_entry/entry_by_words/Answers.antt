use Rattle.std.proofs.Common.{sym, ◌∙◌, arith, eqb-true}
use Rattle.std.proofs.lemmas.Bool.{false≢true}
use Rattle.history_text.proofs.NextLines.{bad_line, behind_last, last_line}
use Rattle.history_text.proofs.next_entry.entry_by_words.Goals as goal

pub returns-then-is_empty-clause-line : goal.returns-then-is_empty-clause-line
returns-then-is_empty-clause-line c =
    last_line c.args.header.now c.args.place _ _ _ c.in-Some.ensures.0 (c.is_end.ensures.0 c.if-is_end.true)
    (eqb-true _ _ (sym c.is_empty.ensures ∙ c.if-is_empty.true))

pub returns-then-is_end-clause-line : goal.returns-then-is_end-clause-line
returns-then-is_end-clause-line c =
    behind_last c.args.header.now c.args.place _ _ _ c.in-Some.ensures.0 (c.is_end.ensures.0 c.if-is_end.true)
    (sym c.is_empty.ensures ∙ c.if-is_empty.false)

pub returns-in-None-clause-line : goal.returns-in-None-clause-line
returns-in-None-clause-line c =
    bad_line c.args.header.now c.args.place _ _ _ c.in-Some.ensures.0 c.in-Some.ensures.1
    (λ same. false≢true (sym c.if-is_end.false ∙ c.is_end.ensures.1 same))
    (λ e few fits. c.in-None.ensures.none e fits)

pub returns-then-place-from-clause-line : goal.returns-then-place-from-clause-line
returns-then-place-from-clause-line c =
    bad_line c.args.header.now c.args.place _ _ _ c.in-Some.ensures.0 c.in-Some.ensures.1
    (λ same. false≢true (sym c.if-is_end.false ∙ c.is_end.ensures.1 same))
    (λ e few fits. absurd (omega (arith, few, c.from.ensures, c.if-place-from.true)))
