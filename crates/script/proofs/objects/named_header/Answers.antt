use Rattle.std.proofs.Common.{List, [], ◌∷◌, ◌≡◌, arith, rules, sym, subst, ap, ◌∙◌, ℕ, true≢false}
use Rattle.history.specs.Spelling.{part_of}
use Rattle.history.specs.declared.header.Header.{Header}
use Rattle.serde_json.specs.Data.{string}
use Rattle.serde_json.specs.View.{view}
use Rattle.script.specs.Name.{IsName}
use Rattle.streams.proofs.WholeLines.{same_part}
use Rattle.script.proofs.ObjectLemmas.{two_items, two_texts}
use Rattle.script.proofs.objects.named_header.Goals as goal
use Rattle.script.proofs.objects.named_header.Goals.{else-is_name-via-then-is_name+else-from-threads, else-is_name-via-else-is_name}

pub returns-in_err-list_of-clause-none : goal.returns-in_err-list_of-clause-none
returns-in_err-list_of-clause-none c =
    rw c.from_residual.ensures (λ o good is. c.in_err-list_of.ensures.none (string o.0
    ∷ string (part_of o.1) ∷ [])
    (record { enough = omega arith; few = omega arith; is = is }))

pub returns-else-is_name-clause-none : goal.returns-else-is_name-clause-none
returns-else-is_name-clause-none c = λ o good is.
    let list = c.in_ok-list_of.field-0.now in
    let has = c.in_ok-list_of.ensures.found in
    let two = two_items list c.name-item.result c.part-item.result (search rules) c.name-item.is
    c.part-item.is in
    let texts =
    two_texts (view c.args.value.now) list c.name-item.result c.part-item.result c.in_ok-name.name.now
    c.in_ok-text_of.field-0.now o two has.is is c.in_ok-name.ensures.found c.in_ok-text_of.ensures.found in
    let read = c.in_ok-header.ensures.found in
    let header : c.in_ok-header.header ≡ o.1 =
    same_part c.in_ok-header.header o.1 read.0 good.in_range
    (sym read.1 ∙ c.as_bytes.ensures.value ∙ texts.1) in elim c.else-is_name.branch [
      | else-is_name-via-then-is_name+else-from-threads w ↦
          w.if-from-threads.false (w.from.ensures ∙ ap (λ (h : Header). h.seats) header ∙ good.seats)
      | else-is_name-via-else-is_name w ↦
          true≢false (sym (c.is_name.ensures.1 (subst (λ (n : List ℕ). IsName n) (sym texts.0) good.name)) ∙
          w.if-is_name.false)
    ]
