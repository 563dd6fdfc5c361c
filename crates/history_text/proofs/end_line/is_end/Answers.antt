use Rattle.std.proofs.Common.{arith, refl}
use Rattle.history.proofs.Readers.{unread, not_all_read}
use Rattle.history_text.specs.Prelude.{counts_line, counts_at}
use Rattle.history_text.proofs.EntryLemmas.{whole_end, is_counts_line}
use Rattle.history_text.proofs.end_line.is_end.Goals as goal

pub returns-in-None : goal.returns-in-None
returns-in-None c =
    let entries = c.args.entries in
    let calls = c.args.calls in (
      (λ t. absurd cc),
      (λ is. absurd
          (unread (counts_at entries calls) c.args.line.now (counts_line entries calls) tt
          (whole_end entries calls (omega arith) (omega arith))
          (rw c.of-words.ensures at c.in-None.ensures.is) is)),
    )

pub returns-in-None-next : goal.returns-in-None-next
returns-in-None-next c = (
  (λ t. is_counts_line c.args.line.now c.args.entries c.args.calls
      (rw (c.of-words.ensures, c.in-None-next.ensures.0) at c.in-Some.ensures.found)),
  (λ is. refl),
)

pub returns-in-Some-next : goal.returns-in-Some-next
returns-in-Some-next c =
    let entries = c.args.entries in
    let calls = c.args.calls in (
      (λ t. absurd cc),
      (λ is. absurd
          (not_all_read (counts_at entries calls) c.args.line.now (counts_line entries calls) tt _ _ _
          (whole_end entries calls (omega arith) (omega arith))
          (rw (c.of-words.ensures, c.in-Some-next.ensures) at c.in-Some.ensures.is) is)),
    )
