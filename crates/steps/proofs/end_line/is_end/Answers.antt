use Rattle.std.proofs.Common.{◌≡◌, ℕ, ◌<◌, ◌≤◌, ◌^◌, List, ◌++◌, sym, ap, ◌∙◌, arith, decimal, IsTrue, nat_eq, codes, eqb-true, eq-eqb}
use Rattle.std.proofs.lemmas.Fmt.{decimal_injective}
use Rattle.streams.proofs.Lists.{same_behind}
use Rattle.steps.specs.StepLines.{end_line}
use Rattle.steps.proofs.end_line.is_end.Goals as goal

counted : (line number : List ℕ) (found count : ℕ) → line ≡ codes "end " ++ number →
    number ≡ decimal found → found < 2 ^ 64 → count ≤ 4294967295
    → (IsTrue (nat_eq found count) → (count < 2 ^ 32) × (line ≡ end_line count))
    × ((count < 2 ^ 32) × (line ≡ end_line count) → IsTrue (nat_eq found count))
counted line number found count is spelt fits le = (
  λ same. (
    omega arith,
    is ∙ ap (λ (x : List ℕ). codes "end " ++ x) (spelt
        ∙ ap decimal (eqb-true found count same)),
  ),
  λ end. eq-eqb found count (decimal_injective found count fits (omega (arith, le)) (sym spelt
      ∙ same_behind (codes "end ") number (decimal count) (sym is ∙ end.1))),
)

pub returns-in-Some-number_of : goal.returns-in-Some-number_of
returns-in-Some-number_of c =
    counted c.args.line.now c.in-Some.number.now c.in-Some-number_of.found c.args.count c.in-Some.ensures
    c.in-Some-number_of.ensures.found (omega arith) c.if-count-gt-MOST_ACTS.false
