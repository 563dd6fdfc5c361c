use Rattle.std.proofs.Common.{◌++◌, ◌∷◌, [], ap, arith, refl, sym}
use Rattle.std.proofs.lemmas.Fmt.{decimal_digit}
use Rattle.history_text.proofs.spelt_number.SpeltNumber.new.Goals as goal

pub invariant_of-result : goal.invariant_of-result
invariant_of-result c =
    (refl, omega arith, omega arith, ap (λ t. t ++ 32 ∷ []) (sym (decimal_digit 0 (omega arith))))
