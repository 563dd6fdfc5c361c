use Rattle.std.proofs.Common.{◌≡◌, ◌+◌, ◌*◌, ◌-◌, ◌/◌, ◌%◌, [], ◌∷◌, arith}
use Rattle.history.proofs.LastDigit.{two_digits}
use Rattle.history.proofs.Numbers.{digits_alone, no_leading_zero}
use Rattle.streams.proofs.seat.number_of_two.Goals as goal

pub returns-clause-found : goal.returns-clause-found
returns-clause-found c =
    let tens = c.in_ok-tens.ensures.found in
    let ones = c.in_ok-ones.ensures.found in
    let number = 10 * c.in_ok-tens.tens + c.in_ok-ones.ones in
    let front : number / 10 ≡ c.in_ok-tens.tens = omega (arith, ones.0) in
    let last : number % 10 ≡ c.in_ok-ones.ones = omega (arith, ones.0) in
    let spelt = two_digits number (omega (arith, c.if-tens-eq0.false)) (omega (arith, tens.0, ones.0)) in
    rw (tens.1, ones.1) (rw (front, last) at spelt)

pub returns-in_err-tens-clause-none : goal.returns-in_err-tens-clause-none
returns-in_err-tens-clause-none c = rw c.from_residual.ensures (λ number lt is.
    let digit = digits_alone (c.args.first ∷ c.args.second ∷ []) number 0 lt (omega arith) is in
    c.in_err-tens.ensures.none (c.args.first - 48) (omega (arith, digit)) (omega (arith, digit)))

pub returns-in_err-ones-clause-none : goal.returns-in_err-ones-clause-none
returns-in_err-ones-clause-none c = rw c.from_residual-in_err-ones.ensures (λ number lt is.
    let digit = digits_alone (c.args.first ∷ c.args.second ∷ []) number 1 lt (omega arith) is in
    c.in_err-ones.ensures.none (c.args.second - 48) (omega (arith, digit)) (omega (arith, digit)))

pub returns-then-tens-eq0-clause-none : goal.returns-then-tens-eq0-clause-none
returns-then-tens-eq0-clause-none c = λ number lt is.
    no_leading_zero (c.args.first ∷ c.args.second ∷ []) number lt (omega arith)
    (omega (arith, c.in_ok-tens.ensures.found.1, c.if-tens-eq0.true)) is
