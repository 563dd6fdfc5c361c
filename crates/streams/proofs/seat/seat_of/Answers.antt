use Rattle.std.proofs.Common.{◌-◌, ◌+◌, [], ◌∷◌, ◌++◌, ap, sym, ◌∙◌, arith, drop, List, ℕ}
use Rattle.std.proofs.lemmas.Fmt.{decimal_digit, decimal_nonempty}
use Rattle.std.proofs.lemmas.Option.{none-some}
use Rattle.history.proofs.Numbers.{digits_alone}
use Rattle.history.proofs.Plain.{decimal_plain}
use Rattle.streams.proofs.Seats.{first_space, one_before, two_before, word_before, word_length}
use Rattle.streams.proofs.seat.seat_of.Goals as goal

pub returns-in-Some-clause-seat : goal.returns-in-Some-clause-seat
returns-in-Some-clause-seat c =
    let digit = c.in_ok-digit_of.ensures.found in
    rw (decimal_digit c.in_ok-digit_of.field-0 digit.0, ← digit.1) c.in-Some.ensures.seat

pub returns-clause-seat : goal.returns-clause-seat
returns-clause-seat c =
    first_space c.args.text.now c.in_ok-at.at (sym c.in_ok-at.ensures)
    ∙ ap (λ (t : List ℕ). t ++ 32 ∷ drop (c.in_ok-at.at + 1) c.args.text.now)
    c.in_ok-number_of.ensures.found

pub returns-in_err-digit_of-clause-none : goal.returns-in_err-digit_of-clause-none
returns-in_err-digit_of-clause-none c = rw c.from_residual.ensures (λ seat rest lt is.
    let spelt =
    one_before c.in-Some.byte _ _ rest (decimal_plain seat lt) (decimal_nonempty seat lt)
    (sym c.in-Some.ensures.seat ∙ is) in
    let digit = digits_alone (c.in-Some.byte ∷ []) seat 0 lt (omega arith) spelt in
    c.in_err-digit_of.ensures.none (c.in-Some.byte - 48) (omega (arith, digit)) (omega (arith, digit)))

pub returns-in_err-number_of_two-clause-none : goal.returns-in_err-number_of_two-clause-none
returns-in_err-number_of_two-clause-none c =
    rw c.from_residual-in_err-number_of_two.ensures (λ seat rest lt is.
    let spelt =
    two_before c.in-Some-two_bytes.first c.in-Some-two_bytes.second _ _ rest (decimal_plain seat lt)
    (decimal_nonempty seat lt) (λ b t same.
    c.in_default.ensures.none b t (c.in-Some-two_bytes.ensures.seat ∙ same))
    (sym c.in-Some-two_bytes.ensures.seat ∙ is) in
    c.in_err-number_of_two.ensures.none seat lt spelt)

pub returns-in_err-at-clause-none : goal.returns-in_err-at-clause-none
returns-in_err-at-clause-none c = rw c.from_residual-in_err-at.ensures (λ seat rest lt is.
    none-some _ (c.in_err-at.ensures ∙ word_length c.args.text.now _ rest (decimal_plain seat lt) is))

pub returns-in_err-number_of-clause-none : goal.returns-in_err-number_of-clause-none
returns-in_err-number_of-clause-none c = rw c.from_residual-in_err-number_of.ensures (λ seat rest lt is.
    c.in_err-number_of.ensures.none seat lt
    (word_before c.args.text.now _ rest c.in_ok-at.at (decimal_plain seat lt) is (sym c.in_ok-at.ensures)))
