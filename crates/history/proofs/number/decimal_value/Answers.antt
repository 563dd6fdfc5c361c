use Rattle.std.proofs.Common.{rules, ◌≡◌, ◌<◌, ◌+◌, length, get_or, take, arith, ◌∙◌, ap, take_all}
use Rattle.std.specs.Str.Parse.{digits_value, AllDigits}
use Rattle.std.proofs.lemmas.Str.{digit_value_digit}
use Rattle.std.proofs.lemmas.Int.Digits.{digits_value_more, digits_more}
use Rattle.history.proofs.Numbers.{not_empty, no_leading_zero, digits_alone, fits, spelt}
use Rattle.history.proofs.number.decimal_value.Goals as goal
use Rattle.history.proofs.number.decimal_value.Goals.{else-bytes-gt1-via-then-bytes-gt1+else-bytes-eq48, else-bytes-gt1-via-else-bytes-gt1}

pub returns-then-is_empty-clause-none : goal.returns-then-is_empty-clause-none
returns-then-is_empty-clause-none c n lt is = not_empty c.args.bytes.now n lt (search rules) is

pub returns-then-bytes-eq48-clause-none : goal.returns-then-bytes-eq48-clause-none
returns-then-bytes-eq48-clause-none c n lt is =
    no_leading_zero c.args.bytes.now n lt c.if-bytes-gt1.true c.if-bytes-eq48.true is

pub returns-then-not-is_ascii_digit-clause-none : goal.returns-then-not-is_ascii_digit-clause-none
returns-then-not-is_ascii_digit-clause-none c n lt is =
    let h = digits_alone c.args.bytes.now n c.loop-byte.byte-index lt c.loop-byte-test.true is in
    omega (arith, c.if-not-is_ascii_digit.ensures.cases)

pub returns-in_err-checked_mul-clause-none : goal.returns-in_err-checked_mul-clause-none
returns-in_err-checked_mul-clause-none c = rw c.from_residual.ensures (λ n lt is.
    let h = fits c.args.bytes.now n (c.loop-byte.byte-index + 1) lt is in
    let e = digits_value_more 10 c.args.bytes.now c.loop-byte.byte-index c.loop-byte-test.true in
    c.in_err-checked_mul.ensures (omega (arith, h, e)))

pub returns-in_err-number-clause-none : goal.returns-in_err-number-clause-none
returns-in_err-number-clause-none c = rw c.from_residual-in_err-number.ensures (λ n lt is.
    let h = fits c.args.bytes.now n (c.loop-byte.byte-index + 1) lt is in
    let e = digits_value_more 10 c.args.bytes.now c.loop-byte.byte-index c.loop-byte-test.true in
    let d = digit_value_digit (get_or c.args.bytes.now c.loop-byte.byte-index 0)
    (search (rules, c.if-not-is_ascii_digit.ensures.cases)) in
    c.in_err-number.ensures (omega (arith, h, e, d, c.in_ok-checked_mul.ensures, c.from.ensures)))

pub returns-clause-found : goal.returns-clause-found
returns-clause-found c =
    let whole : take c.loop-byte.byte-index c.args.bytes.now ≡ c.args.bytes.now =
    take_all c.loop-byte.byte-index c.args.bytes.now c.loop-byte-test.false in
    let all : AllDigits 10 c.args.bytes.now = rw (← whole) c.loop-byte.invariant.digits in
    let value : c.loop-byte.number ≡ digits_value 10 c.args.bytes.now = c.loop-byte.invariant.value
    ∙ ap (digits_value 10) whole in
    let some : 0 < length c.args.bytes.now = search rules in
    let first : get_or c.args.bytes.now 0 0 ≡ 48 → length c.args.bytes.now ≡ 1 =
    λ zero. elim c.else-bytes-gt1.branch [
      | else-bytes-gt1-via-then-bytes-gt1+else-bytes-eq48 w ↦ absurd (w.if-bytes-eq48.false zero)
      | else-bytes-gt1-via-else-bytes-gt1 w ↦ omega (arith, some)
    ] in (
      rw value (spelt c.args.bytes.now all some first (rw (← value) c.loop-byte.invariant.fits)),
      c.loop-byte.invariant.fits,
    )

pub loop-byte-preserved : goal.loop-byte-preserved
loop-byte-preserved c =
    let digit =
    digit_value_digit (get_or c.args.bytes.now c.loop-byte.byte-index 0)
    (search (rules, c.if-not-is_ascii_digit.ensures.cases)) in
    let e = digits_value_more 10 c.args.bytes.now c.loop-byte.byte-index c.loop-byte-test.true in
    record {
      fits = omega (arith, c.in_ok-number.ensures);
      value = omega (arith, e, digit, c.in_ok-checked_mul.ensures, c.in_ok-number.ensures, c.from.ensures);
      digits = digits_more 10 c.args.bytes.now c.loop-byte.byte-index c.loop-byte-test.true
          c.loop-byte.invariant.digits (omega (arith, digit, c.if-not-is_ascii_digit.ensures.cases));
    }
