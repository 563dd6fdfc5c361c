use Rattle.std.proofs.Common.{◌∙◌, append_assoc}
use Rattle.std.proofs.lemmas.Fmt.{decimal_digit}
use Rattle.history.proofs.LastDigit.{two_digits}
use Rattle.history.proofs.number.spell.Goals as goal

pub returns-then-number-lt10-clause-bytes : goal.returns-then-number-lt10-clause-bytes
returns-then-number-lt10-clause-bytes c =
    rw (decimal_digit c.args.number c.if-number-lt10.true) c.put_byte.ensures.bytes

pub returns-then-number-lt100-clause-bytes : goal.returns-then-number-lt100-clause-bytes
returns-then-number-lt100-clause-bytes c =
    rw (two_digits c.args.number c.if-number-lt10.false c.if-number-lt100.true)
    (c.put_byte-then-number-lt100.ensures.bytes ∙ rw c.put_byte-last.ensures.bytes (simp append_assoc))
