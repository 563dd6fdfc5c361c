use Rattle.std.proofs.Common.{◌<◌, ◌^◌, length, ap, ◌∙◌, arith}
use Rattle.std.proofs.lemmas.Fmt.{decimal_nonempty, length-decimal-le}
use Rattle.history.proofs.number.spell_long.Goals as goal

pub returns-clause-end : goal.returns-clause-end
returns-clause-end c =
    let digits = ap length (c.as_bytes.ensures.value ∙ c.format.ensures.text) in
    let fits : c.args.number < 2 ^ 64 = omega arith in
    let some = decimal_nonempty c.args.number fits in
    let few = length-decimal-le 20 c.args.number (omega arith) (omega (arith, fits)) fits in (
      omega (arith, digits, some, c.put_bytes.ensures.end),
      omega (arith, digits, few, c.put_bytes.ensures.end),
    )
