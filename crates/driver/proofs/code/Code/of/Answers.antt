use Rattle.std.proofs.Common.{arith}
use Rattle.driver.proofs.Coding.{code_is}
use Rattle.driver.proofs.code.Code.of.Goals as goal

pub returns : goal.returns
returns c =
    let kind = c.kind_of-kind.result in
    code_is (record { seat = c.args.seat; kind = kind; named = c.named_by-named.result }) c.args.answer.now
    (omega (arith, c.if-seat-ge256.false)) (omega (arith, c.if-named-ge256.false))
    (omega (arith, c.if-kind-ge-WHOLE.false)) (c.kind_of-kind.ensures (omega (arith, c.if-kind-ge-WHOLE.false)))
    (c.named_by-named.ensures (omega (arith, c.if-named-ge256.false)))
