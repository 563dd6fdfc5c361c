use Rattle.std.proofs.Common.{◌+◌, ◌≤◌, length, codes, rules, ap, length-append, arith}
use Rattle.history.proofs.AskedOnce.{asked_once}
use Rattle.history.proofs.PieceFronts.{rest_behind}
use Rattle.history.proofs.entry_text.put_asked.Goals as goal

pub returns-then-is_exclusive-clause-words : goal.returns-then-is_exclusive-clause-words
returns-then-is_exclusive-clause-words c =
    rw (asked_once c.args.name.now c.args.once.now c.args.mode c.args.n c.requires.once
    (c.is_exclusive.ensures.x.0 c.if-is_exclusive.true) c.if-n-eq1.true) (search rules)

pub returns-then-is_exclusive-clause-rest : goal.returns-then-is_exclusive-clause-rest
returns-then-is_exclusive-clause-rest c =
    let within : c.put_bytes.result ≤ c.args.at + length c.args.name.now + 23 =
    omega (
      arith,
      c.put_bytes.ensures.end,
      ap length c.requires.once,
      length-append c.args.name.now (codes " x 1"),
    ) in
    rest_behind c.args.line.now c.put_bytes.new.line _ _ c.put_bytes.ensures.rest within
