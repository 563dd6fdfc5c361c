use Rattle.std.proofs.Common.{rules, ◌<◌, length, arith}
use Rattle.condition_queue.specs.Sleepers.{asleep_on}
use Rattle.condition_queue.proofs.Moving.{moves_more, still_apart}
use Rattle.condition_queue.proofs.waiters.Waiters.move_all.Goals as goal

pub move_first-requires-clause-apart : goal.move_first-requires-clause-apart
move_first-requires-clause-apart c =
    still_apart c.args.c c.loop.counter c.args.self.now c.loop.self c.args.queue.now c.loop.queue
    c.loop.invariant c.len-sleepers.ensures.once c.requires.apart

pub loop-preserved : goal.loop-preserved
loop-preserved c =
    let low : c.loop.counter < length (asleep_on c.args.self.now c.args.c) =
    omega (arith, c.len-sleepers.ensures.len, c.loop-test.true) in
    moves_more c.args.c c.loop.counter c.move_first.result c.args.self.now c.loop.self c.move_first.new.self
    c.args.queue.now c.loop.queue c.move_first.new.queue c.loop.invariant c.move_first.ensures.moves low
    c.move_first.ensures.moved

pub loop-init : goal.loop-init
loop-init c = search rules
