use Rattle.std.proofs.Common.{rules, subst}
use Rattle.history.specs.declared.entry.Word.{Word}
use Rattle.condition_queue.specs.Following.{IsMovableBy, MaySleep}
use Rattle.condition_queue.proofs.Movable.{awake_none}
use Rattle.condition_queue.proofs.following.move_waiters.Goals as goal

pub join-requires-in-Await-clause-awake : goal.join-requires-in-Await-clause-awake
join-requires-in-Await-clause-awake c =
    let w = c.args.waiters.now in
    let P : Word → Type 0 = λ x. IsMovableBy x c.args.entry c.args.queue.now w in
    let sleep : MaySleep c.args.entry w = subst P c.in-Await.is c.requires.movable.by_word in
    awake_none w c.args.entry.seat c.sleeper_of-sleeper.result c.sleeper_of-sleeper.ensures.sleeper
    sleep.awake
    c.sleeper_of-sleeper.ensures.listed

pub returns-in-Signal-clause-line : goal.returns-in-Signal-clause-line
returns-in-Signal-clause-line c = search rules
