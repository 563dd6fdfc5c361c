use Rattle.std.proofs.Common.{refl, ◌∙◌, sym}
use Rattle.reentrant.proofs.Owning.{let_go_is}
use Rattle.reentrant.proofs.lock.LockHooksHooks.let_go_all.Goals as goal

pub returns-then-not-owns-clause-answer : goal.returns-then-not-owns-clause-answer
returns-then-not-owns-clause-answer c k h =
    let s = c.args.self.now in
    let e = let_go_is s.policy s.owner s.holds k s.owned h c.args.who in
    sym (e ∙ rw (← c.owns.ensures, c.if-not-owns.true) refl)

pub returns-clause-answer : goal.returns-clause-answer
returns-clause-answer c k h =
    let s = c.args.self.now in
    let e = let_go_is s.policy s.owner s.holds k s.owned h c.args.who in
    sym (e ∙ rw (← c.owns.ensures, c.if-not-owns.false) refl)
