use Rattle.std.proofs.Common.{sym, ◌∙◌, rules}
use Rattle.reentrant.proofs.Owning.{kept}
use Rattle.reentrant.proofs.lock.LockHooksHooks.give.Goals as goal

pub returns-then-self-gt0-clause-kept : goal.returns-then-self-gt0-clause-kept
returns-then-self-gt0-clause-kept c _ k h j m a _ _ ne _ =
    let s = c.args.self.now in
    let owns = sym c.owns.ensures ∙ c.if-owns.true in
    rw c.in-X.is (kept s.policy s.owner s.holds k s.owned h c.args.who owns c.if-self-gt0.true c.args._n j m
    a ne)

pub invariant_of-self : goal.invariant_of-self
invariant_of-self c = search rules
