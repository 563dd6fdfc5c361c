use Rattle.reentrant.proofs.Owning.{stands_restored, restored_alone}
use Rattle.reentrant.proofs.lock.LockHooksHooks.restore.Goals as goal

pub returns-clause-restored : goal.returns-clause-restored
returns-clause-restored c k h r =
    let s = c.args.self.now in
    stands_restored s.policy s.owner s.holds k s.owned h c.args.who c.args.holds r

pub returns-clause-alone : goal.returns-clause-alone
returns-clause-alone c k h r m j a _ _ ne =
    let s = c.args.self.now in
    restored_alone s.policy s.owner s.holds k s.owned h c.args.who c.args.holds r j m a ne
