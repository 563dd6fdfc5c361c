use Rattle.std.proofs.Common.{◌+◌}
use Rattle.reentrant.proofs.Owning.{may_take, owned_more, stands_took, alone, nobody_new}
use Rattle.reentrant.proofs.lock.LockHooksHooks.take.Goals as goal

pub invariant_of-self : goal.invariant_of-self
invariant_of-self c =
    let s = c.args.self.now in
    let r = c.requires in
    let may = may_take s.policy s.owner s.holds r.0 s.owned r.1 c.args.who c.args._mode c.args._n r.3 in
    record { owned = owned_more s.owner s.holds c.args.who c.args._mode may }

pub returns-clause-taken : goal.returns-clause-taken
returns-clause-taken c k h seat =
    let s = c.args.self.now in
    let r = c.requires in
    let may = may_take s.policy s.owner s.holds r.0 s.owned r.1 c.args.who c.args._mode c.args._n r.3 in
    stands_took s.policy s.owner s.holds k s.owned h c.args.who c.args._mode c.args._n may seat

pub returns-clause-alone : goal.returns-clause-alone
returns-clause-alone c _ k h seat m j a _ _ ne =
    let s = c.args.self.now in
    let r = c.requires in
    let may = may_take s.policy s.owner s.holds r.0 s.owned r.1 c.args.who c.args._mode c.args._n r.3 in
    let now = stands_took s.policy s.owner s.holds k s.owned h c.args.who c.args._mode c.args._n may seat in
    alone s.policy c.args.who (s.holds + 1) _ (owned_more s.owner s.holds c.args.who c.args._mode may) now j
    m a ne

pub returns-clause-nobody : goal.returns-clause-nobody
returns-clause-nobody c k h seat j m a _ _ f =
    let s = c.args.self.now in
    let r = c.requires in
    let may = may_take s.policy s.owner s.holds r.0 s.owned r.1 c.args.who c.args._mode c.args._n r.3 in
    nobody_new s.policy s.owner s.holds k s.owned h c.args.who c.args._mode c.args._n may seat j m a f
