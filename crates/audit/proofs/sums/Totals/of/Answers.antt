use Rattle.std.proofs.Common.{rules, ◌≡◌, ⊎_elim, ap, ◌∙◌, sym}
use Rattle.history.specs.declared.header.Object.{Object}
use Rattle.audit.specs.declared.sums.Totals.{Totals}
use Rattle.audit.specs.Totals.{numbers_of}
use Rattle.audit.proofs.Adding.{numbers_add}
use Rattle.audit.proofs.sums.Totals.of.Goals as goal

by_way_of : {result between end : Totals} → between ≡ end → result ≡ between → result ≡ end
by_way_of adds is = is ∙ adds

pub returns-in-Lock-clause-is : goal.returns-in-Lock-clause-is
returns-in-Lock-clause-is c =
    by_way_of (⊎_elim
    (λ lock. ap (λ (o : Object). numbers_of o c.args.numbers.now) (sym lock.1))
    (λ lock. ap (λ (o : Object). numbers_of o c.args.numbers.now) (sym lock.1)) c.in-Lock.is) (search rules)

pub returns-in-Semaphore-clause-is : goal.returns-in-Semaphore-clause-is
returns-in-Semaphore-clause-is c =
    by_way_of (ap (λ (o : Object). numbers_of o c.args.numbers.now) (sym c.in-Semaphore.is)) (search rules)

pub returns-in-Latch-clause-is : goal.returns-in-Latch-clause-is
returns-in-Latch-clause-is c =
    by_way_of (ap (λ (o : Object). numbers_of o c.args.numbers.now) (sym c.in-Latch.is)) (search rules)

pub returns-in-Lock-clause-adds : goal.returns-in-Lock-clause-adds
returns-in-Lock-clause-adds c s h past object is =
    returns-in-Lock-clause-is c ∙ numbers_add s h c.args.object c.args.numbers.now past object is

pub returns-in-Semaphore-clause-adds : goal.returns-in-Semaphore-clause-adds
returns-in-Semaphore-clause-adds c s h past object is =
    returns-in-Semaphore-clause-is c ∙ numbers_add s h c.args.object c.args.numbers.now past object is

pub returns-in-Latch-clause-adds : goal.returns-in-Latch-clause-adds
returns-in-Latch-clause-adds c s h past object is =
    returns-in-Latch-clause-is c ∙ numbers_add s h c.args.object c.args.numbers.now past object is
