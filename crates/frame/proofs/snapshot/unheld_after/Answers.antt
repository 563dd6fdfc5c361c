use Rattle.std.proofs.Common.{◌≡◌, subst, arith, pos, ◌+ℤ◌}
use Rattle.std.proofs.lemmas.Int.{ints}
use Rattle.history.specs.declared.header.Object.{Object}
use Rattle.frame.specs.inner.Snapshot.{IsUnheldBy}
use Rattle.frame.proofs.snapshot.unheld_after.Goals as goal

pub released-requires-clause-few : goal.released-requires-clause-few
released-requires-clause-few c = c.requires.few

pub released-requires-clause-some : goal.released-requires-clause-some
released-requires-clause-some c =
    let n = c.requires.some.0 in
    let is : pos c.args.totals.now.shared +ℤ c.args.totals.now.available ≡ c.in-Semaphore.permits +ℤ pos n =
    subst (λ (o : Object). IsUnheldBy o c.args.unheld c.args.totals.now n) c.in-Semaphore.is c.requires.some.1 in
    (n, omega (arith, ints, is))

pub returns-in-Semaphore : goal.returns-in-Semaphore
returns-in-Semaphore c =
    λ n unheld.
    (let is : pos c.args.totals.now.shared +ℤ c.args.totals.now.available ≡ c.in-Semaphore.permits +ℤ pos n =
    subst (λ (o : Object). IsUnheldBy o c.args.unheld c.args.totals.now n) c.in-Semaphore.is unheld in
    c.released.ensures n (omega (arith, ints, is)))
