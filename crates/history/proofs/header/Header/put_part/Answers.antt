use Rattle.std.proofs.Common.{rules, ◌++◌, [], codes, decimal}
use Rattle.history.specs.Spelling.{policy_word}
use Rattle.history.proofs.Writing.{rest_put}
use Rattle.history.proofs.header.Header.put_part.Goals as goal

pub returns-in_ok-put_kind-in-Lock-clause-ok : goal.returns-in_ok-put_kind-in-Lock-clause-ok
returns-in_ok-put_kind-in-Lock-clause-ok c =
    rw c.in-Lock.is (rest_put _ _ _ _ (codes "lock ") (policy_word c.in-Lock.policy)
    (codes " seats " ++ decimal c.args.self.now.seats) _ c.in_ok-put_kind-in-Lock.ensures.ok
    c.put_conditions.ensures.ok)

pub returns-in_ok-put_kind-in-ReadWrite-clause-ok : goal.returns-in_ok-put_kind-in-ReadWrite-clause-ok
returns-in_ok-put_kind-in-ReadWrite-clause-ok c =
    rw c.in-ReadWrite.is (rest_put _ _ _ _ (codes "rw ") (policy_word c.in-ReadWrite.policy)
    (codes " seats " ++ decimal c.args.self.now.seats) _ c.in_ok-put_kind-in-ReadWrite.ensures.ok
    c.put_conditions-in-ReadWrite.ensures.ok)

pub returns-in_ok-put_kind-in-Semaphore-clause-ok : goal.returns-in_ok-put_kind-in-Semaphore-clause-ok
returns-in_ok-put_kind-in-Semaphore-clause-ok c =
    let put = rest_put _ _ _ _ (codes "semaphore ") (policy_word c.in-Semaphore.policy)
    (codes " seats " ++ decimal c.args.self.now.seats) _ c.in_ok-put_kind-in-Semaphore.ensures.ok
    c.put_opening_permits.ensures.ok in
    rw c.in-Semaphore.is (search (rules, put))

pub returns-in_ok-put_named-in-Latch-clause-ok : goal.returns-in_ok-put_named-in-Latch-clause-ok
returns-in_ok-put_named-in-Latch-clause-ok c =
    rw c.in-Latch.is (rest_put _ _ _ _ (codes "latch seats ") [] _ _
    (rw c.from.ensures at c.in_ok-put_named-in-Latch.ensures.ok) c.put_count.ensures.ok)
