use Rattle.run_text.proofs.Appending.{timed_await}
use Rattle.run_text.proofs.call_text.put_await.Goals as goal

pub returns-in_ok-put-in-Timed : goal.returns-in_ok-put-in-Timed
returns-in_ok-put-in-Timed c =
    rw c.in-Timed.is (timed_await c.put-in-Timed-2.result _ _ _ c.args.condition c.in-Timed.ms
    (rw c.from-in-Timed.ensures at c.in_ok-put-in-Timed.ensures)
    (rw c.from-in-Timed-2.ensures at c.put-in-Timed-2.ensures))
