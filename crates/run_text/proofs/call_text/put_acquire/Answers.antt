use Rattle.run_text.proofs.Appending.{timed_acquire}
use Rattle.run_text.proofs.call_text.put_acquire.Goals as goal

pub returns-in_ok-put_asked-in-Timed : goal.returns-in_ok-put_asked-in-Timed
returns-in_ok-put_asked-in-Timed c =
    rw c.in-Timed.is (timed_acquire c.put.result _ _ _ c.args.mode c.args.n c.in-Timed.ms
    c.in_ok-put_asked-in-Timed.ensures (rw c.from.ensures at c.put.ensures))
