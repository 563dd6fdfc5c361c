use Rattle.std.proofs.Common.{◌+◌, length, arith}
use Rattle.condition_queue.specs.Following.{JoinedBy}
use Rattle.condition_queue.proofs.Movable.{joined_next, keeps_next}
use Rattle.audit.proofs.WaitingFollow.{stands_next}
use Rattle.audit.proofs.waiting.Waiting.note.Goals as goal

pub returns : goal.returns
returns c s h st past =
    let e = c.args.entry in
    let moved = c.move_waiters.ensures in
    let joined : JoinedBy (length h + 1 + 1) c.move_waiters.new.queue =
    joined_next s h e c.args.self.now.line c.move_waiters.new.queue c.args.self.now.asleep (length h + 1)
    st.kept st.joins past moved.joined in
    stands_next s h e c.args.self.now _ st c.requires.seat
    (keeps_next s h e _ _ _ _ st.kept moved.line moved.sleepers moved.places moved.beds moved.conditions)
    (omega (arith, joined)) c.save.ensures
