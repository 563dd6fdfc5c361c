use Rattle.word_lock.specs.Held.{held_ticket}
use Rattle.monitor.proofs.Around.{went}
use Rattle.monitor.proofs.Taking.{follows_made, seat_taken, share_fits}
use Rattle.monitor.proofs.section.signal_taken.Goals as goal

pub signal-told-requires-clause-seat : goal.signal-told-requires-clause-seat
signal-told-requires-clause-seat g c = seat_taken _ _ _ _ _ c.requires.taken.1

pub unlock_quietly-requires-clause-follows : goal.unlock_quietly-requires-clause-follows
unlock_quietly-requires-clause-follows g c =
    let k = c.requires.taken.1 in
    follows_made c.requires.taken.0 (held_ticket c.args.held) c.args.held.value.laden.value.core
    c.signal-told.new.self.laden.value.core c.args.seat c.args.share.now c.args.step c.signal-told.result k.taken
    k.was k.kept c.signal-told.ensures.kept c.signal-told.ensures.stepped.answered

pub share_behind-requires : goal.share_behind-requires
share_behind-requires g c = share_fits _ _ _ c.requires.taken.1.was

pub returns : goal.returns
returns g c = record {
  went = λ t k.
      went t (held_ticket c.args.held) c.unlock_quietly.new.token c.args.held.value.laden.value.core
      c.signal-told.new.self.laden.value.core c.args.seat c.args.share.now
      record { took = k; given = c.unlock_quietly.ensures; kept = c.signal-told.ensures.kept } c.args.step c.signal-told.result
      c.signal-told.ensures.stepped c.share_behind.result c.share_behind.ensures;
}
