use Rattle.std.proofs.Common.{ap}
use Rattle.monitor.specs.Below.{held_ticket, Ticket}
use Rattle.monitor.specs.inner.AtOnce.{reply_of}
use Rattle.monitor.specs.inner.Sections.{Taking, Went}
use Rattle.monitor.proofs.Around.{trades_by, went}
use Rattle.monitor.proofs.Taking.{carries_left, carries_taken, follows_made, seat_taken, share_fits}
use Rattle.monitor.proofs.section.step_taken.Goals as goal

pub step-named-requires-clause-seat : goal.step-named-requires-clause-seat
step-named-requires-clause-seat g c = seat_taken _ _ _ _ _ c.requires.taken.1

pub step-named-requires-clause-carries : goal.step-named-requires-clause-carries
step-named-requires-clause-carries g c =
    carries_taken _ _ _ _ _ c.requires.taken.1 g.L.Load.carries c.args.load.now c.requires.taken.2

pub unlock_quietly-requires-clause-follows : goal.unlock_quietly-requires-clause-follows
unlock_quietly-requires-clause-follows g c =
    let k = c.requires.taken.1 in
    follows_made c.requires.taken.0 (held_ticket c.args.held) c.args.held.value.laden.value.core
    c.step-named.new.self.laden.value.core c.args.seat c.args.share.now c.args.step (reply_of c.args.seat c.args.step c.step-named.result c.step-named.new.answer) k.taken k.was
    k.kept c.step-named.ensures.kept c.step-named.ensures.stepped.answered

pub share_after-requires : goal.share_after-requires
share_after-requires g c = share_fits _ _ _ c.requires.taken.1.was

gone : (g : _) (c : goal.After-share_after g) (t : Ticket) → Taking t (held_ticket c.args.held)
    c.args.held.value.laden.value.core c.args.seat c.args.share.now → Went t c.unlock_quietly.new.token
    c.args.seat c.args.share.now c.share_after.result c.args.step (reply_of c.args.seat c.args.step c.step-named.result c.step-named.new.answer)
gone g c t k =
    went t (held_ticket c.args.held) c.unlock_quietly.new.token c.args.held.value.laden.value.core
    c.step-named.new.self.laden.value.core c.args.seat c.args.share.now
    record { took = k; given = c.unlock_quietly.ensures; kept = c.step-named.ensures.kept } c.args.step (reply_of c.args.seat c.args.step c.step-named.result c.step-named.new.answer)
    c.step-named.ensures.stepped c.share_after.result (c.share_after.ensures c.args.seat c.args.step)

pub returns-clause-went : goal.returns-clause-went
returns-clause-went g c = gone g c

pub returns-clause-carries : goal.returns-clause-carries
returns-clause-carries g c =
    carries_left g.L.Load.carries c.step-named.new.there c.unlock_quietly.new.token _ _ _
    (gone g c c.requires.taken.0 c.requires.taken.1).called.shows (ap (λ (z : Ticket). z.seen) c.unlock_quietly.ensures)
    c.step-named.ensures.carries

pub returns-clause-trades : goal.returns-clause-trades
returns-clause-trades g c = λ t k.
    trades_by t (held_ticket c.args.held) c.unlock_quietly.new.token c.args.held.value.laden.value.core
    c.step-named.new.self.laden.value.core c.args.seat c.args.share.now
    record { took = k; given = c.unlock_quietly.ensures; kept = c.step-named.ensures.kept } c.args.step
    (reply_of c.args.seat c.args.step c.step-named.result c.step-named.new.answer)
    c.step-named.ensures.stepped c.share_after.result (c.share_after.ensures c.args.seat c.args.step) g.L.Load.fit
    g.L.Load.is_counted g.L.Load.amount c.args.load.now c.step-named.new.there c.step-named.ensures.moves
    c.step-named.ensures.stays
