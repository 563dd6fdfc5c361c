use Rattle.std.proofs.Common.{◌<◌, ap, ◌∙◌, arith, length}
use Rattle.std.proofs.lemmas.List.{get_or_read}
use Rattle.audit.specs.Waiting.{never_slept}
use Rattle.deciding.specs.Sleep.{sleep_of}
use Rattle.audit.proofs.situation.LedgerObjectState.last_sleep.Goals as goal

pub returns : goal.returns
returns c s h st away =
    let seats = c.requires.2.waits.seats in
    let seat = c.requires.3 in
    let within : c.args.seat < length c.args.self.now.waiting.last_sleep.items = omega (arith, seats, seat) in
    ap sleep_of (get_or_read _ _ _ within c.index.ensures never_slept) ∙ st.waits.slept c.args.seat
