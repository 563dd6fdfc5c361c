use Rattle.std.proofs.Common.{◌+◌, arith, refl}
use Rattle.std.proofs.KnownBytes.{Keeps-refl}
use Rattle.streams.specs.declared.fault.TextFault.TheVariants.{BadLine}
use Rattle.history_text.proofs.ShortEntries.{ended_short}
use Rattle.driver.specs.contracts.history_reader.HistoryReader.{the_view}
use Rattle.driver.proofs.EntriesAhead.{entries_ended, entry_failed, entry_here, few_calls, few_entries}
use Rattle.driver.proofs.ReadingAhead.{keeps_stays, stands_still}
use Rattle.driver.proofs.history_reader.HistoryReader.next.Goals as goal

pub pass-requires : goal.pass-requires
pass-requires g c =
    let next = rw (c.in-Ok-Some.field-0-is, c.bytes.ensures.bytes) at c.in-Ok-Some.ensures.shorter in
    (omega (arith, next), rw c.in-Ok-Some.field-0-is at c.in-Ok-Some.ensures.within)

pub returns-in-Ok-Some-clause-next : goal.returns-in-Ok-Some-clause-next
returns-in-Ok-Some-clause-next g c = rw (← c.self.view_is) (λ text es were.
    let held = c.self.inside in
    let is = rw (c.in-Ok-Some.field-0-is, c.bytes.ensures.bytes) at c.in-Ok-Some.ensures.line in
    let within = rw c.in-Ok-Some.field-0-is at c.in-Ok-Some.ensures.within in
    rw c.pass.ensures
    (entry_here _ _ es held.place text held.window.bytes (g.R.Source.left c.args.reader.now)
    c.in-Ok-Some.entry c.in-Ok-Some.left (rw c.self.invariant.5.0 within) (rw c.self.invariant.5.0 is) were))

pub returns-in-Ok-Some-clause-counted : goal.returns-in-Ok-Some-clause-counted
returns-in-Ok-Some-clause-counted g c =
    let within = rw c.in-Ok-Some.field-0-is at c.in-Ok-Some.ensures.within in
    rw (← c.self.view_is, c.pass.ensures)
    (refl, omega (arith, within), rw c.in-Ok-Some.field-0-is at c.in-Ok-Some.ensures.seated)

pub end_of-requires-clause-end : goal.end_of-requires-clause-end
end_of-requires-clause-end g c =
    let held = c.self.inside in
    let i = c.self.invariant in
    let last = rw (c.in-Ok-None.field-0-is, c.bytes.ensures.bytes) at c.in-Ok-None.ensures.line in
    omega (
      arith,
      ended_short _ (held.place.folded + held.place.count) held.place.calls
          (few_entries held.header held.place i.4 i.0 i.3)
          (few_calls held.header held.place i.4 i.0 i.1) last,
    )

pub returns-in-Ok-None-clause-next : goal.returns-in-Ok-None-clause-next
returns-in-Ok-None-clause-next g c =
    let held = c.self.inside in
    let left = g.R.Source.left c.args.reader.now in
    let is = rw (c.in-Ok-None.field-0-is, c.bytes.ensures.bytes) at c.in-Ok-None.ensures.line in
    rw (← c.self.view_is)
    (entries_ended (the_view c.self.inside) _ held.window.bytes c.end_of.new.window.bytes left left
    (g.R.Source.left c.end_of.new.reader) c.end_of.result c.self.invariant.5.0 (Keeps-refl _) is
    c.end_of.ensures.after c.end_of.ensures.stays)

pub returns-in-Ok-None-clause-stands : goal.returns-in-Ok-None-clause-stands
returns-in-Ok-None-clause-stands g c =
    rw (← c.self.view_is)
    (stands_still c.self.inside.window.bytes c.end_of.new.window.bytes (g.R.Source.left c.args.reader.now)
    (g.R.Source.left c.end_of.new.reader) c.end_of.result c.end_of.ensures.stays)

pub returns-in-Err-BadLine-clause-next : goal.returns-in-Err-BadLine-clause-next
returns-in-Err-BadLine-clause-next g c =
    let held = c.self.inside in
    let left = g.R.Source.left c.args.reader.now in
    let is = rw (c.in-Err-BadLine.field-0-is, c.bytes.ensures.bytes) at c.in-Err-BadLine.ensures.line in
    rw (← c.self.view_is) (entry_failed (the_view held) (the_view held) held.window.bytes left left
    (BadLine c.in-Err-BadLine.line) c.self.invariant.5.0 (keeps_stays _ _ left left (Keeps-refl _)) is
    (λ e. cc))

pub returns-in-Err-BadLine-clause-stands : goal.returns-in-Err-BadLine-clause-stands
returns-in-Err-BadLine-clause-stands g c =
    let held = c.self.inside in
    let left = g.R.Source.left c.args.reader.now in
    rw (← c.self.view_is) (keeps_stays held.window.bytes held.window.bytes left left (Keeps-refl _))
