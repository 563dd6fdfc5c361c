use Rattle.std.proofs.Common.{arith, refl}
use Rattle.std.proofs.KnownBytes.{Keeps-refl}
use Rattle.driver.specs.Below.{BadLine, steps_form, steps_so_far}
use Rattle.streams.proofs.Faults.{err_is}
use Rattle.steps.proofs.ShortSteps.{ended_short, short}
use Rattle.steps.proofs.StepsLawful.{lawful}
use Rattle.driver.specs.TextReader.{reader_at}
use Rattle.driver.proofs.ReadingAhead.{ended_here, fault_ahead, item_ahead, keeps_stays, line_within, not_counted, stands_here, stands_still}
use Rattle.driver.proofs.StepsAhead.{next_act}
use Rattle.driver.proofs.step_reader.StepReader.next.Goals as goal

pub pass-requires : goal.pass-requires
pass-requires g c =
    let held = c.self.inside in
    let is = rw (c.in-Ok-Some.field-0-is, c.bytes.ensures.bytes) at c.in-Ok-Some.ensures.line in
    rw (← c.self.view_is) (line_within steps_form (steps_so_far held.header held.count) held.window.bytes
    c.in-Ok-Some.act c.in-Ok-Some.left is)

pub returns-in_ok-pass-in-Ok-Some-clause-next : goal.returns-in_ok-pass-in-Ok-Some-clause-next
returns-in_ok-pass-in-Ok-Some-clause-next g c = λ text steps were.
    let held = c.self.inside in
    let so_far = steps_so_far held.header held.count in
    let is = rw (c.in-Ok-Some.field-0-is, c.bytes.ensures.bytes) at c.in-Ok-Some.ensures.line in
    let here = rw (← c.self.view_is) at were in
    rw (c.in_ok-pass-in-Ok-Some.ensures.ok, ← c.self.view_is)
    (item_ahead steps_form text so_far so_far.known held.window.bytes (g.R.Source.left c.args.reader.now)
    steps c.in-Ok-Some.act c.in-Ok-Some.left is (λ known. tt) here)

pub returns-in_ok-pass-in-Ok-Some-clause-seated : goal.returns-in_ok-pass-in-Ok-Some-clause-seated
returns-in_ok-pass-in-Ok-Some-clause-seated g c =
    let held = c.self.inside in
    let is = rw (c.in-Ok-Some.field-0-is, c.bytes.ensures.bytes) at c.in-Ok-Some.ensures.line in
    rw (← c.self.view_is) (next_act held.header held.count held.window.bytes c.in-Ok-Some.act
    c.in-Ok-Some.left is)

pub returns-in_err-pass-in-Ok-Some-clause-next : goal.returns-in_err-pass-in-Ok-Some-clause-next
returns-in_err-pass-in-Ok-Some-clause-next g c =
    let held = c.self.inside in
    let passed = c.from_residual in
    let full = err_is passed.result c.in_err-pass-in-Ok-Some.field-0.0 passed.ensures in
    let so_far = steps_so_far held.header held.count in
    let left = g.R.Source.left c.args.reader.now in
    rw (full, c.in_err-pass-in-Ok-Some.ensures.err, ← c.self.view_is)
    (not_counted steps_form so_far held.window.bytes held.window.bytes left left
    (reader_at so_far held.window.bytes left) c.self.invariant.3 (Keeps-refl _))

pub returns-in_err-pass-in-Ok-Some-clause-stands : goal.returns-in_err-pass-in-Ok-Some-clause-stands
returns-in_err-pass-in-Ok-Some-clause-stands g c =
    rw c.in_err-pass-in-Ok-Some.ensures.kept
    (stands_here _ (g.R.Source.left c.args.reader.now) c.from_residual.result)

pub end_of-requires-clause-end : goal.end_of-requires-clause-end
end_of-requires-clause-end g c =
    let held = c.self.inside in
    let last = (rw (c.in-Ok-None.field-0-is, c.bytes.ensures.bytes) at c.in-Ok-None.ensures.last) refl in
    omega (arith, ended_short _ held.count (omega (arith, c.self.invariant.0)) last)

pub returns-in-Ok-None-clause-next : goal.returns-in-Ok-None-clause-next
returns-in-Ok-None-clause-next g c =
    let held = c.self.inside in
    let is = rw (c.in-Ok-None.field-0-is, c.bytes.ensures.bytes) at c.in-Ok-None.ensures.line in
    rw (← c.self.view_is)
    (ended_here steps_form (steps_so_far held.header held.count) held.window.bytes c.end_of.new.window.bytes
    (g.R.Source.left c.args.reader.now) (g.R.Source.left c.end_of.new.reader) c.end_of.result _ is
    c.end_of.ensures.after c.end_of.ensures.stays)

pub returns-in-Ok-None-clause-stands : goal.returns-in-Ok-None-clause-stands
returns-in-Ok-None-clause-stands g c =
    rw (← c.self.view_is)
    (stands_still c.self.inside.window.bytes c.end_of.new.window.bytes (g.R.Source.left c.args.reader.now)
    (g.R.Source.left c.end_of.new.reader) c.end_of.result c.end_of.ensures.stays)

pub returns-in-Err-BadLine-clause-next : goal.returns-in-Err-BadLine-clause-next
returns-in-Err-BadLine-clause-next g c =
    let held = c.self.inside in
    let so_far = steps_so_far held.header held.count in
    let left = g.R.Source.left c.args.reader.now in
    let is = rw (c.in-Err-BadLine.field-0-is, c.bytes.ensures.bytes) at c.in-Err-BadLine.ensures.line in
    rw (← c.self.view_is) (λ text steps were. fault_ahead steps_form text so_far held.window.bytes
    held.window.bytes left left steps (BadLine c.in-Err-BadLine.line) lawful short
    (keeps_stays _ _ left left (Keeps-refl _)) is (λ e. cc) were)

pub returns-in-Err-BadLine-clause-stands : goal.returns-in-Err-BadLine-clause-stands
returns-in-Err-BadLine-clause-stands g c =
    let left = g.R.Source.left c.args.reader.now in
    keeps_stays c.args.self.now.bytes c.args.self.now.bytes left left (Keeps-refl _)
