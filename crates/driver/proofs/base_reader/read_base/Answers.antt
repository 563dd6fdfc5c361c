use Rattle.std.proofs.Common.{◌∙◌, [], map, ap, subst, sym}
use Rattle.driver.specs.Below.{Place, LinesRead, Based, IsToldBase, history_form}
use Rattle.history_text.proofs.BaseTextRead.{place_behind}
use Rattle.driver.specs.BaseReader.{EntriesBehind, IsPlacedBehind}
use Rattle.driver.specs.inner.BaseReader.{lines_known}
use Rattle.driver.proofs.BaseAhead.{base_placed, base_read}
use Rattle.driver.proofs.ReadingAhead.{goes_on, kept}
use Rattle.driver.proofs.base_reader.read_base.Goals as goal

pub loop-base-preserved : goal.loop-base-preserved
loop-base-preserved g c =
    let was = c.loop-base.invariant in
    let line = c.in_ok-take_line.ensures in
    let taken = rw c.if-branch.true at line.taken in
    record {
      going = goes_on c.in_ok-take_line.field-0 (g.R.Source.failed c.take_line.new.reader)
          (λ t. line.failing.1 t);
      places = line.places ∙ was.places;
      held = line.held;
      header = line.header ∙ was.header;
      few = line.few;
      under = λ text begun.
          taken.1 text c.args.head.now c.requires.based (sym was.header) (was.under text begun);
    }

pub returns-clause-read : goal.returns-clause-read
returns-clause-read g c = λ text begun.
    let h = c.args.head.now in
    let was = c.loop-base.invariant in
    let window = c.take_line.new.window.bytes in
    let after = g.R.Source.left c.take_line.new.reader in
    let found = rw c.if-branch.false at c.in_ok-take_line.ensures.taken in
    let xs = c.loop-base.base.lines in
    let header = c.in_ok-take_line.ensures.header ∙ was.header in
    let whole = subst (λ k. IsToldBase k c.finish.result.0) header c.finish.ensures.base.0 in
    let lines = c.finish.ensures.base.1 ∙ ap (λ (r : LinesRead). r.lines) found.0 in
    subst (λ (p : Place). EntriesBehind text h c.finish.result.0 [] p window after)
    (sym (c.finish.ensures.place
    ∙ ap (λ (r : LinesRead). place_behind c.finish.result.0 r.lines) found.0))
    (base_read h c.requires.based c.finish.result.0 xs whole lines window after found.2 found.3 text
    (kept history_form text (lines_known h (map Based xs)) _ _ (map Based xs) found.4 (was.under text begun)))

pub returns-clause-place : goal.returns-clause-place
returns-clause-place g c =
    let h = c.args.head.now in
    let was = c.loop-base.invariant in
    let found = rw c.if-branch.false at c.in_ok-take_line.ensures.taken in
    let header = c.in_ok-take_line.ensures.header ∙ was.header in
    let whole = subst (λ k. IsToldBase k c.finish.result.0) header c.finish.ensures.base.0 in
    let lines = c.finish.ensures.base.1 ∙ ap (λ (r : LinesRead). r.lines) found.0 in
    subst (IsPlacedBehind c.finish.result.0)
    (sym (c.finish.ensures.place
    ∙ ap (λ (r : LinesRead). place_behind c.finish.result.0 r.lines) found.0))
    (base_placed h c.requires.based c.finish.result.0 c.loop-base.base.lines whole lines was.few)
