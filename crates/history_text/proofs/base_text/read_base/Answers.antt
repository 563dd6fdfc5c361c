use Rattle.std.proofs.Common.{◌∙◌, ◌∷◌, ◌++◌, [], length, refl, sym, ap, subst, arith, length-append}
use Rattle.history.specs.Text.{ended}
use Rattle.streams.proofs.Faults.{fault_passed}
use Rattle.streams.proofs.UnderWay.{left_over}
use Rattle.history_text.specs.Prelude.{base_line, Place, history_form, AreEntriesRead, LinesRead, GoodBeginsSo, IsToldBase}
use Rattle.history_text.proofs.BaseTextRead.{line_begins, place_behind, told_few, whole_begins}
use Rattle.history_text.proofs.base_text.read_base.Goals as goal

pub loop-base-init : goal.loop-base-init
loop-base-init c =
    record {
      begins = λ text begun. rw c.in-Ok.ensures.opened begun;
      header = ap (λ r. r.header) c.in-Ok.ensures.opened;
      few = omega arith;
    }

pub returns-in_err-left-clause-ahead : goal.returns-in_err-left-clause-ahead
returns-in_err-left-clause-ahead c = λ text begun.
    fault_passed history_form _ text c.from_residual.result c.in_err-left.field-0.0 c.from_residual.ensures
    (c.in_err-left.ensures.line.1 text c.args.head.now c.requires.based (sym c.loop-base.invariant.header)
    (c.loop-base.invariant.begins text begun))

pub loop-base-preserved : goal.loop-base-preserved
loop-base-preserved c =
    let h = c.args.head.now in
    let was = c.loop-base.invariant in
    let rest = c.loop-base.rest.now in
    let taken = rw c.in-Some.is at c.in_ok-left.ensures.line in
    let ahead = taken.2.1 in
    let line = ended (base_line taken.0) in
    let last = left_over rest line ahead.0 c.in-Some.left ahead.1 ahead.2 in
    let good = subst (λ k. GoodBeginsSo k (c.loop-base.base.lines ++ taken.0 ∷ [])) was.header taken.2.0 in
    record {
      begins = λ text begun.
          line_begins text h c.requires.based c.loop-base.base.lines _ rest ahead.0 _ taken.0
          (was.begins text begun) good ahead.1 taken.1 last;
      header = c.in_ok-left.ensures.header ∙ was.header;
      few = omega (arith, was.few, ap length ahead.1, length-append line ahead.0, ap length last);
    }

pub returns-clause-ahead : goal.returns-clause-ahead
returns-clause-ahead c = λ text begun.
    let h = c.args.head.now in
    let found = rw c.in_default-2.is at c.in_ok-left.ensures.line in
    let base = c.finish-base.ensures.base in
    let header = c.in_ok-left.ensures.header ∙ c.loop-base.invariant.header in
    let lines = base.1 ∙ ap (λ (r : LinesRead). r.lines) found.0 in (
      c.loop-base.rest.now,
      refl,
      subst (λ (p : Place). AreEntriesRead text h c.finish-base.result.0 [] p c.loop-base.rest.now)
          (sym (c.finish-base.ensures.place
          ∙ ap (λ (r : LinesRead). place_behind c.finish-base.result.0 r.lines) found.0))
          (whole_begins text h c.requires.based c.loop-base.base.lines c.loop-base.rest.now
          c.finish-base.result.0 (subst (λ k. IsToldBase k c.finish-base.result.0) header base.0) lines
          (c.loop-base.invariant.begins text begun) found.1.1),
    )

pub returns-clause-early : goal.returns-clause-early
returns-clause-early c =
    let header = c.in_ok-left.ensures.header ∙ c.loop-base.invariant.header in
    let told = subst (λ k. IsToldBase k c.finish-base.result.0) header c.finish-base.ensures.base.0 in
    let few = told_few c.args.head.now c.finish-base.result.0 told in
    let lines = c.in_ok-left.ensures.few in (
      rw c.finish-base.ensures.place
          (record { lines = omega (arith, lines); folded = few.0; count = refl; calls = few.1 }),
      c.loop-base.invariant.few,
    )
