use Rattle.std.proofs.Common.{◌≤◌, length, reverse, sym, ◌∙◌, subst, arith}
use Rattle.std.proofs.lemmas.List.{length-reverse}
use Rattle.driver.specs.Prelude.{IsGathered}
use Rattle.driver.proofs.EntryLines.{told_all, told_more}
use Rattle.driver.proofs.Gathering.{front_of_all, gathered_more, gathers_failed}
use Rattle.streams.proofs.Written.{not_true}
use Rattle.driver.proofs.answers.put_entries.Goals as goal

pub returns-in_err-put_answer-clause-adds : goal.returns-in_err-put_answer-clause-adds
returns-in_err-put_answer-clause-adds g c =
    let so_far = c.loop-place.invariant.added in
    gathers_failed _ _ c.args.lines.now.bytes _ _ c.from_residual.result c.from_residual.ensures.0
    (front_of_all _ _ _ c.args.lines.now.bytes c.loop-place.lines.bytes so_far.0 _ _ _ so_far.1
    c.in_err-put_answer.ensures.adds (told_more (reverse c.args.history.now.entries) c.args.first
    c.loop-place.place c.in-Some.entry so_far.0 (sym c.get.ensures ∙ c.in-Some.is) so_far.2))

pub loop-place-preserved : goal.loop-place-preserved
loop-place-preserved g c =
    let so_far = c.loop-place.invariant.added in
    record {
      going =
          not_true (g.W.Sink.failed c.put_answer.new.writer) (λ t. c.in_ok-put_answer.ensures.failing.0 t);
      added = (
        _,
        gathered_more _ _ _ c.args.lines.now.bytes c.loop-place.lines.bytes c.put_answer.new.self.bytes
            so_far.0 _ so_far.1 c.in_ok-put_answer.ensures.adds,
        told_more (reverse c.args.history.now.entries) c.args.first c.loop-place.place c.in-Some.entry so_far.0
            (sym c.get.ensures ∙ c.in-Some.is) so_far.2,
      );
    }

pub returns-clause-adds : goal.returns-clause-adds
returns-clause-adds g c =
    let es = reverse c.args.history.now.entries in
    let so_far = c.loop-place.invariant.added in
    let all : length es ≤ c.loop-place.place =
    omega (
      arith,
      length-reverse c.args.history.now.entries,
      c.loop-place-test.false,
      c.len-place-end.ensures.value,
    ) in
    subst (IsGathered _ _ _ _) (told_all es c.args.first c.loop-place.place so_far.0 all so_far.2) so_far.1
