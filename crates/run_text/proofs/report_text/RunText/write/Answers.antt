use Rattle.std.proofs.Common.{rules, ◌<◌, ◌≤◌, ◌+◌, ap, length, subst, sym, take, take_all}
use Rattle.std.specs.List.{concat}
use Rattle.std.specs.Io.KnownBytes.{Appends}
use Rattle.std.proofs.KnownBytes.{Appends-trans}
use Rattle.streams.specs.Writing.{AppendsFront}
use Rattle.std.proofs.lemmas.Result.{on_err_weaker}
use Rattle.driver.proofs.Gathering.{if_failed}
use Rattle.run_text.proofs.Written.{concat_more, front_behind, front_of_all}
use Rattle.run_text.proofs.report_text.RunText.write.Goals as goal

pub returns-in_err-write-clause-err : goal.returns-in_err-write-clause-err
returns-in_err-write-clause-err g c =
    let parts = c.deref-part-items.result.now in
    let i = c.loop-part.part-index in
    let within : i < length parts = search rules in
    let front = front_behind _ _ _ (concat (take i parts)) c.part-item.result c.loop-part.invariant.written
    c.in_err-write.ensures.err in
    if_failed c.from_residual.result _
    (subst (AppendsFront _ _) (sym c.loop-part.invariant.whole)
    (front_of_all _ _ parts (i + 1) c.self.inside.last.items
    (subst (AppendsFront _ _) (sym (concat_more parts i c.part-item.result within c.part-item.is)) front)))

pub loop-part-preserved : goal.loop-part-preserved
loop-part-preserved g c =
    let parts = c.deref-part-items.result.now in
    let i = c.loop-part.part-index in
    let within : i < length parts = search rules in
    record {
      going = search rules;
      none = c.in_ok-write.ensures.none;
      written = subst (Appends _ _) (sym (concat_more parts i c.part-item.result within c.part-item.is))
          (Appends-trans _ _ _ (concat (take i parts)) c.part-item.result c.loop-part.invariant.written
          c.in_ok-write.ensures.ok);
      whole = c.loop-part.invariant.whole;
    }

pub returns-clause-err : goal.returns-clause-err
returns-clause-err g c =
    let parts = c.deref-part-items.result.now in
    let i = c.loop-part.part-index in
    let all : length parts ≤ i = search rules in
    let written = subst (Appends _ _) (ap concat (take_all i parts all)) c.loop-part.invariant.written in
    on_err_weaker c.write_all.result (λ front. subst (AppendsFront _ _) (sym c.loop-part.invariant.whole)
    (front_behind _ _ _ (concat parts) c.self.inside.last.items written (rw c.deref.ensures.value at front)))
    c.write_all.ensures.err
