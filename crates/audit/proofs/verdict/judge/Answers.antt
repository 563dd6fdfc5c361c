use Rattle.std.proofs.Common.{◌<◌, ◌≤◌, List, arith, length, sym, subst, ◌∙◌}
use Rattle.audit.specs.Below.{Entry, start_on}
use Rattle.audit.specs.Auditor.{HasJudged}
use Rattle.audit.specs.Verdict.{IsJudgement, front}
use Rattle.audit.proofs.Fronts.{front_all, front_length, front_next, next_seat}
use Rattle.audit.proofs.verdict.judge.Goals as goal

pub follow-requires : goal.follow-requires
follow-requires c =
    let s = start_on c.args.header.now c.args.history.now in
    let h = c.args.history.now.entries in
    let n = c.loop-number.number in
    let end = c.len-number-end.ensures in
    let less : n < length h = omega (arith, c.loop-number-test.true, end.value) in
    let long = front_length h n (omega (arith, less)) in
    record {
      start = s;
      entries = front n h;
      judged = c.loop-number.invariant;
      seat = next_seat s h n c.in-Some.entry c.requires.seated less (sym c.get.ensures
          ∙ c.in-Some.is);
      room = omega (arith, long, less, end.value, end.few);
    }

pub loop-number-preserved : goal.loop-number-preserved
loop-number-preserved c =
    let s = start_on c.args.header.now c.args.history.now in
    let h = c.args.history.now.entries in
    let n = c.loop-number.number in
    let less : n < length h = omega (arith, c.loop-number-test.true, c.len-number-end.ensures.value) in
    let q = sym c.get.ensures ∙ c.in-Some.is in
    let J : List Entry → Type 0 = λ x. HasJudged s x c.follow.new.self in
    subst J (sym (front_next h n c.in-Some.entry less q))
    (c.follow.ensures s (front n h) c.loop-number.invariant
    (next_seat s h n c.in-Some.entry c.requires.seated less q))

pub judgement-requires : goal.judgement-requires
judgement-requires c =
    let h = c.args.history.now.entries in
    let n = c.loop-number.number in
    let end = c.len-number-end.ensures in
    let long = front_length h n (omega (arith, c.loop-number.auto.number-end, end.value)) in
    record {
      start = start_on c.args.header.now c.args.history.now;
      entries = front n h;
      judged = c.loop-number.invariant;
      room = omega (arith, long, c.loop-number.auto.number-end, end.few);
    }

pub returns-clause-judged : goal.returns-clause-judged
returns-clause-judged c =
    let s = start_on c.args.header.now c.args.history.now in
    let h = c.args.history.now.entries in
    let n = c.loop-number.number in
    let all : length h ≤ n = omega (arith, c.loop-number-test.false, c.len-number-end.ensures.value) in
    let J : List Entry → Type 0 = λ x. IsJudgement s x c.judgement.result in
    subst J (front_all h n all) (c.judgement.ensures s (front n h) c.loop-number.invariant)
