use Rattle.std.proofs.Common.{◌≡◌, ℕ, ◌+◌, ◌∷◌, ◌++◌, [], take, get_or, ◌∙◌, arith, take_all}
use Rattle.std.proofs.lemmas.List.{take_more}
use Rattle.frame.specs.Below.{X, Step, Acquire}
use Rattle.frame.specs.Runs.{AreAnswered}
use Rattle.frame.proofs.Runs.{answered_more, all_results}
use Rattle.frame.proofs.run.run.Goals as goal

pub loop-seat-preserved : goal.loop-seat-preserved
loop-seat-preserved g c =
    let i = c.loop-seat.seat-index in
    let xs = c.args.steps.now in
    let inv = c.loop-seat.invariant in
    let d : ℕ × Step = (0, Acquire X 0) in
    let items = c.push_reserved.ensures.items in
    let len = c.push_reserved.ensures.len in
    let taken : take (i + 1) xs ≡ take i xs ++ get_or xs i d ∷ [] = take_more xs i d c.loop-seat-test.true in
    let more =
    answered_more c.args.core.now c.loop-seat.core c.step-answer.new.self (take i xs)
    c.loop-seat.answers.items
    (get_or xs i d) c.step-answer.result inv.answered c.step-answer.ensures.answered
    c.step-answer.ensures.told in
    record {
      answered = rw taken (rw items more);
      header = c.step-answer.ensures.header ∙ inv.header;
      counted = omega (arith, len, inv.counted);
      room = let r = c.push_reserved.ensures.capacity in omega (arith, inv.room, r);
    }

pub returns-clause-results : goal.returns-clause-results
returns-clause-results g c =
    let xs = c.args.steps.now in
    let inv = c.loop-seat.invariant in
    let all : take c.loop-seat.seat-index xs ≡ xs =
    take_all _ xs (let l = c.loop-seat-test.false in omega (arith, l)) in
    let answered : AreAnswered c.args.core.now xs c.loop-seat.answers.items c.loop-seat.core =
    rw all at inv.answered in
    λ none. all_results c.args.core.now c.loop-seat.core xs c.loop-seat.answers.items answered none
