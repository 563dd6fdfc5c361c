use Rattle.std.proofs.Common.{◌≡◌, ◌+◌, ◌∷◌, ◌++◌, [], take, get_or, ◌∙◌, arith, take_all}
use Rattle.std.proofs.lemmas.List.{take_more}
use Rattle.frame.specs.Prelude.{Act, Do, AreDone}
use Rattle.frame.specs.Below.{X, Acquire}
use Rattle.frame.proofs.Acting.{all_done, done_more}
use Rattle.frame.proofs.acts.run_acts.Goals as goal

pub loop-act-preserved : goal.loop-act-preserved
loop-act-preserved g c =
    let i = c.loop-act.act-index in
    let xs = c.args.acts.now in
    let inv = c.loop-act.invariant in
    let d : Act = Do 0 (Acquire X 0) in
    let items = c.push_reserved.ensures.items in
    let len = c.push_reserved.ensures.len in
    let taken : take (i + 1) xs ≡ take i xs ++ get_or xs i d ∷ [] =
    take_more xs i d c.loop-act-test.true in
    let more =
    done_more c.args.core.now c.loop-act.core c.perform-outcome.new.core (take i xs) c.loop-act.done.items
    (get_or xs i d) c.perform-outcome.result inv.done c.perform-outcome.ensures.done in
    record {
      done = rw taken (rw items more);
      header = c.perform-outcome.ensures.header ∙ inv.header;
      counted = omega (arith, len, inv.counted);
      room = let r = c.push_reserved.ensures.capacity in omega (arith, inv.room, r);
    }

pub returns-clause-outcome : goal.returns-clause-outcome
returns-clause-outcome g c =
    let xs = c.args.acts.now in
    let inv = c.loop-act.invariant in
    let all : take c.loop-act.act-index xs ≡ xs =
    take_all _ xs (let l = c.loop-act-test.false in omega (arith, l)) in
    let done : AreDone c.args.core.now xs c.loop-act.done.items c.loop-act.core = rw all at inv.done in
    λ none. all_done c.args.core.now c.loop-act.core xs c.loop-act.done.items done none
