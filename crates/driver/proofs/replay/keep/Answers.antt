use Rattle.std.proofs.lemmas.Result.{on_ok_weaker}
use Rattle.driver.proofs.Doing.{line_of_step, spelt_each}
use Rattle.driver.proofs.replay.keep.Goals as goal

pub push_answer-requires : goal.push_answer-requires
push_answer-requires g c =
    let now = c.args.core.now in
    line_of_step _ now _ _ _ c.requires.told.2 (spelt_each now.base now.entries c.recall_lawful.ensures.may_fold.can)

pub returns-in-Some : goal.returns-in-Some
returns-in-Some g c = λ old step is.
    on_ok_weaker c.push.result (λ told. (
      c.args.answer,
      is,
      c.requires.made,
      rw (← c.in-Some.ensures.line c.args.tape.now.count, ← c.in-Some.ensures.adds) told,
    )) c.push.ensures.ok

pub returns : goal.returns
returns g c = λ old step is.
    on_ok_weaker c.push_answer.result
    (λ told. (c.args.answer, is, c.requires.made, told)) c.push_answer.ensures.ok
