use Rattle.std.proofs.Common.{◌++◌, [], ap, sym, ◌∙◌, subst, arith}
use Rattle.driver.specs.Below.{IsOfSeats, Header, Memory, StepsHeader, steps_form, steps_so_far}
use Rattle.streams.proofs.Faults.{err_is}
use Rattle.driver.specs.StepReader.{progress}
use Rattle.driver.specs.inner.Answering.{Answered}
use Rattle.driver.proofs.Doing.{of_seats, spelt_on}
use Rattle.driver.proofs.Driven.{answered_none, answered_act, answered_all, answered_more}
use Rattle.driver.proofs.StepsAhead.{no_text}
use Rattle.driver.proofs.ReadingAhead.{goes_on, kept, no_further}
use Rattle.driver.proofs.replay.replay.Goals as goal
use Rattle.driver.proofs.replay.replay.Goals.{In_ok-answer_commons}

-- what was answered after the common steps
so_far : (g : _) (c : In_ok-answer_commons g) →
    Answered (progress c.args.steps.now (g.R.Source.left c.args.reader.now))
    (progress c.answer_commons.new.steps (g.R.Source.left c.loop-tape.reader)) c.args.core.now
    (record { lines = []; count = 0 }) c.answer_commons.new.core c.answer_commons.new.tape
so_far g c =
    let left = g.R.Source.left c.loop-tape.reader in
    answered_more _ (progress c.loop-tape.steps left) _ _ c.loop-tape.core _ _ c.loop-tape.tape _
    c.loop-tape.invariant.answered (c.in_ok-answer_commons.ensures.ok left)

pub answer_commons-requires : goal.answer_commons-requires
answer_commons-requires g c =
    let was = c.loop-tape.invariant.answered in
    was.object ∙ c.requires.header ∙ ap (λ (k : StepsHeader). k.header) (sym was.same)

pub answer_act-requires : goal.answer_act-requires
answer_act-requires g c =
    let a = so_far g (goal.at.answer_act-requires g c).In_ok-answer_commons in
    subst (λ (k : Header). IsOfSeats k.seats c.in-Some.act)
    (ap (λ (h : StepsHeader). h.header) a.same ∙ sym (a.object ∙ c.requires.header))
    (of_seats c.answer_commons.new.steps.header c.in-Some.act (rw c.in-Some.is at c.in_ok-act.ensures.seated))

pub loop-tape-init : goal.loop-tape-init
loop-tape-init g c = record {
  going = c.requires.reader;
  answered = rw c.new-tape.ensures (answered_none _ c.args.core.now _);
}

pub loop-tape-preserved : goal.loop-tape-preserved
loop-tape-preserved g c =
    let a = so_far g (goal.at.loop-tape-preserved g c).In_ok-answer_commons in
    let left = g.R.Source.left c.next.new.reader in
    record {
      going = goes_on c.in_ok-act.field-0 (g.R.Source.failed c.next.new.reader)
          (λ t. c.in_ok-act.ensures.failing.1 t);
      answered = answered_more _ _ (progress c.next.new.self left) _ _ c.answer_act.new.core _ _
          c.answer_act.new.tape a
          (answered_act _ _ c.in-Some.act _ _ _ _ left (rw c.in-Some.is at c.in_ok-act.ensures.next)
          c.in_ok-act.ensures.header c.in_ok-answer_act.ensures);
    }

pub loop-tape-smaller : goal.loop-tape-smaller
loop-tape-smaller g c =
    omega (arith, c.in_ok-answer_commons.ensures.further, rw c.in-Some.is at c.in_ok-act.ensures.counted, c.in_ok-act.ensures.few)

pub returns-in_default-clause-ok : goal.returns-in_default-clause-ok
returns-in_default-clause-ok g c =
    answered_all _ _ (progress c.next.new.self (g.R.Source.left c.next.new.reader)) c.args.core.now
    c.answer_commons.new.core c.answer_commons.new.tape (g.R.Source.left c.next.new.reader)
    c.requires.base c.requires.fresh (rw c.in_default.is at c.in_ok-act.ensures.next)
    (record {
      legal = c.recall_lawful.ensures.legal;
      seated = c.recall_lawful.ensures.seated;
      in_order = c.recall_lawful.ensures.order;
      in_fair_order = c.recall_lawful.ensures.fair;
    }) (so_far g (goal.at.returns-in_default-clause-ok g c).In_ok-answer_commons)

pub returns-in_default-clause-based : goal.returns-in_default-clause-based
returns-in_default-clause-based g c =
    let a = so_far g (goal.at.returns-in_default-clause-based g c).In_ok-answer_commons in (
      c.recall_lawful.ensures.header ∙ a.object ∙ c.requires.header,
      c.recall_lawful.ensures.may_fold.can.good,
    )

pub returns-in_default-clause-spelt : goal.returns-in_default-clause-spelt
returns-in_default-clause-spelt g c =
    let core = c.answer_commons.new.core in
    spelt_on core.base core.entries c.recall_lawful.ensures.may_fold.can

pub returns-in_default-clause-memory : goal.returns-in_default-clause-memory
returns-in_default-clause-memory g c = λ text items were.
    let a = so_far g (goal.at.returns-in_default-clause-memory g c).In_ok-answer_commons in
    let held = c.answer_commons.new.steps in
    let after = g.R.Source.left c.next.new.reader in
    let now = steps_so_far held.header held.count in
    no_further steps_form text now c.next.new.self.bytes after (items ++ a.acts) c.in_ok-act.ensures.held
    (kept steps_form text now _ _ (items ++ a.acts) (rw c.in_default.is at c.in_ok-act.ensures.stands)
    (a.read text items were))

pub returns-in_err-answer_commons-clause-err : goal.returns-in_err-answer_commons-clause-err
returns-in_err-answer_commons-clause-err g c =
    let a = c.loop-tape.invariant.answered in
    rw (err_is c.from_residual.result Memory c.from_residual.ensures) (λ text items were.
    c.in_err-answer_commons.ensures.err (g.R.Source.left c.loop-tape.reader) text (items ++ a.acts)
    (a.read text items were))

pub returns-in_err-act-clause-err : goal.returns-in_err-act-clause-err
returns-in_err-act-clause-err g c =
    let a = so_far g (goal.at.returns-in_err-act-clause-err g c).In_ok-answer_commons in
    let passed = c.from_residual-in_err-act in
    rw (err_is passed.result c.in_err-act.field-0.0 passed.ensures) (λ text items were.
    c.in_err-act.ensures.next text (items ++ a.acts) (a.read text items were))

pub returns-in_err-answer_act-clause-err : goal.returns-in_err-answer_act-clause-err
returns-in_err-answer_act-clause-err g c =
    let a = so_far g (goal.at.returns-in_err-answer_act-clause-err g c).In_ok-answer_commons in
    let next = rw c.in-Some.is at c.in_ok-act.ensures.next in
    let held = c.next.new.self in
    let passed = c.from_residual-in_err-answer_act in
    rw (err_is passed.result Memory passed.ensures) (λ text items were.
    no_further steps_form text (steps_so_far held.header held.count) held.bytes
    (g.R.Source.left c.next.new.reader) _ c.in_ok-act.ensures.held
    (next text (items ++ a.acts) (a.read text items were)))

pub returns-in_err-read_to_fault-clause-err : goal.returns-in_err-read_to_fault-clause-err
returns-in_err-read_to_fault-clause-err g c =
    let a = so_far g (goal.at.returns-in_err-read_to_fault-clause-err g c).In_ok-answer_commons in
    let next = rw c.in-Some.is at c.in_ok-act.ensures.next in
    let passed = c.from_residual-in_err-read_to_fault in
    rw (err_is passed.result c.in_err-read_to_fault.field-0.0 passed.ensures) (λ text items were.
    c.in_err-read_to_fault.ensures.err text _ (next text (items ++ a.acts) (a.read text items were)))

pub returns-then-count-gt-MOST_ACTS-clause-err : goal.returns-then-count-gt-MOST_ACTS-clause-err
returns-then-count-gt-MOST_ACTS-clause-err g c = λ text items were.
    let a = so_far g (goal.at.returns-then-count-gt-MOST_ACTS-clause-err g c).In_ok-answer_commons in
    let next = rw c.in-Some.is at c.in_ok-act.ensures.next in
    no_text steps_form (progress c.next.new.self (g.R.Source.left c.next.new.reader)) text _ _
    c.in_ok-read_to_fault.ensures.none (next text (items ++ a.acts) (a.read text items were))
