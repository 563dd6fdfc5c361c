use Rattle.std.proofs.Common.{length}
use Rattle.std.specs.Vec.{vec_len}
use Rattle.streams.specs.UnderWay.{AreRead}
use Rattle.steps.specs.StepsText.{steps_form, steps_so_far}
use Rattle.steps.proofs.steps_text.read_steps.Given as goal

abbrev pub invariant-loop-acts : goal.invariant-loop-acts
invariant-loop-acts l = record {
  read : AreRead steps_form l.text (steps_so_far l.header (vec_len l.acts)) l.acts.items l.rest;
}

abbrev pub decreases-loop-acts : goal.decreases-loop-acts
decreases-loop-acts l = length l.rest
