use Rattle.std.proofs.Common.{◌≡◌, ◌≤◌, length, take, vec_len, vec_capacity}
use Rattle.frame.specs.Runs.{AreAnswered}
use Rattle.frame.proofs.run.run.Given as goal

-- the steps so far are answered, and each answer has a place
abbrev pub invariant-loop-seat : goal.invariant-loop-seat
invariant-loop-seat g l =
    record {
      answered : AreAnswered l.fn.core (take l.seat-index l.steps) l.answers.items l.core;
      header : l.core.header ≡ l.fn.core.header;
      counted : vec_len l.answers ≡ l.seat-index;
      room : length l.steps ≤ vec_capacity l.answers;
    }
