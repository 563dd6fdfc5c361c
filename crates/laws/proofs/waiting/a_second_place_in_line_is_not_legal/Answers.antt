use Rattle.laws.proofs.OutOfOrder.{queued_illegal, waits_twice}
use Rattle.laws.proofs.waiting.a_second_place_in_line_is_not_legal.Goals as goal

pub returns : goal.returns
returns c = record { twice = waits_twice; illegal = queued_illegal }
