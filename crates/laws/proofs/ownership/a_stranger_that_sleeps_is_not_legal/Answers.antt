use Rattle.std.proofs.Common.{refl}
use Rattle.laws.proofs.Broken.{stranger_illegal, stranger_nothing}
use Rattle.laws.proofs.ownership.a_stranger_that_sleeps_is_not_legal.Goals as goal

pub returns : goal.returns
returns c = record { away = refl; nothing = stranger_nothing; illegal = stranger_illegal }
