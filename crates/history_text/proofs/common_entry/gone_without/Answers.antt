use Rattle.std.proofs.Common.{refl, arith}
use Rattle.history_text.proofs.CommonLines.{written_once}
use Rattle.streams.proofs.AskingOnce.{one_spelt}
use Rattle.history_text.proofs.common_entry.gone_without.Goals as goal

pub returns-in-Some-clause-begins : goal.returns-in-Some-clause-begins
returns-in-Some-clause-begins c =
    rw c.once.ensures (
      written_once _ _ _ _ (refl, tt),
      rw one_spelt (c.in-Some.rest.now, c.in-Some.ensures, refl),
    )

pub returns-in-Some-behind-clause-begins : goal.returns-in-Some-behind-clause-begins
returns-in-Some-behind-clause-begins c =
    rw c.once-in-Some-behind.ensures (
      written_once _ _ _ _ (refl, tt),
      rw one_spelt (c.in-Some-behind.rest.now, c.in-Some-behind.ensures, refl),
    )

pub returns-clause-begins : goal.returns-clause-begins
returns-clause-begins c =
    rw c.once-2.ensures (
      written_once _ _ _ _ (refl, refl, omega arith),
      rw one_spelt (c.in_ok-rest.rest.now, c.in_ok-rest.ensures, refl),
    )
