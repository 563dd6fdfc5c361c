-- What the fields of a latch's hooks represent: the count alone.
use Rattle.std.proofs.Common.{◌≡◌, ℕ, pos, refl, sym, ◌∙◌}
use Rattle.std.proofs.Math.Nat.{sub-zero}
use Rattle.history.specs.declared.header.Object.{Object}
use Rattle.history.specs.declared.header.Object.TheVariants.{Latch}
use Rattle.history.specs.Counts.{Counts}
use Rattle.frame.specs.Hooks.{AreAlike, opening_counts}
use Rattle.counting.specs.declared.latch.LatchHooks.{LatchHooks}

-- The counts are those of a latch with this count.
pub record MatchesBy (opening count : ℕ) (k : Counts) : Type 0 where
  pub object : k.object ≡ Latch opening
  pub level : k.count ≡ count

abbrev pub Matches : LatchHooks → Counts → Type 0
Matches s k = MatchesBy s.opening s.count k

abbrev pub latch_of : LatchHooks → Object
latch_of s = Latch s.opening

-- it was never counted down, whatever the number of seats
abbrev pub IsOpened : LatchHooks → ℕ → Type 0
IsOpened s seats = s.count ≡ s.opening

pub opens_so : (s : LatchHooks) (seats : ℕ) → IsOpened s seats → Matches s (opening_counts (latch_of s) seats)
opens_so s seats opened = record { object = refl; level = sub-zero _ ∙ sym opened }

pub same_latch : (s : LatchHooks) (k : Counts) → Matches s k → k.object ≡ latch_of s
same_latch s k h = h.object

pub alike_so : (s : LatchHooks) (k l : Counts) → AreAlike k l → Matches s k → Matches s l
alike_so s k l same h = record { object = same.object ∙ h.object; level = same.count ∙ h.level }

abbrev some_counts_of : LatchHooks → Counts
some_counts_of s = record { object = latch_of s; seats = 1; held = λ i m. 0; free = pos 0; count = s.count }

pub some_counts : (s : LatchHooks) → (k : Counts) × Matches s k
some_counts s = (some_counts_of s, record { object = refl; level = refl })
