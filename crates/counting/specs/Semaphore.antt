-- What the fields of a semaphore's hooks represent: the free permits alone.
use Rattle.std.proofs.Common.{◌≡◌, ℕ, ℤ, refl, ap, sym, ◌∙◌}
use Rattle.history.specs.declared.header.Object.{Object}
use Rattle.history.specs.declared.header.Object.TheVariants.{Semaphore}
use Rattle.history.specs.declared.header.Policy.{Policy}
use Rattle.history.specs.Counts.{Counts}
use Rattle.history.specs.Object.{is_semaphore}
use Rattle.frame.specs.Hooks.{AreAlike, opening_counts}
use Rattle.counting.specs.declared.semaphore.SemaphoreHooks.{SemaphoreHooks}

-- The counts are those of a semaphore with this number of free permits, whoever holds the others.
pub record MatchesBy (p : Policy) (permits free : ℤ) (k : Counts) : Type 0 where
  pub object : k.object ≡ Semaphore p permits
  pub level : k.free ≡ free

abbrev pub Matches : SemaphoreHooks → Counts → Type 0
Matches s k = MatchesBy s.policy s.permits s.free k

abbrev pub semaphore_of : SemaphoreHooks → Object
semaphore_of s = Semaphore s.policy s.permits

-- all permits are free, whatever the number of seats
abbrev pub IsOpened : SemaphoreHooks → ℕ → Type 0
IsOpened s seats = s.free ≡ s.permits

pub opens_so : (s : SemaphoreHooks) (seats : ℕ) → IsOpened s seats →
    Matches s (opening_counts (semaphore_of s) seats)
opens_so s seats opened = record { object = refl; level = sym opened }

pub same_semaphore : (s : SemaphoreHooks) (k : Counts) → Matches s k → k.object ≡ semaphore_of s
same_semaphore s k h = h.object

pub alike_so : (s : SemaphoreHooks) (k l : Counts) → AreAlike k l → Matches s k → Matches s l
alike_so s k l same h =
    record { object = same.object ∙ h.object; level = same.free (ap is_semaphore h.object) ∙ h.level }

abbrev some_counts_of : SemaphoreHooks → Counts
some_counts_of s = record { object = semaphore_of s; seats = 1; held = λ i m. 0; free = s.free; count = 0 }

pub some_counts : (s : SemaphoreHooks) → (k : Counts) × Matches s k
some_counts s = (some_counts_of s, record { object = refl; level = refl })
