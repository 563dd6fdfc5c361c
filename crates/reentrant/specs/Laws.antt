-- A lock's hooks as at the opening, and the counts that hooks agree with.
use Rattle.std.proofs.Common.{◌≡◌, ℕ, Option, refl, pos, ◌∙◌}
use Rattle.history.specs.declared.entry.Mode.{Mode}
use Rattle.history.specs.declared.entry.Mode.TheVariants.{X, S}
use Rattle.history.specs.Counts.{Counts}
use Rattle.frame.specs.Hooks.{AreAlike, opening_counts}
use Rattle.frame.specs.Owners.{holds_of, Owns}
use Rattle.frame.proofs.Owners.{owns_alike, owns_opening, seats_for, owner_below}
use Rattle.reentrant.specs.Lock.{Matches, lock_of, IsOpened}
use Rattle.reentrant.specs.declared.lock.LockHooks.{LockHooks}

pub opens_so : (s : LockHooks) (seats : ℕ) → IsOpened s seats → Matches s (opening_counts (lock_of s) seats)
opens_so s seats opened =
    record {
      object = refl;
      owns = owns_opening s.owner s.holds (lock_of s) seats opened;
      none_shared = λ i. refl;
    }

pub same_policy : (s : LockHooks) (k : Counts) → Matches s k → k.object ≡ lock_of s
same_policy s k h = h.object

pub alike_so : (s : LockHooks) (k l : Counts) → AreAlike k l → Matches s k → Matches s l
alike_so s k l same h =
    record {
      object = same.object ∙ h.object;
      owns = owns_alike s.owner s.holds k l same h.owns;
      none_shared = λ i. same.held i S ∙ h.none_shared i;
    }

abbrev held_by : Option ℕ → ℕ → ℕ → Mode → ℕ
held_by o holds i X = holds_of o holds i
held_by o holds i S = 0

abbrev some_counts_of : LockHooks → Counts
some_counts_of s =
    record {
      object = lock_of s;
      seats = seats_for s.owner;
      held = held_by s.owner s.holds;
      free = pos 0;
      count = 0;
    }

pub some_counts : (s : LockHooks) → (k : Counts) × Matches s k
some_counts s =
    let owns : Owns s.owner s.holds (some_counts_of s) =
    record { held = λ i. refl; seat = owner_below s.owner } in
    (some_counts_of s, record { object = refl; owns = owns; none_shared = λ i. refl })
