-- A read-write lock's hooks as at the opening, and the counts that hooks agree with.
use Rattle.std.proofs.Common.{◌≡◌, ℕ, length, refl, sym, ◌∙◌, pos}
use Rattle.read_write.specs.Below.{Counts, S, AreAlike, opening_counts, Owns}
use Rattle.frame.proofs.Owners.{owns_alike, owns_opening, owner_seated}
use Rattle.frame.proofs.Tables.{table_empty}
use Rattle.read_write.specs.State.{Matches, state_of, rw_of, holds_by, IsOpened}
use Rattle.read_write.specs.declared.hooks.RwHooks.{RwHooks}

pub opens_so : (s : RwHooks) (seats : ℕ) → IsOpened s seats → Matches s (opening_counts (rw_of s) seats)
opens_so s seats opened =
    record {
      object = refl;
      seats = sym opened.table;
      owns = owns_opening s.owner s.writes (rw_of s) seats opened.no_owner;
      shared = λ i. sym (table_empty s.reads.items s.readers s.summed opened.no_readers i);
    }

pub same_policy : (s : RwHooks) (k : Counts) → Matches s k → k.object ≡ rw_of s
same_policy s k h = h.object

pub alike_so : (s : RwHooks) (k l : Counts) → AreAlike k l → Matches s k → Matches s l
alike_so s k l same h =
    record {
      object = same.object ∙ h.object;
      seats = same.seats ∙ h.seats;
      owns = owns_alike s.owner s.writes k l same h.owns;
      shared = λ i. same.held i S ∙ h.shared i;
    }

abbrev some_counts_of : RwHooks → Counts
some_counts_of s =
    record {
      object = rw_of s;
      seats = length s.reads.items;
      held = holds_by (state_of s);
      free = pos 0;
      count = 0;
    }

pub some_counts : (s : RwHooks) → (k : Counts) × Matches s k
some_counts s =
    let owns : Owns s.owner s.writes (some_counts_of s) =
    record { held = λ i. refl; seat = owner_seated s.owner (length s.reads.items) s.seated } in
    (some_counts_of s, record { object = refl; seats = refl; owns = owns; shared = λ i. refl })
