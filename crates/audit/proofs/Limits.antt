-- Who owns behind a legal front, and what one more entry of it is.
use Rattle.std.proofs.Common.{◌≡◌, ℕ, zero, suc, ◌<◌, arith, true, List, ◌∷◌, refl}
use Rattle.audit.specs.Below.{Entry, X, held, is_lock, Start, IsHistory}
use Rattle.deciding.proofs.Bounds.{owned_by}
use Rattle.audit.specs.inner.Holds.{IsOnlyOwner}
use Rattle.audit.specs.Ledger.{IsNext}

pub only_owner : (s : Start) (h : List Entry) → IsHistory s h → is_lock s.header.object ≡ true →
    IsOnlyOwner s h
only_owner s h past lock i j holds other = by (held s h j X) ((owned_by s h past lock).one i j holds)
  where
    by : (n : ℕ) → (0 < n → i ≡ j) → n ≡ 0
    by zero f = refl
    by (suc n) f = absurd (other (f (omega arith)))

-- one more entry of a legal history
pub one_more : (s : Start) (h : List Entry) (e : Entry) → IsHistory s h → IsNext s h e →
    e.seat < s.header.seats → IsHistory s (e ∷ h)
one_more s h e past next seat =
    record {
      base = past.base;
      good = past.good;
      start = past.start;
      range = past.range;
      legal = (next, past.legal);
      seated = (seat, past.seated);
    }
