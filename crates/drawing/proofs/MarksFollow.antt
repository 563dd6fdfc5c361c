-- That marks and curve follow each entry.
use Rattle.std.proofs.Common.{◌≡◌, ℕ, ◌<◌, ◌≤◌, List, ◌∷◌, ◌++◌, length, refl, sym, lt-ltb, le-ltb, append-nil}
use Rattle.drawing.specs.Below.{Entry, Start}
use Rattle.drawing.specs.Prelude.{amount_of, curve, point, barges, mark_of, marks, sign_at}

pub no_mark : (s : Start) (from : ℕ) (e : Entry) (h : List Entry) → length h < from →
    marks s from h ≡ marks s from (e ∷ h)
no_mark s from e h less = rw (lt-ltb (length h) from less) (sym (append-nil (marks s from h)))

pub one_mark : (s : Start) (from : ℕ) (e : Entry) (h : List Entry) → from ≤ length h →
    marks s from h ++ mark_of (length h) e.seat (sign_at (barges s e h) e.word e.end) ≡ marks s from (e ∷ h)
one_mark s from e h drawn = rw (le-ltb (length h) from drawn) refl

pub no_point : (s : Start) (from : ℕ) (e : Entry) (h : List Entry) → length h < from →
    curve s from h ≡ curve s from (e ∷ h)
no_point s from e h less = rw (lt-ltb (length h) from less) (sym (append-nil (curve s from h)))

pub one_point : (s : Start) (from : ℕ) (e : Entry) (h : List Entry) → from ≤ length h →
    curve s from h ++ point (amount_of s.header.object s (e ∷ h)) ≡ curve s from (e ∷ h)
one_point s from e h drawn = rw (le-ltb (length h) from drawn) refl
