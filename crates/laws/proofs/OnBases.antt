-- What two parts of a history say, where it can be folded.
use Rattle.std.proofs.Common.{◌≡◌, ℕ, List, ◌∷◌, ◌++◌, sym}
use Rattle.laws.specs.Below.{Entry, Step, Base, based, folded, named, CanFold, entry_for}
use Rattle.history.proofs.Alike.{Alike, entry_alike, named_alike}
use Rattle.history.proofs.Folding.{folds_on, goes_on}
use Rattle.history.proofs.Points.{seated_behind}

pub after_fold : (b : Base) (g h : List Entry) → CanFold b (h ++ g) →
    Alike b.header (based b) (based (folded b g)) (h ++ g) h
after_fold b g h can = goes_on b g h can.good (seated_behind (based b) h g can.seated) can.legal

pub entry_after_fold : (b : Base) (g h : List Entry) (i : ℕ) (x : Step) → CanFold b (h ++ g) →
    entry_for (based (folded b g)) h i x ≡ entry_for (based b) (h ++ g) i x
entry_after_fold b g h i x can =
    sym (entry_alike b.header (based b) (based (folded b g)) (h ++ g) h (after_fold b g h can) i x)

pub named_after_fold : (b : Base) (g h : List Entry) (e : Entry) → CanFold b (e ∷ h ++ g) →
    named (based (folded b g)) h e ≡ named (based b) (h ++ g) e
named_after_fold b g h e can =
    sym (named_alike b.header (based b) (based (folded b g)) (h ++ g) h
    (after_fold b g h (record { good = can.good; seated = can.seated.1; legal = can.legal.1 })) e
    (after_fold b g (e ∷ h) can))

pub folds_after_fold : (b : Base) (g h : List Entry) → CanFold b (h ++ g) →
    folded (folded b g) h ≡ folded b (h ++ g)
folds_after_fold b g h can = folds_on b g h can.good (seated_behind (based b) h g can.seated) can.legal
