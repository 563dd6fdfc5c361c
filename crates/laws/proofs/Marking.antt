-- What is said of marks after a fold, and with all marks cleared.
use Rattle.std.proofs.Common.{◌≡◌, ℕ, Bool, List, ◌++◌, refl, ◌∙◌, sym, true≢false}
use Rattle.laws.specs.Below.{Entry, Base, based, folded, AreTold, unmarked, CanFold, opening}
use Rattle.history.proofs.Alike.{ready_alike}
use Rattle.laws.proofs.OnBases.{after_fold}
use Rattle.laws.specs.OutOfTurn.{fair_lock, given_to_a_waiter}

pub told_after_fold : (b : Base) (g h : List Entry) (m : ℕ → Bool) → CanFold b (h ++ g) →
    AreTold (based b) (h ++ g) m → AreTold (based (folded b g)) h m
told_after_fold b g h m can told i r =
    told i (ready_alike b.header (based b) (based (folded b g)) (h ++ g) h (after_fold b g h can) ∙ r)

pub waiter_forgotten : AreTold (opening fair_lock) given_to_a_waiter unmarked → ⊥
waiter_forgotten told = true≢false (sym (told 1 refl))
