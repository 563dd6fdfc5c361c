-- What a pool does that lends an item to a closure.
use Rattle.std.specs.Prelude.{◌≡◌, true, Result, Ok, Err}
use Rattle.guarded.specs.Below.{Fault, Shown, Interruptible, WhenFull, Deed}
use Rattle.guarded.specs.declared.items.ItemFault.{ItemFault}
use Rattle.guarded.specs.declared.items.ItemFault.TheVariants.{NotAcquired, NotReleased}
use Rattle.guarded.specs.Asking.{CallReturns}
use Rattle.guarded.specs.Pooling.{IsReleased, fetches, gives_back}

-- An item was acquired, the work on it returned this answer, and then its release returned what is told.
pub record IsWorkedOn {T A : Type 0} (w : WhenFull) (did : Deed → Type 0) (works : T → A → T → Type 0)
    (old new : Shown) (answer : A) (told : Result (Unit {0}) (T × Fault)) : Type 0 where
  pub between : Shown
  pub acquired : CallReturns w (fetches did 1 Interruptible) old between (Ok true)
  pub before : T
  pub after : T
  pub worked : works before answer after
  pub released : IsReleased w (gives_back did 1) between new told

-- what a call returns that lends an item
abbrev pub IsLent : {T A : Type 0} → WhenFull → (Deed → Type 0) → (T → A → T → Type 0) → Shown → Shown →
    Result A (ItemFault T A) → Type 0
IsLent w did works old new (Ok answer) = IsWorkedOn w did works old new answer (Ok tt)
IsLent w did works old new (Err (NotAcquired f)) = CallReturns w (fetches did 1 Interruptible) old new (Err f)
IsLent w did works old new (Err (NotReleased answer item f)) =
    IsWorkedOn w did (λ before a after. works before a after × (after ≡ item)) old new answer (Err (item, f))
