-- The holds of a pass.
use Rattle.std.specs.Prelude.{◌≡◌, ◌+◌, ◌<◌, ℕ, Bool, true, Result, Ok, Err}
use Rattle.monitor_fronts.specs.Below.{is_lock, Mode, X, S, Fault, holds_of, Shown}

-- how often the pass's seat holds the lock, or its write lock, by its own entries alone
abbrev pub holds : Shown → ℕ
holds p = holds_of p X

-- the holds that a call added, by what it returns
abbrev pub gained : Result Bool Fault → ℕ
gained (Ok true) = 1
gained _ = 0

-- a result without a yes or no, as one with a yes
abbrev pub with_yes : {A : Type 0} → Result A Fault → Result Bool Fault
with_yes (Ok a) = Ok true
with_yes (Err f) = Err f

-- a call of a lock added a hold if it returned yes, and none if not
abbrev pub Gains : Shown → Result Bool Fault → Shown → Type 0
Gains old told new = is_lock old.lock.header.object ≡ true → holds new ≡ holds old + gained told

-- the other mode
abbrev pub other : Mode → Mode
other X = S
other S = X

-- the pass has as many holds more in a mode as the call added by what it returns, and as many in the other as it had
pub record Adds (m : Mode) (old : Shown) (told : Result Bool Fault) (new : Shown) : Type 0 where
  pub own : holds_of new m ≡ holds_of old m + gained told
  pub others : holds_of new (other m) ≡ holds_of old (other m)

-- the pass has as many holds fewer in a mode as the release took by what it returns, and as many in the other as it had
pub record Takes (m : Mode) (old : Shown) (told : Result Bool Fault) (new : Shown) : Type 0 where
  pub own : holds_of new m + gained told ≡ holds_of old m
  pub others : holds_of new (other m) ≡ holds_of old (other m)

-- a call of a read-write lock adds holds in this mode
abbrev pub AddsIn : Mode → Shown → Result Bool Fault → Shown → Type 0
AddsIn m old told new = is_lock old.lock.header.object ≡ true → Adds m old told new

-- a release by a pass that has holds in this mode takes one of them
abbrev pub TakesIn : Mode → Shown → Result Bool Fault → Shown → Type 0
TakesIn m old told new = is_lock old.lock.header.object ≡ true → 0 < holds_of old m → Takes m old told new
