-- What the calls of a pool ask of its monitor, and what becomes of the items.
use Rattle.std.specs.Prelude.{◌≡◌, if◌then◌else◌, ℕ, Bool, false, Result, length}
use Rattle.guarded.specs.Below.{Fault, is_done, Deed}
use Rattle.guarded.specs.declared.asking.PoolCall.{PoolCall}
use Rattle.guarded.specs.declared.asking.PoolCall.TheVariants as asks
use Rattle.guarded.specs.declared.shelf.Shelf.{Shelf}
use Rattle.guarded.specs.Asking.{Call}
use Rattle.guarded.specs.Pooling.{Answers, fetches, gives_back, tries_fetch}

abbrev pub pool_call : (Deed → Type 0) → PoolCall → Call
pool_call did (asks.Acquire n how) = fetches did n how
pool_call did (asks.Try n) = tries_fetch did n
pool_call did (asks.Release n) = gives_back did n

-- how many items a call brings
abbrev pub brought_by : PoolCall → ℕ
brought_by (asks.Release n) = n
brought_by _ = 0

-- how many items it asks for
abbrev pub asked_by : PoolCall → ℕ
asked_by (asks.Acquire n how) = n
asked_by (asks.Try n) = n
asked_by (asks.Release n) = 0

-- how many items the caller has after a call, by what it returned
abbrev pub has_after : PoolCall → Result Bool Fault → ℕ
has_after asked returned = if is_done returned then asked_by asked else brought_by asked

-- what a call leaves on its shelf by what it returned, and it may return that
pub record Ends {T I : Type 0} (asked : PoolCall) (returned : Result Bool Fault) (old new : Shelf T I) :
    Type 0 where
  pub answers : Answers asked returned
  pub has : length new.items ≡ has_after asked returned
  pub keeps : is_done returned ≡ false → new ≡ old
