-- What the calls of a pool ask of its monitor, and what becomes of the items.
use Rattle.std.specs.Prelude.{◌≡◌, ◌⊎◌, ℕ, List, length, Bool, true, false, Result, Ok, Err}
use Rattle.guarded.specs.Below.{Entry, S, Fault, OutOfMemory, Drain, Give, Try, is_timed, IsCallIn, IsEnteredIn, Shown, How, Acquire, WhenFull, number_of, Deed}
use Rattle.guarded.specs.declared.asking.PoolCall.{PoolCall}
use Rattle.guarded.specs.declared.asking.PoolCall.TheVariants as asks
use Rattle.guarded.specs.Asking.{Call, CallReturns}

-- the calls of the monitor
abbrev pub fetches : (Deed → Type 0) → ℕ → How → Call
fetches did n how w old reply new = IsCallIn w did old (Acquire S n) how reply new

abbrev pub tries_fetch : (Deed → Type 0) → ℕ → Call
tries_fetch did n w old reply new = IsEnteredIn w did old (Try S n) reply new

abbrev pub gives_back : (Deed → Type 0) → ℕ → Call
gives_back did n w old reply new = IsEnteredIn w did old (Give S n) reply new

abbrev pub drains : (Deed → Type 0) → Call
drains did w old reply new = IsEnteredIn w did old Drain reply new

-- an acquire without time and a release have no answer 'no'
abbrev pub MayMiss : PoolCall → Type 0
MayMiss (asks.Acquire n how) = is_timed how
MayMiss (asks.Try n) = Unit {0}
MayMiss (asks.Release n) = ⊥

abbrev pub Answers : PoolCall → Result Bool Fault → Type 0
Answers asked (Ok false) = MayMiss asked
Answers asked _ = Unit {0}

-- what a release returned, without the items that it gives back
abbrev pub without_items : {A : Type 0} → Result (Unit {0}) (A × Fault) → Result Bool Fault
without_items (Ok u) = Ok true
without_items (Err e) = Err e.1

-- a release of one item: the pool's answer, or memory for its node was refused, and nothing was done
abbrev pub IsReleased :
    {A : Type 0} → WhenFull → Call → Shown → Shown → Result (Unit {0}) (A × Fault) → Type 0
IsReleased w call old new result =
    CallReturns w call old new (without_items result) ⊎ ((without_items result ≡ Err OutOfMemory) × (new ≡ old))

-- how many items a call returned
abbrev pub how_many : {A : Type 0} → Result (List A) Fault → Result ℕ Fault
how_many (Ok items) = Ok (length items)
how_many (Err f) = Err f

-- a drain had a reply, and returned as many items as its entry took permits
abbrev pub DrainReturns : WhenFull → Call → Shown → Shown → Result ℕ Fault → Type 0
DrainReturns w call old new returned =
    (reply : Result Entry Fault) × call w old reply new × (returned ≡ number_of reply)
