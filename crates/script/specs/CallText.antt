-- How a script spells a call.
use Rattle.std.specs.Prelude.{◌≡◌, ℕ, ◌<◌, ◌^◌, List, [], ◌∷◌, codes, decimal, slice_get, Some}
use Rattle.history.specs.EntryWords.{mode_word}
use Rattle.history.specs.Text.{line_of}
use Rattle.monitor.specs.declared.how.How.TheVariants.{Plain, Interruptible, Timed}
use Rattle.script.specs.Script.{Named}
use Rattle.script.specs.declared.action.Action.{Action}
use Rattle.script.specs.declared.action.Action.TheVariants.{Acquire, TryAcquire, Release, AwaitOn, Signal, SignalAll, Drain, Trim}
use Rattle.script.specs.declared.call.Call.{Call}
use Rattle.script.specs.declared.call.Call.TheVariants.{On, Interrupt}

abbrev pub action_words : Action → List (List ℕ)
action_words (Acquire m n Plain) = codes "acquire" ∷ mode_word m ∷ decimal n ∷ []
action_words (Acquire m n Interruptible) = codes "acquire-interruptible" ∷ mode_word m ∷ decimal n ∷ []
action_words (Acquire m n (Timed ms)) = codes "acquire-timed" ∷ mode_word m ∷ decimal n ∷ decimal ms ∷ []
action_words (TryAcquire m n) = codes "try" ∷ mode_word m ∷ decimal n ∷ []
action_words (Release m n) = codes "give" ∷ mode_word m ∷ decimal n ∷ []
action_words (AwaitOn c Plain) = codes "await" ∷ decimal c ∷ []
action_words (AwaitOn c Interruptible) = codes "await-interruptible" ∷ decimal c ∷ []
action_words (AwaitOn c (Timed ms)) = codes "await-timed" ∷ decimal c ∷ decimal ms ∷ []
action_words (Signal c) = codes "signal" ∷ decimal c ∷ []
action_words (SignalAll c) = codes "signalall" ∷ decimal c ∷ []
action_words Drain = codes "drain" ∷ []
action_words Trim = codes "trim" ∷ []

-- amounts and milliseconds of 32 bits, conditions of 8 bits; the object may lack them, as in a steps text
abbrev pub HasAmounts : Action → Type 0
HasAmounts (Acquire m n Plain) = n < 2 ^ 32
HasAmounts (Acquire m n Interruptible) = n < 2 ^ 32
HasAmounts (Acquire m n (Timed ms)) = (n < 2 ^ 32) × (ms < 2 ^ 32)
HasAmounts (TryAcquire m n) = n < 2 ^ 32
HasAmounts (Release m n) = n < 2 ^ 32
HasAmounts (AwaitOn c Plain) = c < 2 ^ 8
HasAmounts (AwaitOn c Interruptible) = c < 2 ^ 8
HasAmounts (AwaitOn c (Timed ms)) = (c < 2 ^ 8) × (ms < 2 ^ 32)
HasAmounts (Signal c) = c < 2 ^ 8
HasAmounts (SignalAll c) = c < 2 ^ 8
HasAmounts Drain = Unit {0}
HasAmounts Trim = Unit {0}

-- the name of one of the objects and a call of it, or the interrupt of one of the first n threads
abbrev pub Spells : List Named → ℕ → Call → List ℕ → Type 0
Spells objects threads (On place action) text =
    HasAmounts action × ((o : Named) × (slice_get objects place ≡ Some o)
    × (text ≡ line_of (o.0 ∷ action_words action)))
Spells objects threads (Interrupt thread) text =
    (thread < threads) × (text ≡ line_of (codes "interrupt" ∷ decimal thread ∷ []))
