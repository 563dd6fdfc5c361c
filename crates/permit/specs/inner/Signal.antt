-- The signals of a seat in its word.
use Rattle.std.specs.Prelude.{◌≡◌, ℕ, ◌/◌, ◌%◌, Bool, true, Option, Some, None}
use Rattle.permit.specs.declared.parking.Woke.{Woke}
use Rattle.permit.specs.declared.parking.Woke.TheVariants as woke
use Rattle.permit.specs.declared.signals.Signal.{Signal}
use Rattle.permit.specs.declared.signals.Signal.TheVariants.{Permit, Interrupt}

-- what the signal adds to the word
abbrev pub bit_of : Signal → ℕ
bit_of Permit = 1
bit_of Interrupt = 2

-- why a park that takes it ends
abbrev pub woke_by : Signal → Woke
woke_by Permit = woke.Permit
woke_by Interrupt = woke.Interrupted

-- the word has the signal
abbrev pub IsSet : Signal → ℕ → Type 0
IsSet Permit word = word % 2 ≡ 1
IsSet Interrupt word = (word / 2) % 2 ≡ 1

-- The signal of the word that a park takes: a park that isn't interruptible takes no interrupt. One that is takes
-- it before a permit.
abbrev pub IsAwaited : ℕ → Bool → Option Signal → Type 0
IsAwaited word minds (Some Interrupt) = (minds ≡ true) × IsSet Interrupt word
IsAwaited word minds (Some Permit) = IsSet Permit word × (minds ≡ true → IsSet Interrupt word → ⊥)
IsAwaited word minds None = (IsSet Permit word → ⊥) × (minds ≡ true → IsSet Interrupt word → ⊥)
