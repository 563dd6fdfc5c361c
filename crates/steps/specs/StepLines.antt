-- The lines of a steps text.
use Rattle.std.specs.Prelude.{◌≡◌, ℕ, ◌<◌, ◌^◌, List, [], ◌∷◌, ◌++◌, codes, decimal}
use Rattle.steps.specs.Below.{Act, Do, Trim, Step, Acquire, Try, TryFair, EntryInterrupt, Give, Look, Expire, Interrupt, Await, Signal, SignalAll, Drain, mode_word, part_of, line_of}
use Rattle.steps.specs.declared.header.Format.{Format}
use Rattle.steps.specs.declared.header.Format.TheVariants.{One, Two}
use Rattle.steps.specs.declared.header.StepsHeader.{StepsHeader}

abbrev pub step_words : Step → List (List ℕ)
step_words (Acquire m n) = codes "acquire" ∷ mode_word m ∷ decimal n ∷ []
step_words (Try m n) = codes "try" ∷ mode_word m ∷ decimal n ∷ []
step_words (TryFair m n) = codes "tryfair" ∷ mode_word m ∷ decimal n ∷ []
step_words (EntryInterrupt m n) = codes "entryinterrupt" ∷ mode_word m ∷ decimal n ∷ []
step_words (Give m n) = codes "give" ∷ mode_word m ∷ decimal n ∷ []
step_words Look = codes "look" ∷ []
step_words Expire = codes "expire" ∷ []
step_words Interrupt = codes "interrupt" ∷ []
step_words (Await c) = codes "await" ∷ decimal c ∷ []
step_words (Signal c) = codes "signal" ∷ decimal c ∷ []
step_words (SignalAll c) = codes "signalall" ∷ decimal c ∷ []
step_words Drain = codes "drain" ∷ []

-- amounts of 32 bits, conditions of 8 bits; the object may lack them, so a text can ask for too much
abbrev pub HasAmounts : Step → Type 0
HasAmounts (Acquire m n) = n < 2 ^ 32
HasAmounts (Try m n) = n < 2 ^ 32
HasAmounts (TryFair m n) = n < 2 ^ 32
HasAmounts (EntryInterrupt m n) = n < 2 ^ 32
HasAmounts (Give m n) = n < 2 ^ 32
HasAmounts Look = Unit {0}
HasAmounts Expire = Unit {0}
HasAmounts Interrupt = Unit {0}
HasAmounts (Await c) = c < 2 ^ 8
HasAmounts (Signal c) = c < 2 ^ 8
HasAmounts (SignalAll c) = c < 2 ^ 8
HasAmounts Drain = Unit {0}

-- a step of one of the seats
abbrev pub IsStep : ℕ → ℕ × Step → Type 0
IsStep seats s = (s.0 < seats) × HasAmounts s.1

-- the seat, a space and the step
abbrev pub step_line : ℕ × Step → List ℕ
step_line s = line_of (decimal s.0 ∷ step_words s.1)

-- An act under a header. Only a text of format 2 has trims.
abbrev pub IsAct : StepsHeader → Act → Type 0
IsAct h (Do seat step) = IsStep h.header.seats (seat, step)
IsAct h Trim = h.format ≡ Two

-- a trim has no seat
abbrev pub act_line : Act → List ℕ
act_line (Do seat step) = step_line (seat, step)
act_line Trim = codes "trim"

abbrev pub name_of : Format → List ℕ
name_of One = codes "aqs-steps 1 "
name_of Two = codes "aqs-steps 2 "

abbrev pub header_line : StepsHeader → List ℕ
header_line h = name_of h.format ++ part_of h.header

abbrev pub end_line : ℕ → List ℕ
end_line count = codes "end " ++ decimal count
