-- A line begins the text.
use Rattle.std.proofs.Common.{◌≡◌, ℕ, List, [], ◌∷◌, ◌++◌, append_assoc, refl, sym, ap, ◌∙◌, decimal}
use Rattle.steps.specs.Below.{Step, Acquire, Try, TryFair, EntryInterrupt, Give, Look, Expire, Interrupt, Await, Signal, SignalAll, Drain, ended, line_of}
use Rattle.steps.specs.StepLines.{step_line, step_words}

-- a step's line is its seat, a space and the words of the step
seat_first : (seat : ℕ) (s : Step) → step_line (seat, s) ≡ decimal seat ++ 32 ∷ line_of (step_words s)
seat_first seat (Acquire m n) = refl
seat_first seat (Try m n) = refl
seat_first seat (TryFair m n) = refl
seat_first seat (EntryInterrupt m n) = refl
seat_first seat (Give m n) = refl
seat_first seat Look = refl
seat_first seat Expire = refl
seat_first seat Interrupt = refl
seat_first seat (Await c) = refl
seat_first seat (Signal c) = refl
seat_first seat (SignalAll c) = refl
seat_first seat Drain = refl

pub behind_seat : (text seat more rest : List ℕ) (s : ℕ × Step) → text ≡ seat ++ 32 ∷ more →
    seat ≡ decimal s.0 → more ≡ ended (line_of (step_words s.1)) ++ rest → text ≡ ended (step_line s) ++ rest
behind_seat text seat more rest s parts is words =
    let step = line_of (step_words s.1) in
    let line : ended (step_line s) ≡ seat ++ 32 ∷ ended step = ap ended (seat_first s.0 s.1)
    ∙ append_assoc (decimal s.0) (32 ∷ step) (10 ∷ [])
    ∙ ap (λ (t : List ℕ). t ++ 32 ∷ ended step) (sym is) in
    parts ∙ ap (λ (t : List ℕ). seat ++ 32 ∷ t) words ∙ sym (append_assoc seat (32 ∷ ended step) rest)
    ∙ ap (λ (t : List ℕ). t ++ rest) (sym line)
