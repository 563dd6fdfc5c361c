-- Entries of an idle seat's steps, which are admitted without a decision.
use Rattle.std.proofs.Common.{◌≡◌, ℕ, false, not, List, Option, Some, None, Result, Ok, refl, ap, ◌∙◌, sym}
use Rattle.audit.specs.Ledger.{IsNext}
use Rattle.audit.specs.Below.{refused_as, Entry, Word, Fault, Step, Acquire, Give, counts, first_mode, Idle, phase, waits, Start, acquired, entry_for, gave, idle_entry, plain}
use Rattle.deciding.proofs.InPhase.{entry_admitted, in_phase_made}

-- a seat is idle, and the object has this step
abbrev pub Begins : Start → List Entry → ℕ → Step → Type 0
Begins s h i step = (phase s h i ≡ Idle) × (refused_as s.header step ≡ None)

abbrev made : Entry → Result (Option Entry) Fault
made e = Ok (Some e)

-- an entry is the next, if a step of its idle seat makes it
next_by : (s : Start) (h : List Entry) (e : Entry) (step : Step) → Begins s h e.seat step →
    waits step ≡ false → idle_entry s h e.seat step ≡ e → IsNext s h e
next_by s h e step begins starts same =
    let idle = ap not starts in
    let entry : Option Entry = Some (idle_entry s h e.seat step) in (
      step,
      entry_admitted s h e.seat step begins.1
          ∙ sym (in_phase_made s h e.seat step Idle entry begins.0 idle refl)
          ∙ ap made same,
    )

-- a plain entry with the word that an acquire, or a release, makes
spelt : (e : Entry) (v w : Word) → e ≡ plain e.seat e.word e.mode e.n → e.word ≡ w → v ≡ w →
    plain e.seat v e.mode e.n ≡ e
spelt e v w is word makes = ap (λ x. plain e.seat x e.mode e.n) (makes ∙ sym word) ∙ sym is

pub acquire_next : (s : Start) (h : List Entry) (e : Entry) (w : Word) →
    e ≡ plain e.seat e.word e.mode e.n → e.word ≡ w → Begins s h e.seat (Acquire e.mode e.n) →
    acquired (counts s h) (first_mode s h) e.seat e.mode e.n ≡ w → IsNext s h e
acquire_next s h e w is word begins makes =
    next_by s h e (Acquire e.mode e.n) begins refl (spelt e _ w is word makes)

pub release_next : (s : Start) (h : List Entry) (e : Entry) (w : Word) →
    e ≡ plain e.seat e.word e.mode e.n → e.word ≡ w → Begins s h e.seat (Give e.mode e.n) →
    gave s.header.object (counts s h) e.seat e.mode e.n ≡ w → IsNext s h e
release_next s h e w is word begins makes =
    next_by s h e (Give e.mode e.n) begins refl (spelt e _ w is word makes)
