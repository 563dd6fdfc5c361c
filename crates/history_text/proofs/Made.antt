-- An entry that a step makes is of the step's seat, and refuses for a fault that is recorded.
use Rattle.std.proofs.Common.{◌≡◌, ℕ, Bool, cond, List, Some, None, subst, arith}
use Rattle.std.proofs.lemmas.Option.{same_Some}
use Rattle.history_text.specs.Below.{Arrival, Entry, Word, Step, Acquire, is_seat, IsRecorded, ready, Phase, Idle, InLine, Sleeping, Start, phase_entry, idle_entry, queued_entry, sleeping_entry, back}
use Rattle.history.specs.declared.entry.End.TheVariants as end
use Rattle.history.specs.declared.fault.Fault.TheVariants as fault
use Rattle.history.specs.declared.entry.Word.TheVariants as word

abbrev pub RefusesByRecorded : Word → Type 0
RefusesByRecorded (word.Refused f) = IsRecorded f
RefusesByRecorded _ = Unit {0}

pub record IsMadeBy (i : ℕ) (e : Entry) : Type 0 where
  pub seat : e.seat ≡ i
  pub fault : RefusesByRecorded e.word

idle_made : (s : Start) (h : List Entry) (i : ℕ) (step : Step) → IsMadeBy i (idle_entry s h i step)
idle_made s h i (Acquire m n) = grind arith
idle_made s h i _ = grind arith

line_made : (s : Start) (h : List Entry) (i : ℕ) (step : Step) (e : Entry) (a : Arrival) (comes goes : Bool) →
    cond comes (cond goes (Some (back s h i)) None) (queued_entry goes i a step) ≡ Some e → IsMadeBy i e
line_made s h i step e a comes goes q = grind arith

sleeping_made : (s : Start) (h : List Entry) (i : ℕ) (step : Step) (e : Entry) →
    sleeping_entry s h i step ≡ Some e → IsMadeBy i e
sleeping_made s h i step e q = grind arith

pub made : (s : Start) (h : List Entry) (i : ℕ) (step : Step) (e : Entry) (p : Phase) →
    phase_entry s h i step p ≡ Some e → IsMadeBy i e
made s h i step e Idle q = subst (IsMadeBy i) (same_Some _ e q) (idle_made s h i step)
made s h i step e (InLine a) q = line_made s h i step e a a.back (is_seat (ready s h) i) q
made s h i step e Sleeping q = sleeping_made s h i step e q
