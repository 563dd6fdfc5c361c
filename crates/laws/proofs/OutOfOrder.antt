-- Why the histories out of turn break their laws, and why none of them is legal.
use Rattle.std.proofs.Common.{◌≡◌, ℕ, ◌≤◌, false, List, [], ◌∷◌, Option, Some, refl, arith, true≢false}
use Rattle.std.proofs.lemmas.Option.{none-some}
use Rattle.laws.specs.Below.{Arrival, Entry, X, IsLegal, Arrived, IsFairOrder, IsInOrder, Idle, InLine, opening, IsOneWait}
use Rattle.history.specs.declared.entry.Word.TheVariants as word
use Rattle.history.specs.declared.fault.Fault.TheVariants as fault
use Rattle.history.specs.declared.step.Step.TheVariants as step
use Rattle.history.proofs.Entering.{Known, known}
use Rattle.laws.specs.OutOfTurn.{fair_lock, gave_first, got_past_the_line, granted_out_of_turn, of, queued_twice, strict_lock, tried_past_the_line}

another : ◌≡◌ {A = Option ℕ} (Some 1) (Some 2) → ⊥
another q = cc

in_line_not_idle : (a : Arrival) → InLine a ≡ Idle → ⊥
in_line_not_idle a q = cc

pub refused_not_gave : word.Refused fault.NotOwner ≡ word.Gave → ⊥
refused_not_gave q = cc

-- an arrival of a new acquire, at the entry of its place
abbrev queued_at : ℕ → ℕ → Arrived
queued_at place seat = record { place = place; who = record { seat = seat; mode = X; n = 1; back = false } }

pub granted_passes : IsInOrder (opening fair_lock) granted_out_of_turn → ⊥
granted_passes law =
    let ended = law (queued_at 1 1 ∷ []) [] (queued_at 2 2) (record { place = 4; word = word.Granted }) refl
    refl refl in
    none-some ended.0.end ended.0.is

pub granted_illegal : IsLegal (opening fair_lock) granted_out_of_turn → ⊥
granted_illegal l =
    let h : List Entry = of 0 word.Gave ∷ of 2 word.Queued ∷ of 1 word.Queued ∷ of 0 word.Got ∷ [] in
    let k : Known (opening fair_lock) h (of 2 word.Granted) =
    known (opening fair_lock) h l.0.0 (of 2 word.Granted) l.0.1 in
    another k.2

pub got_passes : IsFairOrder (opening fair_lock) got_past_the_line → ⊥
got_passes law = let ended = law.0 refl refl in none-some ended.0.end ended.0.is

pub got_illegal : IsLegal (opening fair_lock) got_past_the_line → ⊥
got_illegal l =
    let h : List Entry = of 0 word.Gave ∷ of 1 word.Queued ∷ of 0 word.Got ∷ [] in
    let k : Known (opening fair_lock) h (of 2 word.Got) =
    known (opening fair_lock) h l.0.0 (of 2 word.Got) l.0.1 in
    true≢false k.2

pub tried_passes : IsFairOrder (opening strict_lock) tried_past_the_line → ⊥
tried_passes law = let ended = law.0 refl refl in none-some ended.0.end ended.0.is

pub tried_illegal : IsLegal (opening strict_lock) tried_past_the_line → ⊥
tried_illegal l =
    let h : List Entry = of 0 word.Gave ∷ of 1 word.Queued ∷ of 0 word.Got ∷ [] in
    let k : Known (opening strict_lock) h (of 2 word.TryGot) =
    known (opening strict_lock) h l.0.0 (of 2 word.TryGot) l.0.1 in
    true≢false k.3

pub waits_twice : IsOneWait (opening fair_lock) queued_twice → ⊥
waits_twice law = let l : 2 ≤ 1 = law 1 in omega (arith, l)

pub queued_illegal : IsLegal (opening fair_lock) queued_twice → ⊥
queued_illegal l =
    let h : List Entry = of 1 word.Queued ∷ of 0 word.Got ∷ [] in
    let k : Known (opening fair_lock) h (of 1 word.Queued) =
    known (opening fair_lock) h l.0.0 (of 1 word.Queued) l.0.1 in
    in_line_not_idle _ k.idle

pub gave_illegal : IsLegal (opening fair_lock) gave_first → ⊥
gave_illegal l =
    let k : Known (opening fair_lock) [] (of 0 word.Gave) =
    known (opening fair_lock) [] l.0.0 (of 0 word.Gave) l.0.1 in
    refused_not_gave k.1
