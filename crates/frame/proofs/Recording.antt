-- What is answered where an entry was added, or not.
use Rattle.std.proofs.Common.{◌≡◌, inl, ℕ, ◌<◌, eqb, true, not, ◌&&◌, ◌∷◌, Option, Some, None, Result, Ok, refl, ap, ◌∙◌, sym, subst, IfOk, IfSome, Err, ◌⊎◌}
use Rattle.std.proofs.lemmas.Bool.{cond_both}
use Rattle.frame.specs.Below.{is_seat, Entry, Mode, Refused, Fault, OutOfMemory, Answer, Recorded, Sleep, Step, answer_by, recorded, named, named_by, has_room, was_owed, entry_for, held, same_mode}
use Rattle.history.proofs.Answering.{entry_seat}
use Rattle.frame.specs.Core.{CoreView, start_of, unmarked_at, IsAdded, IsAnswer, IsAnswered, IsRecorded, IsStepped, IsTold, IsOf, KeepsHolds, LacksMemory, NamesBelow}
use Rattle.frame.specs.inner.Core.{IsEntered}
use Rattle.frame.specs.Tidied.{HasTidied, WasTidied}
use Rattle.frame.proofs.Telling.{marks_slept}

-- an entry that has room, and one that hasn't
room_for : (v : CoreView) (e : Entry) → has_room (start_of v) v.entries e ≡ true →
    recorded (start_of v) v.entries e ≡ (Ok (Recorded e (named (start_of v) v.entries e)), e ∷ v.entries)
room_for v e t = rw t refl

pub recorded_now : (v new : CoreView) (e : Entry) (name : Option ℕ) → IsAdded v e (Ok name) new →
    IsRecorded v e (Ok (Recorded e name)) new
recorded_now v new e name is =
    let made = room_for v e is.0 in
    inl (record {
      answer = ap (λ x. (let r : Result Answer Fault = Ok (Recorded e x) in r)) is.1
          ∙ sym (ap (λ p. p.0) made);
      entries = ap (λ (w : CoreView). w.entries) is.2 ∙ sym (ap (λ p. p.1) made);
      header = ap (λ (w : CoreView). w.header) is.2;
      base = ap (λ (w : CoreView). w.base) is.2;
      places = ap (λ (w : CoreView). w.places) is.2;
    })

pub names_below : (seats : ℕ) (e : Entry) (before after name : Option ℕ) → IfSome after (λ j. j < seats) →
    name ≡ named_by before after e.seat → NamesBelow seats (Recorded e name)
names_below seats e before after name below is =
    subst (λ x. NamesBelow seats (Recorded e x)) (sym is) (by after below)
  where
    by : (o : Option ℕ) → IfSome o (λ j. j < seats) → IfSome (named_by before o e.seat) (λ j. j < seats)
    by None l = tt
    by (Some j) l = cond_both (not (eqb j e.seat) && not (is_seat before j)) (Some j) None
        (λ x. IfSome x (λ k. k < seats)) (λ t. l) (λ t. tt)

-- a refusal leaves all holds as they were
keeps_holds : (v new : CoreView) (e : Entry) (f : Fault) → e.word ≡ Refused f → new.entries ≡ e ∷ v.entries →
    (i : ℕ) (m : Mode) → held (start_of v) new.entries i m ≡ held (start_of v) v.entries i m
keeps_holds v new e f refused grown i m =
    let had = held (start_of v) v.entries i m in
    let same : held (start_of v) (e ∷ v.entries) i m ≡ had =
    rw refused (cond_both (eqb e.seat i && same_mode e.mode m) had had (λ x. x ≡ had) (λ t. refl) (λ t. refl)) in
    ap (λ h. held (start_of v) h i m) grown ∙ same

pub entered : (v new : CoreView) (e : Entry) (name : Option ℕ) → IsAdded v e (Ok name) new →
    IfSome name (λ j. j < v.header.seats) → IsEntered v e (Ok (Recorded e name)) new
entered v new e name is below =
    let grown = ap (λ (w : CoreView). w.entries) is.2 in
    record {
      recorded = recorded_now v new e name is;
      told = is.3;
      header = ap (λ (w : CoreView). w.header) is.2;
      base = ap (λ (w : CoreView). w.base) is.2;
      fault = tt;
      places = ap (λ (w : CoreView). w.places) is.2;
      refused = λ f q. (grown, keeps_holds v new e f q grown);
      owed = λ _. refl;
      grown = grown;
      own = refl;
      names = below;
      tidied = tt;
    }

answered_by : (v new : CoreView) (i : ℕ) (step : Step) (e : Entry) (r : Result Answer Fault) →
    entry_for (start_of v) v.entries i step ≡ Ok (Some e) → IsRecorded v e r new → IsAnswered v i step r new
answered_by v new i step e r made is =
    subst (λ m. IsAnswer v (answer_by (start_of v) v.entries m) r new
    ⊎ ((r ≡ Err OutOfMemory) × LacksMemory v m new)) (sym made) is

same_entry : (x y : Entry) → ◌≡◌ {A = Result (Option Entry) Fault} (Ok (Some x)) (Ok (Some y)) → x ≡ y
same_entry x y q = cc

-- so a step was answered that makes it
pub stepped : (v new : CoreView) (i : ℕ) (step : Step) (e : Entry) (r : Result Answer Fault) →
    entry_for (start_of v) v.entries i step ≡ Ok (Some e) → IsEntered v e r new → IsStepped v i step r new
stepped v new i step e r made is =
    let own : e.seat ≡ i = entry_seat (start_of v) v.entries i step e made in
    record {
      answered = answered_by v new i step e r made is.recorded;
      told = subst (λ j. IsTold v j r new) own is.told;
      header = is.header;
      base = is.base;
      fault = is.fault;
      places = is.places;
      refused = subst (λ j. IfOk r (λ answer. KeepsHolds v j answer new)) own is.refused;
      owed = λ m.
          is.owed (ap (was_owed v.header.object) (same_entry e m.0 (sym made ∙ m.1)) ∙ m.2);
      grown = is.grown;
      own = subst (λ j. IfOk r (λ answer. IsOf j answer)) own is.own;
      names = is.names;
      tidied = subst (λ j. IfOk r (λ answer. HasTidied j answer)) own is.tidied;
    }

-- one who waits on is told no more
pub waited : (v new : CoreView) (i : ℕ) (step : Step) →
    entry_for (start_of v) v.entries i step ≡ Ok None → new ≡ unmarked_at i v → WasTidied i →
    IsStepped v i step (Ok Sleep) new
waited v new i step made is tidied =
    subst (IsStepped v i step (Ok Sleep)) (sym is) (record {
      answered = inl (record {
        answer = sym (ap (λ m. (answer_by (start_of v) v.entries m).0) made);
        entries = sym (ap (λ m. (answer_by (start_of v) v.entries m).1) made);
        header = refl;
        base = refl;
        places = refl;
      });
      told = marks_slept v i;
      header = refl;
      base = refl;
      fault = tt;
      places = refl;
      refused = refl;
      owed = λ m. refl;
      grown = refl;
      own = tt;
      names = tt;
      tidied = tidied;
    })

-- a step that can't be made changes nothing
pub failed : (v : CoreView) (i : ℕ) (step : Step) (f : Fault) →
    entry_for (start_of v) v.entries i step ≡ Err f → IsStepped v i step (Err f) v
failed v i step f made =
    record {
      answered = inl (record {
        answer = sym (ap (λ m. (answer_by (start_of v) v.entries m).0) made);
        entries = sym (ap (λ m. (answer_by (start_of v) v.entries m).1) made);
        header = refl;
        base = refl;
        places = refl;
      });
      told = refl;
      header = refl;
      base = refl;
      fault = refl;
      places = refl;
      refused = tt;
      owed = λ m. absurd (let some = m.1 in cc (made, some));
      grown = refl;
      own = tt;
      names = tt;
      tidied = tt;
    }

-- an entry that is made, by what it was called
pub made_plain : (r : Result (Option Entry) Fault) (x e : Entry) → r ≡ Ok (Some e) → x ≡ e → r ≡ Ok (Some x)
made_plain r x e made is = subst (λ y. r ≡ Ok (Some y)) (sym is) made
