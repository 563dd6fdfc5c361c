-- What a step of one who waits makes, and what it leaves of the wait.
use Rattle.std.proofs.Common.{◌≡◌, ◌⊎◌, inl, inr, ℕ, Bool, true, false, List, ◌∷◌, Option, Some, None, Result, Ok, Err, IsOk, refl, sym, ap, ◌∙◌, subst}
use Rattle.monitor.specs.Below.{Arrival, End, Entry, Fault, Base, based, Answer, Step, Look, Expire, Interrupt, is_seat, line, place_of, ready, waits, was_owed, entry_for, queued_entry, CoreView, Point, Before, Agrees, ReturnsAs, lapsed, back_from, lapse_from, Deed}
use Rattle.history.specs.declared.step.Answer.TheVariants as answer
use Rattle.history.specs.Start.{Sleep}
use Rattle.word_lock.proofs.PointLaws.{before_refl, before_trans}
use Rattle.history.proofs.Awaiting.{await_turn, AwaitMakes, sleeps_on, comes_back, lapses, LapsesBy}
use Rattle.history.proofs.Lasting.{still_awaits_there, still_returns_there, still_stands}
use Rattle.monitor.specs.Prelude.{view_of, IsLawful, Shown, IsSound, IsSame, IsStep, IsUnparked, Limits, IsMade, with_entry, Cause, in_line, on_condition, on_way_back, WaitsAs, IsAllowed, AfterPark, ComesOf, HasGivenUp, EndComesOf, IsNotLost, no_limits, is_lapse, stage_asleep}
use Rattle.monitor.specs.inner.Stepping.{named_in}
use Rattle.monitor.specs.declared.waiting.Stage.{Stage}
use Rattle.monitor.specs.declared.waiting.Stage.TheVariants.{Expires, Parks, Looks, GivenUp}
use Rattle.monitor.specs.inner.Waits.{MayBegin, IsEnd, EndsBy, MayLapse, HasLapsed, EndsLapsed, IsWait}
use Rattle.monitor.proofs.StillWaiting.{IsStage, IsBehindLapse, SoFar, StillWaits, AllStillWait, unless_lapse, ending_of, stage_behind}
use Rattle.monitor.proofs.InLine.{queued_made, ends_by, looks_by, owed_by, IsEndBy, outcome, Outcome, made_in, same_self}
use Rattle.monitor.proofs.Sections.{left}

-- who waits does so while no entry of its seat comes
pub still_waiting : (p q : Point) (i : ℕ) (es : List Entry) (k : Cause) → IsLawful p → IsLawful q →
    Before p q →
    Agrees p i es → Agrees q i es → WaitsAs p i k → WaitsAs q i k
unfolding Before Agrees
still_waiting p q i es (in_line a) l m b was is w =
    (w.0, still_stands p q i es b l.may_fold.can m.may_fold.can was is a w.1)
still_waiting p q i es (on_condition r) l m b was is w =
    still_awaits_there p q i es b l.may_fold.can m.may_fold.can was is r w
still_waiting p q i es (on_way_back r) l m b was is w =
    still_returns_there p q i es b l.may_fold.can m.may_fold.can was is r w

-- what a step of one who waits may make
abbrev pub TurnMakes : Base → List Entry → ℕ → Cause → Step → Entry → Type 0
TurnMakes b l i (in_line a) step e = IsEndBy step i a e
TurnMakes b l i (on_condition w) step e =
    (e ≡ back_from i w)
    ⊎ ((how : End) × LapsesBy step how × (e ≡ lapse_from i w how) × ReturnsAs (based b) l i (lapsed w how))
TurnMakes b l i (on_way_back w) step e = e ≡ back_from i w

-- what one who waits on has stepped: in line it has looked
abbrev pub StaysBy : Cause → Step → Type 0
StaysBy (in_line a) step = step ≡ Look
StaysBy _ step = Unit {0}

-- a step of one who waits is no fault, and its entry was owed
record TurnAt (b : Base) (h : List Entry) (i : ℕ) (c : Cause) (step : Step) : Type 0 where
  made : Option Entry
  is : entry_for (based b) h i step ≡ Ok made
  owed : (e : Entry) → made ≡ Some e → was_owed b.header.object e ≡ true
  makes : (e : Entry) → made ≡ Some e → TurnMakes b (e ∷ h) i c step e
  stays : made ≡ None → StaysBy c step

some_same : (x e : Entry) → Some x ≡ Some e → e ≡ x
some_same x e q = cc

none_some : (e : Entry) → ◌≡◌ {A = Option Entry} None (Some e) → ⊥
none_some e q = cc

turn_at : (p : Point) (i : ℕ) (c : Cause) (step : Step) → WaitsAs p i c → waits step ≡ true →
    TurnAt p.base p.entries i c step
turn_at p i (in_line a) step w t =
    let goes : Bool = is_seat (ready (based p.base) p.entries) i in record {
      made = queued_entry goes i a step;
      is = queued_made (based p.base) p.entries i a step t w.1 w.0;
      owed = λ e q. owed_by goes step i a e p.base.header.object q;
      makes = λ e q. ends_by goes step i a e q;
      stays = λ n. looks_by goes step i a t n;
    }
turn_at p i (on_condition w) step r t =
    let x = await_turn (based p.base) p.entries i w step r t in
    record { made = x.made; is = x.is; owed = x.owed; makes = λ e q. by x.made x.makes e q; stays = λ n. tt }
  where
    by : (made : Option Entry) → AwaitMakes (based p.base) p.entries i w step made → (e : Entry) →
        made ≡ Some e →
        TurnMakes p.base (e ∷ p.entries) i (on_condition w) step e
    by made (sleeps_on n) e q = absurd (none_some e (sym n ∙ q))
    by made (comes_back back n) e q = inl (some_same (back_from i w) e (sym n ∙ q))
    by made (lapses how ends n sleeps returns) e q =
        let same : e ≡ lapse_from i w how = some_same (lapse_from i w how) e (sym n ∙ q) in
        inr (
          how,
          ends,
          same,
          subst (λ (x : Entry). ReturnsAs (based p.base) (x ∷ p.entries) i (lapsed w how))
              (sym same) returns,
        )
turn_at p i (on_way_back w) step r t =
    let x = await_turn (based p.base) p.entries i w step (inr r) t in
    record { made = x.made; is = x.is; owed = x.owed; makes = λ e q. by x.made x.makes e q; stays = λ n. tt }
  where
    nowhere : place_of i (line (based p.base) p.entries) ≡ None → ⊥
    nowhere n = let z = r.place in cc

    by : (made : Option Entry) → AwaitMakes (based p.base) p.entries i w step made → (e : Entry) →
        made ≡ Some e →
        TurnMakes p.base (e ∷ p.entries) i (on_way_back w) step e
    by made (sleeps_on n) e q = absurd (none_some e (sym n ∙ q))
    by made (comes_back back n) e q = some_same (back_from i w) e (sym n ∙ q)
    by made (lapses how ends n sleeps returns) e q = absurd (nowhere sleeps.place)

-- a turn of one who waits
abbrev pub Turn : Shown → Cause → Step → Result Answer Fault → Shown → Type 0
Turn old c step (Ok answer.Sleep) new = WaitsAs new.seen old.seat c × StaysBy c step
Turn old c step (Ok (answer.Recorded e name)) new = TurnMakes new.seen.base new.seen.entries old.seat c step e
Turn old c step (Err f) new = ⊥

pub turn : (old new : Shown) (c : Cause) (step : Step) (r : Result Answer Fault) →
    IsStep old step r new → IsSound old →
    WaitsAs old.seen old.seat c → waits step ≡ true → Turn old c step r new
turn old new c step r s t stands w =
    by x.made refl (outcome v (view_of new.seen s.beside_left) i step r x.made x.is s.answered ok)
  where
    v : CoreView
    v = view_of s.found s.beside

    i : ℕ
    i = old.seat

    here : WaitsAs s.found i c
    here = still_waiting old.seen s.found i old.mine c t.lawful s.lawful s.begins t.agrees s.agrees stands

    x : TurnAt s.found.base s.found.entries i c step
    x = turn_at s.found i c step here w

    ok : (e : Entry) → x.made ≡ Some e → IsOk r
    ok e q = s.owed (
      e,
      x.is ∙ ap (λ (z : Option Entry). (let y : Result (Option Entry) Fault = Ok z in y)) q,
      x.owed e q,
    )

    base : s.found.base ≡ new.seen.base
    base = (left i s.found new.seen s.beside s.beside_left step r s.answered).base

    at : (b : Base) (l : List Entry) → s.found.base ≡ b → l ≡ s.found.entries →
        WaitsAs (record { base = b; entries = l }) i c
    at b l q e =
        subst (λ (z : Base). WaitsAs (record { base = z; entries = l }) i c) q
        (subst (λ (z : List Entry). WaitsAs (record { base = s.found.base; entries = z }) i c) (sym e) here)

    by : (m : Option Entry) → x.made ≡ m → Outcome v m r (view_of new.seen s.beside_left) →
        Turn old c step r new
    by None q o = subst (λ (z : Result Answer Fault). Turn old c step z new) (sym o.0)
        (at new.seen.base new.seen.entries base o.1, x.stays q)
    by (Some e) q o =
        subst (λ (z : Result Answer Fault). Turn old c step z new) (sym o.0)
        (subst (λ (b : Base). TurnMakes b new.seen.entries i c step e) base
        (subst (λ (l : List Entry). TurnMakes s.found.base l i c step e) (sym o.1) (x.makes e q)))

-- the limits of a step
pub waits_allowed : (l : Limits) (step : Step) → IsAllowed l step → waits step ≡ true
waits_allowed l Look a = refl
waits_allowed l Expire a = refl
waits_allowed l Interrupt a = refl
waits_allowed l _ a = absurd a

after_allowed : (did : Deed → Type 0) (i : ℕ) (l : Limits) (step : Step) → AfterPark did i l step →
    IsAllowed l step
after_allowed did i l Look a = tt
after_allowed did i l Expire a = a.1
after_allowed did i l Interrupt a = a.1
after_allowed did i l _ a = absurd a

first_allowed : (did : Deed → Type 0) (i : ℕ) (l : Limits) (s : Stage) (step : Step) → MayBegin l s →
    ComesOf did i l s step → IsAllowed l step
first_allowed did i l Expires step may c = subst (IsAllowed l) (sym c) may
first_allowed did i l Parks step may c = after_allowed did i l step c
first_allowed did i l _ step may c = absurd may

-- without limits a park leads to a look alone
only_looks : (did : Deed → Type 0) (i : ℕ) (step : Step) → AfterPark did i no_limits step → step ≡ Look
only_looks did i Look a = refl
only_looks did i Expire a = let z = a.1 in cc
only_looks did i Interrupt a = let z = a.1 in cc
only_looks did i _ a = absurd a

behind_looks : (did : Deed → Type 0) (i : ℕ) (l : Limits) (stage : Stage) (step : Step) →
    IsBehindLapse stage → ComesOf did i l stage step → step ≡ Look
behind_looks did i l Looks step b c = c
behind_looks did i l GivenUp step b c = only_looks did i step c
behind_looks did i l _ step b c = absurd b

-- what a step comes of, by the stages that there are before a lapse
end_comes : (did : Deed → Type 0) (i : ℕ) (l : Limits) (s : Stage) (was : Cause) (kept : Type 0) (stage : Stage)
    (step : Step) → IsStage did i l s was kept stage → ComesOf did i l stage step → EndComesOf did i l s was kept step
end_comes did i l s (in_line a) kept stage step q c = subst (λ (z : Stage). ComesOf did i l z step) q c
end_comes did i l s (on_condition w) kept stage step (inl q) c =
    inl (subst (λ (z : Stage). ComesOf did i l z step) q c)
end_comes did i l s (on_condition w) kept stage step (inr q) c =
    inr (q.1, subst (λ (z : Stage). ComesOf did i l z step) q.0 c)
end_comes did i l s (on_way_back w) kept stage step (inl q) c =
    inl (subst (λ (z : Stage). ComesOf did i l z step) q c)
end_comes did i l s (on_way_back w) kept stage step (inr q) c =
    inr (q.1, subst (λ (z : Stage). ComesOf did i l z step) q.0 c)

-- what is kept of an interrupt may be said otherwise
given_up_as : (did : Deed → Type 0) (i : ℕ) (l : Limits) (s : Stage) (kept more : Type 0) → (kept → more) →
    HasGivenUp did i l s kept → HasGivenUp did i l s more
given_up_as did i l s kept more so (inl x) = inl x
given_up_as did i l s kept more so (inr x) = inr (x.0, so x.1)

end_as : (did : Deed → Type 0) (i : ℕ) (l : Limits) (s : Stage) (was : Cause) (kept more : Type 0) (step : Step) →
    (kept → more) → EndComesOf did i l s was kept step → EndComesOf did i l s was more step
end_as did i l s (in_line a) kept more step so x = x
end_as did i l s (on_condition w) kept more step so (inl x) = inl x
end_as did i l s (on_condition w) kept more step so (inr x) = inr (given_up_as did i l s kept more so x.0, x.1)
end_as did i l s (on_way_back w) kept more step so (inl x) = inl x
end_as did i l s (on_way_back w) kept more step so (inr x) = inr (given_up_as did i l s kept more so x.0, x.1)

stage_as : (did : Deed → Type 0) (i : ℕ) (l : Limits) (s : Stage) (was : Cause) (kept more : Type 0) (stage : Stage) →
    (kept → more) → IsStage did i l s was kept stage → IsStage did i l s was more stage
stage_as did i l s (in_line a) kept more stage so x = x
stage_as did i l s (on_condition w) kept more stage so (inl x) = inl x
stage_as did i l s (on_condition w) kept more stage so (inr x) = inr (x.0, given_up_as did i l s kept more so x.1)
stage_as did i l s (on_way_back w) kept more stage so (inl x) = inl x
stage_as did i l s (on_way_back w) kept more stage so (inr x) = inr (x.0, given_up_as did i l s kept more so x.1)

still_as : (did : Deed → Type 0) (first : Shown) (was : Cause) (s : Stage) (l : Limits) (kept more : Type 0)
    (now : Shown) (stage : Stage) → (kept → more) → StillWaits did first was s l kept now stage →
    StillWaits did first was s l more now stage
still_as did first was s l kept more now stage so still = record {
  same = still.same;
  begins = still.begins;
  shows = still.shows;
  cause = still.cause;
  waits = still.waits;
  so_far = by still.so_far;
}
  where
    by : SoFar did first was s l kept now still.cause stage → SoFar did first was s l more now still.cause stage
    by (inl x) = inl (x.0, x.1, stage_as did first.seat l s was kept more stage so x.2)
    by (inr x) = inr x

pub all_still_as : (did : Deed → Type 0) (first : Shown) (s : Stage) (l : Limits) (kept more : Type 0) (now : Shown)
    (stage : Stage) → (kept → more) → AllStillWait did first s l kept now stage →
    AllStillWait did first s l more now stage
all_still_as did first s l kept more now stage so all k waits =
    still_as did first k s l kept more now stage so (all k waits)

look_allowed : (l : Limits) (step : Step) → step ≡ Look → IsAllowed l step
look_allowed l step q = subst (IsAllowed l) (sym q) tt

end_allowed : (did : Deed → Type 0) (i : ℕ) (l : Limits) (s : Stage) (was : Cause) (kept : Type 0) (step : Step) →
    MayBegin l s → EndComesOf did i l s was kept step → IsAllowed l step
end_allowed did i l s (in_line a) kept step may c = first_allowed did i l s step may c
end_allowed did i l s (on_condition w) kept step may (inl c) = first_allowed did i l s step may c
end_allowed did i l s (on_condition w) kept step may (inr c) = look_allowed l step (only_looks did i step c.1)
end_allowed did i l s (on_way_back w) kept step may (inl c) = first_allowed did i l s step may c
end_allowed did i l s (on_way_back w) kept step may (inr c) = look_allowed l step (only_looks did i step c.1)

-- a look is no lapse, so a lapse comes of what the wait began with
lapse_comes : (did : Deed → Type 0) (i : ℕ) (l : Limits) (s : Stage) (w : Sleep) (kept : Type 0) (step : Step)
    (how : End) → EndComesOf did i l s (on_condition w) kept step → LapsesBy step how → ComesOf did i l s step
lapse_comes did i l s w kept step how (inl c) by = c
lapse_comes did i l s w kept step how (inr c) by =
    absurd (subst (λ (z : Step). LapsesBy z how) (only_looks did i step c.1) by)

-- a look leaves the stage that a wait began with
looks_on : (did : Deed → Type 0) (i : ℕ) (l : Limits) (s : Stage) → MayBegin l s → ComesOf did i l s Look →
    stage_asleep s Look ≡ s
looks_on did i l Expires may c = cc
looks_on did i l Parks may c = refl
looks_on did i l _ may c = absurd may

-- the stage after a step that recorded nothing
expired : (s : Stage) → stage_asleep s Expire ≡ GivenUp
expired Expires = refl
expired Parks = refl
expired Looks = refl
expired GivenUp = refl

interrupts : (s : Stage) → stage_asleep s Interrupt ≡ GivenUp
interrupts Expires = refl
interrupts Parks = refl
interrupts Looks = refl
interrupts GivenUp = refl

abbrev WaitsOn : (Deed → Type 0) → ℕ → Limits → Stage → (kept : Type 0) → Stage → Type 0
WaitsOn did i l s kept stage = (stage ≡ s) ⊎ ((stage ≡ GivenUp) × HasGivenUp did i l s kept)

first_asleep : (did : Deed → Type 0) (i : ℕ) (l : Limits) (s : Stage) (kept : Type 0) (step : Step) →
    (step ≡ Interrupt → kept) → MayBegin l s → ComesOf did i l s step → WaitsOn did i l s kept (stage_asleep s step)
first_asleep did i l s kept Look noted may c = inl (looks_on did i l s may c)
first_asleep did i l s kept Expire noted may c = inr (expired s, inl c)
first_asleep did i l s kept Interrupt noted may c = inr (interrupts s, inr (c, noted refl))
first_asleep did i l s kept step noted may c = absurd (first_allowed did i l s step may c)

on_asleep : (did : Deed → Type 0) (i : ℕ) (l : Limits) (s : Stage) (kept : Type 0) (stage : Stage) (step : Step) →
    (step ≡ Interrupt → kept) → MayBegin l s → WaitsOn did i l s kept stage → ComesOf did i l stage step →
    WaitsOn did i l s kept (stage_asleep stage step)
on_asleep did i l s kept stage step noted may (inl q) c =
    subst (λ (z : Stage). WaitsOn did i l s kept (stage_asleep z step)) (sym q)
    (first_asleep did i l s kept step noted may (subst (λ (z : Stage). ComesOf did i l z step) q c))
on_asleep did i l s kept stage step noted may (inr q) c =
    inr (subst (λ (z : Stage). stage_asleep z step ≡ GivenUp) (sym q.0) refl, q.1)

stage_stays : (did : Deed → Type 0) (i : ℕ) (l : Limits) (s : Stage) (was : Cause) (kept : Type 0) (stage : Stage)
    (step : Step) → (step ≡ Interrupt → kept) → MayBegin l s → IsStage did i l s was kept stage →
    StaysBy was step → ComesOf did i l stage step → IsStage did i l s was kept (stage_asleep stage step)
stage_stays did i l s (in_line a) kept stage step noted may q looked c =
    let at : ComesOf did i l s Look =
    subst (λ (z : Step). ComesOf did i l s z) looked (subst (λ (z : Stage). ComesOf did i l z step) q c) in
    subst (λ (z : Stage). stage_asleep z step ≡ s) (sym q)
    (subst (λ (z : Step). stage_asleep s z ≡ s) (sym looked) (looks_on did i l s may at))
stage_stays did i l s (on_condition w) kept stage step noted may q looked c =
    on_asleep did i l s kept stage step noted may q c
stage_stays did i l s (on_way_back w) kept stage step noted may q looked c =
    on_asleep did i l s kept stage step noted may q c

behind_stays : (stage : Stage) (step : Step) → IsBehindLapse stage → IsBehindLapse (stage_asleep stage step)
behind_stays Looks step b = tt
behind_stays GivenUp step b = tt
behind_stays _ step b = absurd b

ends_as : (l : Limits) (step : Step) (i : ℕ) (a : Arrival) (e : Entry) → IsAllowed l step →
    IsEndBy step i a e → IsEnd l i a e
ends_as l Look i a e d x = inl x
ends_as l Expire i a e d (inl x) = inl x
ends_as l Expire i a e d (inr x) = inr (inl (x, d))
ends_as l Interrupt i a e d x = inr (inr (x, d))
ends_as l _ i a e d x = absurd x

lapses_as : (l : Limits) (step : Step) (how : End) → IsAllowed l step → LapsesBy step how → MayLapse l how
lapses_as l Expire how a x = subst (MayLapse l) (sym x) a
lapses_as l Interrupt how a x = subst (MayLapse l) (sym x) a
lapses_as l _ how a x = absurd x

-- the entries that end a wait are no lapses
pub no_lapse : (step : Step) (i : ℕ) (a : Arrival) (e : Entry) → IsEndBy step i a e → is_lapse e.word ≡ false
no_lapse Look i a e x = ap (λ (z : Entry). is_lapse z.word) x
no_lapse Expire i a e (inl x) = ap (λ (z : Entry). is_lapse z.word) x
no_lapse Expire i a e (inr x) = ap (λ (z : Entry). is_lapse z.word) x
no_lapse Interrupt i a e x = ap (λ (z : Entry). is_lapse z.word) x
no_lapse _ i a e x = absurd x

true_false : (b : Bool) → b ≡ true → b ≡ false → ⊥
true_false b t f = cc

pub there_later : (did : Deed → Type 0) (old : Shown) (q r : Point) (step : Step) (e : Entry) →
    IsMade did old step e q → Before q r → IsMade did old step e r
there_later did old q r step e m b =
    record {
      front = m.front;
      begins = m.begins;
      made = m.made;
      there = before_trans (with_entry e m.front) q r m.there b;
      wakes = m.wakes;
    }

-- a turn of one who still waits, or the end of its wait
module _ (did : Deed → Type 0) (first now new : Shown) (was : Cause) (s : Stage) (l : Limits) (kept : Type 0)
    (stage : Stage) (step : Step) (may : MayBegin l s) (stays : StillWaits did first was s l kept now stage)
    (comes : ComesOf did first.seat l stage step) (noted : step ≡ Interrupt → kept) where
  ends_of : IsStage did first.seat l s was kept stage → EndComesOf did first.seat l s was kept step
  ends_of q = end_comes did first.seat l s was kept stage step q comes

  looked : IsBehindLapse stage → step ≡ Look
  looked b = behind_looks did first.seat l stage step b comes

  allowed : IsAllowed l step
  allowed = by stays.so_far
    where
      by : SoFar did first was s l kept now stays.cause stage → IsAllowed l step
      by (inl x) = end_allowed did first.seat l s was kept step may (ends_of x.2)
      by (inr x) = look_allowed l step (looked x.6)

  turned : (r : Result Answer Fault) → IsStep now step r new → Turn now stays.cause step r new
  turned r t = turn now new stays.cause step r t stays.shows stays.waits (waits_allowed l step allowed)

  makes : (e : Entry) (name : Option ℕ) → IsStep now step (Ok (answer.Recorded e name)) new →
      TurnMakes new.seen.base new.seen.entries first.seat stays.cause step e
  makes e name t =
      subst (λ (i : ℕ). TurnMakes new.seen.base new.seen.entries i stays.cause step e) stays.same.seat
      (turned (Ok (answer.Recorded e name)) t)

  so_far_later : Before now.seen new.seen → new.mine ≡ now.mine → StaysBy stays.cause step →
      SoFar did first was s l kept new stays.cause (stage_asleep stage step)
  so_far_later b mine by_look = by stays.so_far
    where
      by : SoFar did first was s l kept now stays.cause stage →
          SoFar did first was s l kept new stays.cause (stage_asleep stage step)
      by (inl x) = inl (
        x.0,
        mine ∙ x.1,
        stage_stays did first.seat l s was kept stage step noted may x.2
            (subst (λ (k : Cause). StaysBy k step) x.0 by_look) comes,
      )
      by (inr x) = inr (
        x.0,
        x.1,
        x.2,
        x.3,
        record {
          may = x.4.may;
          step = x.4.step;
          comes = x.4.comes;
          made = there_later did first now.seen new.seen x.4.step
              (lapse_from first.seat x.0 x.1) x.4.made b;
        },
        mine ∙ x.5,
        behind_stays stage step x.6,
      )

  goes_on : IsSame now new → IsStep now step (Ok answer.Sleep) new → IsSound new →
      StillWaits did first was s l kept new (stage_asleep stage step)
  goes_on same t shows =
      let sleeps = turned (Ok answer.Sleep) t in record {
        same = record { lock = same.lock ∙ stays.same.lock; seat = same.seat ∙ stays.same.seat };
        begins = before_trans first.seen now.seen new.seen stays.begins t.after;
        shows = shows;
        cause = stays.cause;
        waits = subst (λ (i : ℕ). WaitsAs new.seen i stays.cause) (sym same.seat) sleeps.0;
        so_far = so_far_later t.after t.mine sleeps.1;
      }

  -- after its lapse a sleeper is on its way back
  has_lapsed : (e : Entry) (name : Option ℕ) → IsStep now step (Ok (answer.Recorded e name)) new →
      IsUnparked did now.lock name new.seen → (w : Sleep) (how : End) → LapsesBy step how →
      EndComesOf did first.seat l s (on_condition w) kept step → e ≡ lapse_from first.seat w how →
      HasLapsed did first w s l how new.seen
  has_lapsed e name t woken w how ends began is = record {
    may = lapses_as l step how allowed ends;
    step = step;
    comes = lapse_comes did first.seat l s w kept step how began ends;
    made = subst (λ (x : Entry). IsMade did first step x new.seen) is
        (made_in did first now new step e name stays.same stays.begins t woken).0;
  }

  Lapsed : Entry → Type 0
  Lapsed e = (k : Cause) × WaitsAs new.seen first.seat k × SoFar did first was s l kept new k Looks

  after_lapse : (e : Entry) (name : Option ℕ) → IsStep now step (Ok (answer.Recorded e name)) new →
      IsUnparked did now.lock name new.seen → is_lapse e.word ≡ true → Lapsed e
  unfolding Lapsed
  after_lapse e name t woken lapse = by stays.cause stays.so_far (makes e name t)
    where
      by : (k : Cause) → SoFar did first was s l kept now k stage →
          TurnMakes new.seen.base new.seen.entries first.seat k step e → Lapsed e
      by (in_line a) f m = absurd (true_false (is_lapse e.word) lapse (no_lapse step first.seat a e m))
      by (on_way_back w) f m =
          absurd (true_false (is_lapse e.word) lapse (ap (λ (z : Entry). is_lapse z.word) m))
      by (on_condition w) f (inl m) =
          absurd (true_false (is_lapse e.word) lapse (ap (λ (z : Entry). is_lapse z.word) m))
      by (on_condition w) (inl f) (inr m) = (
        on_way_back (lapsed w m.0),
        m.3,
        inr (
          w,
          m.0,
          sym f.0,
          refl,
          has_lapsed e name t woken w m.0 m.1
              (subst (λ (k : Cause). EndComesOf did first.seat l s k kept step) (sym f.0) (ends_of f.2)) m.2,
          t.mine ∙ (ap (λ (x : List Entry). e ∷ x) f.1 ∙ ap (λ (x : Entry). x ∷ first.mine) m.2),
          tt,
        ),
      )
      by (on_condition w) (inr f) (inr m) = let z = f.3 in cc

  lapses_on : (e : Entry) (name : Option ℕ) → IsSame now new →
      IsStep now step (Ok (answer.Recorded e name)) new → IsUnparked did now.lock name new.seen →
      is_lapse e.word ≡ true → IsSound new → StillWaits did first was s l kept new Looks
  unfolding Lapsed
  lapses_on e name same t woken lapse shows =
      let x = after_lapse e name t woken lapse in record {
        same = record { lock = same.lock ∙ stays.same.lock; seat = same.seat ∙ stays.same.seat };
        begins = before_trans first.seen now.seen new.seen stays.begins t.after;
        shows = shows;
        cause = x.0;
        waits = subst (λ (i : ℕ). WaitsAs new.seen i x.0) (sym (same.seat ∙ stays.same.seat)) x.1;
        so_far = x.2;
      }

  Ends : Entry → Type 0
  Ends e =
      ((new.mine ≡ e ∷ first.mine) × EndsBy l first.seat was e
      × EndComesOf did first.seat l s was (IsNotLost did first.seat (Ok e)) step)
      ⊎ EndsLapsed did first was s l step e new

  ends : (e : Entry) (name : Option ℕ) → IsStep now step (Ok (answer.Recorded e name)) new →
      is_lapse e.word ≡ false → (kept → IsNotLost did first.seat (Ok e)) → Ends e
  unfolding Ends
  ends e name t lapse settled = by stays.cause stays.so_far (makes e name t)
    where
      alone : now.mine ≡ first.mine → new.mine ≡ e ∷ first.mine
      alone f = t.mine ∙ ap (λ (x : List Entry). e ∷ x) f

      end_of : IsStage did first.seat l s was kept stage →
          EndComesOf did first.seat l s was (IsNotLost did first.seat (Ok e)) step
      end_of q = end_as did first.seat l s was kept (IsNotLost did first.seat (Ok e)) step settled (ends_of q)

      by : (k : Cause) → SoFar did first was s l kept now k stage →
          TurnMakes new.seen.base new.seen.entries first.seat k step e → Ends e
      by (in_line a) (inl f) m =
          inl (
            alone f.1,
            subst (λ (k : Cause). EndsBy l first.seat k e) f.0
                (ends_as l step first.seat a e allowed m),
            end_of f.2,
          )
      by (in_line a) (inr f) m = let z = f.3 in cc
      by (on_condition w) (inl f) (inl m) =
          inl (alone f.1, subst (λ (k : Cause). EndsBy l first.seat k e) f.0 m, end_of f.2)
      by (on_condition w) (inl f) (inr m) =
          absurd (true_false (is_lapse e.word) (ap (λ (z : Entry). is_lapse z.word) m.2) lapse)
      by (on_condition w) (inr f) m = let z = f.3 in cc
      by (on_way_back w) (inl f) m =
          inl (alone f.1, subst (λ (k : Cause). EndsBy l first.seat k e) f.0 m, end_of f.2)
      by (on_way_back w) (inr f) m =
          let is : w ≡ lapsed f.0 f.1 = same_sleep w (lapsed f.0 f.1) f.3 in
          inr (subst (λ (k : Cause). EndsLapsed did first k s l step e new) (sym f.2) record {
            how = f.1;
            lapse = record {
              may = f.4.may;
              step = f.4.step;
              comes = f.4.comes;
              made = there_later did first now.seen new.seen f.4.step
                  (lapse_from first.seat f.0 f.1) f.4.made t.after;
            };
            looks = looked f.6;
            back = m ∙ ap (back_from first.seat) is;
            mine = t.mine ∙ ap (λ (x : List Entry). e ∷ x) f.5;
          })
        where
          same_sleep : (x y : Sleep) → on_way_back x ≡ on_way_back y → x ≡ y
          same_sleep x y q = cc

  pub no_fault : (f : Fault) → IsStep now step (Err f) new → ⊥
  no_fault f t = turned (Err f) t

  pub never_fault : (r : Result Answer Fault) → IsStep now step r new → IsOk r
  never_fault (Ok x) t = refl
  never_fault (Err f) t = absurd (no_fault f t)

  pub still_after : (r : Result Answer Fault) → IsSame now new → IsStep now step r new →
      IsUnparked did now.lock (named_in r) new.seen → IsSound new → ending_of r ≡ None →
      StillWaits did first was s l kept new (stage_behind stage step r)
  still_after (Ok answer.Sleep) same t woken shows q = goes_on same t shows
  still_after (Err f) same t woken shows q = absurd (no_fault f t)
  still_after (Ok (answer.Recorded e name)) same t woken shows q = by (is_lapse e.word) refl q
    where
      by : (b : Bool) → is_lapse e.word ≡ b → unless_lapse b e ≡ None → StillWaits did first was s l kept new Looks
      by true u q = lapses_on e name same t woken u shows
      by false u q = cc

  pub waited : (r : Result Answer Fault) (last : Entry) → IsStep now step r new →
      IsUnparked did now.lock (named_in r) new.seen → ending_of r ≡ Some last → (kept → IsNotLost did first.seat (Ok last)) →
      IsWait did first was s l last new
  unfolding Ends
  waited (Ok answer.Sleep) last t woken q settled = cc
  waited (Err f) last t woken q settled = cc
  waited (Ok (answer.Recorded e name)) last t woken q settled = by (is_lapse e.word) refl q
    where
      at : (is_lapse e.word ≡ false) → (kept → IsNotLost did first.seat (Ok e)) → IsWait did first was s l e new
      at u keeps = let m = made_in did first now new step e name stays.same stays.begins t woken in
          record {
            step = step;
            made = m.0;
            last = m.1;
            end = ends e name t u keeps;
            again = λ z. keeps (noted z);
          }

      by : (b : Bool) → is_lapse e.word ≡ b → unless_lapse b e ≡ Some last → IsWait did first was s l last new
      by true u q = cc
      by false u q =
          let same : e ≡ last = cc in
          subst (λ (x : Entry). (kept → IsNotLost did first.seat (Ok x)) → IsWait did first was s l x new) same
          (at u) settled

begun : (did : Deed → Type 0) (i : ℕ) (l : Limits) (s : Stage) (was : Cause) (kept : Type 0) →
    IsStage did i l s was kept s
begun did i l s (in_line a) kept = refl
begun did i l s (on_condition w) kept = inl refl
begun did i l s (on_way_back w) kept = inl refl

-- before its first park
pub waits_first : (did : Deed → Type 0) (p : Shown) (s : Stage) (l : Limits) (kept : Type 0) → IsSound p →
    AllStillWait did p s l kept p s
waits_first did p s l kept shows k w = record {
  same = same_self p;
  begins = before_refl p.seen;
  shows = shows;
  cause = k;
  waits = w;
  so_far = inl (refl, refl, begun did p.seat l s k kept);
}
