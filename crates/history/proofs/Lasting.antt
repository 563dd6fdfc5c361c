-- One who waits still does while no call of its seat ends and its last sleep stays, also where the history is
-- folded in between.
use Rattle.std.proofs.Common.{◌≡◌, ◌≢◌, ◌⊎◌, inl, inr, ⊎_elim, ℕ, ◌+◌, ◌<◌, Bool, true, false, ◌==◌, eqb, eqb-true, List, [], ◌∷◌, ◌++◌, Option, Some, None, Result, Ok, refl, ap, ◌∙◌, sym, subst, arith, eq-eqb, append_assoc}
use Rattle.std.specs.List.{AllByRecursion}
use Rattle.std.proofs.lemmas.Bool.Decides.{nat_tests}
use Rattle.std.proofs.lemmas.List.Elements.{filter-append}
use Rattle.history.specs.Prelude.{Arrival, End, Entry, Word, Fault, Header, Point, Step, Interrupt, AwaitsAs, ReturnsAs, SleepsAs, lapse_from, lapsed, based, folded, seat_of, ended_calls, ends_arrival, ends_call, IsLegal, coming_back, line, place_of, is_away, phase, phase_by, suits, waits, Agrees, CanFold, ComesBefore, entries_of, has, last_sleep, sleeps_below, Sleep, Start, opening, entry_for}
use Rattle.history.specs.declared.entry.End.TheVariants as end
use Rattle.history.specs.declared.entry.Word.TheVariants as word
use Rattle.history.proofs.Alike.{Alike, ReturnAlike, away_alike, on}
use Rattle.history.proofs.Awaiting.{AwaitMakes, AwaitTurn, LapsesBy, await_turn, awaits_other, comes_back, lapses, sleeps_on}
use Rattle.history.proofs.Entering.{admitted, known}
use Rattle.history.proofs.Folding.{goes_on}
use Rattle.history.proofs.GoodBases.{good_waits}
use Rattle.history.proofs.Lists.{ended_append}
use Rattle.history.proofs.OneWait.{Acts, Waits, acts, of_idle, of_one_in_line, of_sleeper, waits_from}
use Rattle.history.proofs.Points.{calls_folded, can_fold_all}
use Rattle.history.proofs.SleepLemmas.{idle_parts, sleeping_parts, sleeps_there}
use Rattle.history.proofs.Staying.{stays_in_line}

-- an entry that takes its seat out of the line ends a call
leaves_ends : (w : Word) → ends_arrival w ≡ true → ends_call w ≡ true
leaves_ends w t = grind arith

-- the ended calls of a seat, entry by entry
not_own : (i : ℕ) (e : Entry) (l : List Entry) → ended_calls (entries_of i (e ∷ l)) ≡ 0 →
    ended_calls (entries_of i l) ≡ 0
not_own i e l none = grind (arith, none)

own_ends : (i : ℕ) (e : Entry) (l : List Entry) → e.seat ≡ i → ended_calls (entries_of i (e ∷ l)) ≡ 0 →
    ends_call e.word ≡ true → ⊥
own_ends i e l same none t = grind (arith, nat_tests, same, none, t)

-- one in line leaves it by the end of a call alone
leaves_line : (s : Start) (h : List Entry) (e : Entry) (a : Arrival) → Acts s h e →
    place_of e.seat (line s h) ≡ Some a → ends_call e.word ≡ true
leaves_line s h e a (of_idle p) stands =
    let n = (idle_parts (place_of e.seat (line s h)) (sleeps_below s.header.conditions s h e.seat) p).0 in
    absurd (cc (n, stands))
leaves_line s h e a (of_one_in_line b p t) stands = leaves_ends e.word t
leaves_line s h e a (of_sleeper p q) stands =
    let n = (sleeping_parts (place_of e.seat (line s h)) (sleeps_below s.header.conditions s h e.seat) p).0 in
    absurd (cc (n, stands))

pub stands_on : (s : Start) (more h : List Entry) (i : ℕ) (a : Arrival) → Waits s [] → IsLegal s (more ++ h) →
    ended_calls (entries_of i more) ≡ 0 → place_of i (line s h) ≡ Some a →
    place_of i (line s (more ++ h)) ≡ Some a
stands_on s [] h i a first legal none p = p
stands_on s (e ∷ more) h i a first legal none p =
    by (eqb e.seat i) refl (stands_on s more h i a first legal.1 (not_own i e more none) p)
  where
    by : (b : Bool) → eqb e.seat i ≡ b → place_of i (line s (more ++ h)) ≡ Some a →
        place_of i (line s (e ∷ more ++ h)) ≡ Some a
    by false q ih = stays_in_line s e (more ++ h) i a (λ same. let t = eq-eqb e.seat i same in cc (t, q)) ih
    by true q ih =
        let same : e.seat ≡ i = eqb-true e.seat i q in
        let stands : place_of e.seat (line s (more ++ h)) ≡ Some a =
        ap (λ j. place_of j (line s (more ++ h))) same ∙ ih in
        absurd (own_ends i e more same none (leaves_line s (more ++ h) e a
        (acts s (more ++ h) e (known s (more ++ h) legal.0.0 e legal.0.1)) stands))

-- Of a sleep that was signalled a lapse is no end.
pub record HasLapsed (s : Start) (h : List Entry) (i : ℕ) (w : Sleep) : Type 0 where
  pub how : End
  pub was : w.how ≡ end.Signalled
  pub by : (how ≡ end.Timeout) ⊎ (how ≡ end.Interrupt)
  pub returns : ReturnsAs s h i (lapsed w how)

lapses_how : (step : Step) (how : End) → LapsesBy step how → (how ≡ end.Timeout) ⊎ (how ≡ end.Interrupt)
lapses_how step how t = grind (arith, t)

phase_waits : (s : Start) (h : List Entry) (i : ℕ) (w : Sleep) (step : Step) → AwaitsAs s h i w →
    suits (phase s h i) step ≡ true → waits step ≡ true
phase_waits s h i w step (inr r) t =
    subst (λ o. suits (phase_by o (sleeps_below s.header.conditions s h i)) step ≡ true) r.place t
phase_waits s h i w step (inl r) t =
    subst (λ b. suits (phase_by None b) step ≡ true)
    (sleeps_there s.header.conditions s h i w.condition r.condition r.asleep)
    (subst (λ o. suits (phase_by o (sleeps_below s.header.conditions s h i)) step ≡ true) r.place t)

some_entry : {x e : Entry} → Some x ≡ Some e → x ≡ e
some_entry q = cc

-- an entry of one who awaits ends its call, or lapses
own_await : (s : Start) (h : List Entry) (i : ℕ) (w : Sleep) (e : Entry) → Waits s h → AwaitsAs s h i w →
    (step : Step) → entry_for s h i step ≡ Ok (Some e) → (ends_call e.word ≡ true) ⊎ HasLapsed s (e ∷ h) i w
own_await s h i w e v awaits step made =
    by turn.made turn.makes (sym (ok_made (sym turn.is ∙ made)))
  where
    turn : AwaitTurn s h i w step
    turn =
        await_turn s h i w step awaits
        (phase_waits s h i w step awaits (admitted s h i step e made).in_phase)

    ok_made : {x y : Option Entry} → ◌≡◌ {A = Result (Option Entry) Fault} (Ok x) (Ok y) → x ≡ y
    ok_made q = cc

    by : (m : Option Entry) → AwaitMakes s h i w step m → Some e ≡ m →
        (ends_call e.word ≡ true) ⊎ HasLapsed s (e ∷ h) i w
    by m (sleeps_on n) q = absurd (let z : Some e ≡ None = q ∙ n in cc (z))
    by m (comes_back back n) q = inl (ap (λ (x : Entry). ends_call x.word) (some_entry (q ∙ n)))
    by m (lapses how ends n sleeps returns) q =
        let same : e ≡ lapse_from i w how = some_entry (q ∙ n) in
        inr (record {
          how = how;
          was = ap (λ (x : Sleep). x.how) (sym sleeps.saved) ∙ (v.sleepers w.condition i sleeps.asleep).how;
          by = lapses_how step how ends;
          returns = subst (λ x. ReturnsAs s (x ∷ h) i (lapsed w how)) (sym same) returns;
        })

pub awaits_on : (s : Start) (more h : List Entry) (i : ℕ) (w : Sleep) → Waits s [] → IsLegal s (more ++ h) →
    ended_calls (entries_of i more) ≡ 0 → AwaitsAs s h i w →
    AwaitsAs s (more ++ h) i w ⊎ HasLapsed s (more ++ h) i w
awaits_on s [] h i w first legal none p = inl p
awaits_on s (e ∷ more) h i w first legal none p =
    by (eqb e.seat i) refl (awaits_on s more h i w first legal.1 (not_own i e more none) p)
  where
    v : Waits s (more ++ h)
    v = waits_from s (more ++ h) first legal.1

    by : (b : Bool) → eqb e.seat i ≡ b → AwaitsAs s (more ++ h) i w ⊎ HasLapsed s (more ++ h) i w →
        AwaitsAs s (e ∷ more ++ h) i w ⊎ HasLapsed s (e ∷ more ++ h) i w
    by false q (inl a) =
        inl (awaits_other s e (more ++ h) i w (λ same. let t = eq-eqb e.seat i same in cc (t, q)) a)
    by false q (inr l) =
        ⊎_elim
        (λ (a : SleepsAs s (e ∷ more ++ h) i (lapsed w l.how)). absurd (let z = a.place in cc (z, placed)))
        (λ r. inr (record { how = l.how; was = l.was; by = l.by; returns = r }))
        (awaits_other s e (more ++ h) i (lapsed w l.how) other (inr l.returns))
      where
        other : e.seat ≢ i
        other same = let t = eq-eqb e.seat i same in cc (t, q)

        placed : place_of i (line s (e ∷ more ++ h)) ≡ Some (coming_back i)
        placed = stays_in_line s e (more ++ h) i _ other l.returns.place
    by true q (inl a) =
        let same : e.seat ≡ i = eqb-true e.seat i q in
        ⊎_elim (λ t. absurd (own_ends i e more same none t)) (λ l. inr l)
        (own_await s (more ++ h) i w e v a legal.0.0
        (subst (λ j. entry_for s (more ++ h) j legal.0.0 ≡ Ok (Some e)) same legal.0.1))
    by true q (inr l) =
        let same : e.seat ≡ i = eqb-true e.seat i q in
        let stands = ap (λ j. place_of j (line s (more ++ h))) same ∙ l.returns.place in
        absurd (own_ends i e more same none (leaves_line s (more ++ h) e _
        (acts s (more ++ h) e (known s (more ++ h) legal.0.0 e legal.0.1)) stands))

-- The same between two points.
each_alike : (k : Header) (s : Start) (h : List Entry) (q : List Arrival) →
    AllByRecursion (ReturnAlike k s s h h) q
each_alike k s h [] = tt
each_alike k s h (a ∷ q) = (λ r. refl, each_alike k s h q)

alike_same : (k : Header) (s : Start) (h : List Entry) → Alike k s s h h
alike_same k s h =
    record {
      holds = refl;
      released = refl;
      permits = λ t. refl;
      left = refl;
      stand = refl;
      asleep = refl;
      ended = refl;
      sleeping = λ c i t. refl;
      returning = each_alike k s h (line (on k s) h);
    }

-- What came between a point and a later one.
record Between (p q : Point) : Type 0 where
  more : List Entry
  can : CanFold p.base (more ++ p.entries)
  header : q.base.header ≡ p.base.header
  alike : Alike p.base.header (based p.base) (based q.base) (more ++ p.entries) q.entries
  calls : (i : ℕ) → (seat_of p.base i).calls + ended_calls (entries_of i (more ++ p.entries))
      ≡ (seat_of q.base i).calls + ended_calls (entries_of i q.entries)

seat_ended : (i : ℕ) (h g : List Entry) →
    ended_calls (entries_of i (h ++ g)) ≡ ended_calls (entries_of i h) + ended_calls (entries_of i g)
seat_ended i h g =
    ap ended_calls (filter-append (λ e. e.seat == i) h g) ∙ ended_append (entries_of i h) (entries_of i g)

between : (p q : Point) → ComesBefore p q → CanFold q.base q.entries → Between p q
between p q (inl grown) can =
    subst (λ b. Between p (record { base = b; entries = q.entries })) grown.0
    (subst (λ l. Between p (record { base = p.base; entries = l })) (sym grown.1.1) (record {
      more = grown.1.0;
      can = subst (CanFold p.base) grown.1.1 (subst (λ b. CanFold b q.entries) (sym grown.0) can);
      header = refl;
      alike = alike_same p.base.header (based p.base) (grown.1.0 ++ p.entries);
      calls = λ i. refl;
    }))
between p q (inr folds) can =
    subst (λ b. Between p (record { base = b; entries = q.entries })) (sym folds.base) (record {
      more = q.entries ++ folds.more;
      can = subst (CanFold p.base) whole all;
      header = refl;
      alike = subst (λ l. Alike p.base.header (based p.base) (based (folded p.base front)) l q.entries) whole
          (goes_on p.base front q.entries folds.can.good folds.can.seated all.legal);
      calls = λ i. let same = ap (λ l. ended_calls (entries_of i l)) (sym whole) in
          omega (arith, same, calls_folded p.base front i folds.can, seat_ended i q.entries front);
    })
  where
    front : List Entry
    front = folds.more ++ p.entries

    whole : q.entries ++ front ≡ (q.entries ++ folds.more) ++ p.entries
    whole = sym (append_assoc q.entries folds.more p.entries)

    all : CanFold p.base (q.entries ++ front)
    all = can_fold_all p.base front q.entries folds.can (subst (λ b. CanFold b q.entries) folds.base can)

module _ (p q : Point) (i : ℕ) (es : List Entry) (before : ComesBefore p q) (can : CanFold p.base p.entries)
    (now : CanFold q.base q.entries) (was : Agrees p i es) (is : Agrees q i es) where
  gap : Between p q
  gap = between p q before now

  none : ended_calls (entries_of i gap.more) ≡ 0
  none = omega (arith, gap.calls i, seat_ended i gap.more p.entries, was.calls, is.calls)

  first : Waits (based p.base) []
  first = good_waits p.base can.good

  pub still_stands : (a : Arrival) → place_of i (line (based p.base) p.entries) ≡ Some a →
      place_of i (line (based q.base) q.entries) ≡ Some a
  still_stands a stands =
      ap (place_of i) (sym gap.alike.stand)
      ∙ stands_on (based p.base) gap.more p.entries i a first gap.can.legal none stands

  -- the same last sleep
  same_sleep : is_away (phase (based p.base) p.entries i) ≡ true →
      is_away (phase (based q.base) q.entries i) ≡ true →
      last_sleep (based q.base) q.entries i ≡ last_sleep (based p.base) p.entries i
  same_sleep s t =
      is.sleep now t ∙ ap (λ (k : Header). last_sleep (opening k) es i) gap.header ∙ sym (was.sleep can s)

  returns_away : (s : Start) (h : List Entry) (w : Sleep) → ReturnsAs s h i w → is_away (phase s h i) ≡ true
  returns_away s h w r = ap (λ o. is_away (phase_by o (sleeps_below s.header.conditions s h i))) r.place

  awaits_away : (s : Start) (h : List Entry) (w : Sleep) → AwaitsAs s h i w → is_away (phase s h i) ≡ true
  awaits_away s h w (inr r) = returns_away s h w r
  awaits_away s h w (inl r) =
      ap (λ o. is_away (phase_by o (sleeps_below s.header.conditions s h i))) r.place
      ∙ ap (λ b. is_away (phase_by None b))
      (sleeps_there s.header.conditions s h i w.condition r.condition r.asleep)

  -- what is known before is known behind the fold
  returns_there : (w : Sleep) → ReturnsAs (based p.base) (gap.more ++ p.entries) i w →
      ReturnsAs (based q.base) q.entries i w
  returns_there w r =
      record {
        place = ap (place_of i) (sym gap.alike.stand) ∙ r.place;
        saved = sym (away_alike _ _ _ _ _ gap.alike i (returns_away _ _ w r)) ∙ r.saved;
      }

  awaits_there : (w : Sleep) → AwaitsAs (based p.base) (gap.more ++ p.entries) i w →
      AwaitsAs (based q.base) q.entries i w
  awaits_there w (inr r) = inr (returns_there w r)
  awaits_there w (inl r) =
      inl (record {
        place = ap (place_of i) (sym gap.alike.stand) ∙ r.place;
        asleep = ap (λ f. has i (f w.condition)) (sym gap.alike.asleep) ∙ r.asleep;
        condition = subst (λ (k : Header). w.condition < k.conditions) (sym gap.header) r.condition;
        saved = sym (away_alike _ _ _ _ _ gap.alike i (awaits_away _ _ w (inl r))) ∙ r.saved;
      })

  saved_of : (s : Start) (h : List Entry) (w : Sleep) → AwaitsAs s h i w → last_sleep s h i ≡ w
  saved_of s h w (inl r) = r.saved
  saved_of s h w (inr r) = r.saved

  pub still_awaits_there : (w : Sleep) → AwaitsAs (based p.base) p.entries i w →
      AwaitsAs (based q.base) q.entries i w
  still_awaits_there w a =
      ⊎_elim (λ x. awaits_there w x) (λ l. absurd (not_lapsed l))
      (awaits_on (based p.base) gap.more p.entries i w first gap.can.legal none a)
    where
      not_lapsed : HasLapsed (based p.base) (gap.more ++ p.entries) i w → ⊥
      not_lapsed l =
          let r = returns_there (lapsed w l.how) l.returns in
          let same : lapsed w l.how ≡ w =
          sym r.saved ∙ same_sleep (awaits_away _ _ w a) (returns_away _ _ _ r)
          ∙ saved_of (based p.base) p.entries w a in
          let how : l.how ≡ end.Signalled = ap (λ (x : Sleep). x.how) same ∙ l.was in
          ⊎_elim (λ t. cc (t, how)) (λ t. cc (t, how)) l.by

  pub still_returns_there : (w : Sleep) → ReturnsAs (based p.base) p.entries i w →
      ReturnsAs (based q.base) q.entries i w
  still_returns_there w r =
      record {
        place = still_stands _ r.place;
        saved = same_sleep (returns_away _ _ w r)
            (ap (λ o. is_away (phase_by o (sleeps_below q.base.header.conditions (based q.base) q.entries i)))
            (still_stands _ r.place))
            ∙ r.saved;
      }
