-- Who is away was away before, or has just gone to sleep: its last sleep is the one of which its entries say.
use Rattle.std.proofs.Common.{◌≡◌, ◌⊎◌, inl, inr, ⊎_elim, ℕ, ◌<◌, Bool, true, false, cond, eqb, List, [], ◌∷◌, ◌++◌, take, Option, Some, None, refl, ap, ◌∙◌, sym, subst, arith, eq-eqb}
use Rattle.std.specs.List.{AllByRecursion}
use Rattle.std.proofs.lemmas.Bool.Decides.{nat_tests}
use Rattle.history.specs.Prelude.{Arrival, Entry, Word, IsLegal, arrivals_by, line, place_of, is_away, phase, phase_by, entries_of, has, last_sleep, sleepers, sleeps_below, Start, StandOnce}
use Rattle.history.specs.declared.entry.Word.TheVariants as word
use Rattle.history.proofs.Entering.{Known, KnownBy, known}
use Rattle.history.proofs.LineLemmas.{line_after}
use Rattle.history.proofs.Lists.{each-as}
use Rattle.history.proofs.OneWait.{Waits, acts, all_come, line_stays, placed, take_has, waits_from}
use Rattle.history.proofs.SleepLemmas.{sleeps_at, sleeps_there, slept_before}
use Rattle.history.proofs.Times.{each-append, place_once}
use Rattle.history.proofs.WhoWaits.{asleep_out_of_line, stand_once}

abbrev pub IsAwayAt : Start → List Entry → ℕ → Type 0
IsAwayAt s h i = is_away (phase s h i) ≡ true

-- who sleeps is away, and who comes back in line
asleep_away : (s : Start) (h : List Entry) → Waits s h → (c i : ℕ) → has i (sleepers s h c) ≡ true →
    IsAwayAt s h i
asleep_away s h v c i t =
    ap (λ b. is_away (phase_by (place_of i (line s h)) b)) sleeps
    ∙ ap (λ o. is_away (phase_by o true)) (asleep_out_of_line s h i v.once sleeps)
  where
    below : c < s.header.conditions
    below =
        let u = v.sleepers c i t in
        omega (arith, u.saved.condition, u.condition)

    sleeps : sleeps_below s.header.conditions s h i ≡ true
    sleeps = sleeps_there s.header.conditions s h i c below t

abbrev IsPlacedIn : List Arrival → Arrival → Type 0
IsPlacedIn q a = place_of a.seat q ≡ Some a

placed_behind : (a : Arrival) (q xs : List Arrival) → place_of a.seat q ≡ None →
    AllByRecursion (IsPlacedIn q) xs → AllByRecursion (IsPlacedIn (a ∷ q)) xs
placed_behind a q xs none all =
    each-as (IsPlacedIn q) (IsPlacedIn (a ∷ q)) xs (λ b p. grind (arith, nat_tests)) all

each_placed : (q : List Arrival) → StandOnce q → AllByRecursion (IsPlacedIn q) q
each_placed [] once = tt
each_placed (a ∷ q) once = (
  ap (λ t. cond t (Some a) (place_of a.seat q)) (eq-eqb a.seat a.seat refl),
  placed_behind a q q once.0 (each_placed q once.1),
)

module _ (s : Start) (h : List Entry) (e : Entry) (v : Waits s h) (k : Known s h e) where
  -- it was away, or this is its await
  abbrev pub Was : ℕ → Type 0
  Was i = ((e.seat ≡ i) × (e.word ≡ word.Await)) ⊎ IsAwayAt s h i

  abbrev Comes : Arrival → Type 0
  Comes a = a.back ≡ true → Was a.seat

  in_line_away : (a : Arrival) → IsPlacedIn (line s h) a → Comes a
  in_line_away a p t =
      inr (ap (λ o. is_away (phase_by o (sleeps_below s.header.conditions s h a.seat))) p ∙ t)

  arrive_away : (w : Word) → KnownBy s h e w → AllByRecursion Comes (arrivals_by s w e h)
  arrive_away word.Queued k = (λ t. absurd (cc (t)), tt)
  arrive_away word.Signal k =
      all_come Comes (take e.n (sleepers s h e.at))
      (λ i t b. inr (asleep_away s h v e.at i (take_has e.n i (sleepers s h e.at) t)))
  arrive_away word.SignalAll k =
      all_come Comes (sleepers s h e.at) (λ i t b. inr (asleep_away s h v e.at i t))
  arrive_away word.Lapse k = (λ t. inr (ap is_away k.0), tt)
  arrive_away _ k = tt

  all_away : AllByRecursion Comes (line s (e ∷ h))
  all_away =
      subst (AllByRecursion Comes) (sym (line_after s e h))
      (each-append Comes _ _
      (line_stays Comes Comes s h e (acts s h e k) (λ a ne was. was)
      (each-as (IsPlacedIn (line s h)) Comes (line s h) in_line_away
      (each_placed (line s h) (stand_once s h v.once))))
      (arrive_away e.word k))

  pub was_away : (i : ℕ) → IsAwayAt s (e ∷ h) i → Was i
  was_away i t =
      by (place_of i (line s (e ∷ h))) (sleeps_below s.header.conditions s (e ∷ h) i) refl refl t
    where
      by : (o : Option Arrival) (b : Bool) → place_of i (line s (e ∷ h)) ≡ o →
          sleeps_below s.header.conditions s (e ∷ h) i ≡ b → is_away (phase_by o b) ≡ true → Was i
      by (Some a) b p q u =
          subst Was (place_once i (line s (e ∷ h)) a p).0
          (placed Comes i (line s (e ∷ h)) a all_away p u)
      by None true p q u =
          let at = sleeps_at s.header.conditions s (e ∷ h) i q in
          ⊎_elim (λ old. inr (asleep_away s h v at.0 i old)) (λ new. inl (new.2, new.0))
          (slept_before s e h at.0 i at.2)
      by None false p q u = absurd (cc (u))

  -- a last sleep is the one of which entries from elsewhere say, if these are of the seat
  pub sleep_next : (o : Start) (all : List Entry) (i : ℕ) →
      (IsAwayAt s h i → last_sleep s h i ≡ last_sleep o all i) → IsAwayAt s (e ∷ h) i →
      last_sleep s (e ∷ h) i ≡ last_sleep o (cond (eqb e.seat i) (e ∷ all) all) i
  sleep_next o all i before t =
      let was = was_away i t in
      grind (arith, nat_tests, was, before)

own_front : (i : ℕ) (e : Entry) (more all : List Entry) →
    cond (eqb e.seat i) (e ∷ entries_of i more ++ all) (entries_of i more ++ all)
    ≡ entries_of i (e ∷ more) ++ all
own_front i e more all = grind arith

pub sleep_more : (s o : Start) (more h all : List Entry) (i : ℕ) → Waits s [] → IsLegal s (more ++ h) →
    (IsAwayAt s h i → last_sleep s h i ≡ last_sleep o all i) → IsAwayAt s (more ++ h) i →
    last_sleep s (more ++ h) i ≡ last_sleep o (entries_of i more ++ all) i
sleep_more s o [] h all i first legal before t = before t
sleep_more s o (e ∷ more) h all i first legal before t =
    sleep_next s (more ++ h) e (waits_from s (more ++ h) first legal.1)
    (known s (more ++ h) legal.0.0 e legal.0.1) o (entries_of i more ++ all) i
    (sleep_more s o more h all i first legal.1 before) t
    ∙ ap (λ l. last_sleep o l i) (own_front i e more all)
