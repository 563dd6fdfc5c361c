-- Nobody in line is passed in a legal history.
use Rattle.std.proofs.Common.{◌≡◌, ◌⊎◌, inl, inr, ⊎_elim, ℕ, ◌<◌, Bool, true, false, ◌&&◌, cond, eqb, leb, List, [], ◌∷◌, ◌++◌, length, map, Option, Some, None, refl, ap, ◌∙◌, sym, subst, arith, eqb-true}
use Rattle.std.proofs.lemmas.Option.{none-some, same_Some}
use Rattle.std.specs.List.{filter, AllByRecursion}
use Rattle.std.proofs.lemmas.List.Elements.{filter-append}
use Rattle.std.proofs.lemmas.List.{map-append}
use Rattle.std.proofs.lemmas.Bool.{and_parts}
use Rattle.std.proofs.lemmas.Bool.Decides.{nat_tests}
use Rattle.history.specs.Prelude.{Arrival, Entry, Mode, Word, Header, Object, held_back, is_reentrant, line_blocks, counts, ends_arrival, IsLegal, Arrived, arrived_at, arrivals, arrivals_by, Ending, ending, first_ending, is_open, stands, line, first_of, mode_of, first_mode, place_of, ready, is_fair, is_passage, takes_in_turn, EndedBefore, IsInOrder, IsFairOrder, Start, opening, StandOnce}
use Rattle.history.specs.declared.entry.Word.TheVariants as word
use Rattle.history.proofs.Entering.{Known, KnownBy, known}
use Rattle.history.proofs.LineLemmas.{ending_past, no_arrival}
use Rattle.history.proofs.Lists.{each-as}
use Rattle.history.proofs.OneWait.{Waits, waits_from, opening_waits}
use Rattle.history.proofs.Owners.{ready_first}
use Rattle.history.proofs.WhoWaits.{stand_once}

-- what an entry makes of an ending
abbrev ends_it : Entry → ℕ → ℕ → ℕ → Bool
ends_it e i from n = (ends_arrival e.word && eqb e.seat i) && leb from n

later_is : (o : Option Ending) (b : Bool) (y x : Ending) → first_ending o b y ≡ Some x → (o ≡ Some x)
    ⊎ ((o ≡ None) × (b ≡ true) × (y ≡ x))
later_is o b y x q = grind arith

later_kept : (o : Option Ending) (b : Bool) (y x : Ending) → o ≡ Some x → first_ending o b y ≡ Some x
later_kept o b y x q = grind arith

-- an ending has a number below the length
ending_below : (h : List Entry) (i from : ℕ) (x : Ending) → ending h i from ≡ Some x → x.place < length h
ending_below [] i from x q = cc
ending_below (e ∷ h) i from x q =
    ⊎_elim (λ o. let l : x.place < length h = ending_below h i from x o in omega (arith, l))
    (λ w. let d : length h ≡ x.place = ap (λ (y : Ending). y.place) w.2 in omega (arith, d))
    (later_is (ending h i from) (ends_it e i from (length h)) (record { place = length h; word = e.word }) x
    q)

-- what has ended stays so
kept_ended : (e : Entry) (h : List Entry) (p : ℕ) (a : Arrived) → EndedBefore h p a → EndedBefore (e ∷ h) p a
kept_ended e h p a w = record {
  end = w.end;
  is = later_kept (ending h a.who.seat a.place)
      (ends_it e a.who.seat a.place (length h)) (record { place = length h; word = e.word }) w.end w.is;
  before = w.before;
}

all_kept : (e : Entry) (h : List Entry) (p : ℕ) (xs : List Arrived) → AllByRecursion (EndedBefore h p) xs →
    AllByRecursion (EndedBefore (e ∷ h) p) xs
all_kept e h p xs all = each-as (EndedBefore h p) (EndedBefore (e ∷ h) p) xs (kept_ended e h p) all

-- whoever doesn't stand has ended
gone : (h : List Entry) (a : Arrived) → stands h a ≡ false → EndedBefore h (length h) a
gone h a f = by (ending h a.who.seat a.place) refl f
  where
    by : (o : Option Ending) → ending h a.who.seat a.place ≡ o → is_open o ≡ false →
        EndedBefore h (length h) a
    by None q t = cc
    by (Some x) q t = record { end = x; is = q; before = ending_below h a.who.seat a.place x q }

-- where nobody of these stands, all have ended
all_gone : (h : List Entry) (xs : List Arrived) → filter (stands h) xs ≡ [] →
    AllByRecursion (EndedBefore h (length h)) xs
all_gone h [] q = tt
all_gone h (x ∷ xs) q = grind (arith, gone h x, all_gone h xs)

map_nil : (xs : List Arrived) → map (λ a. a.who) xs ≡ [] → xs ≡ []
map_nil [] q = refl
map_nil (x ∷ xs) q = cc

no_first : (q : List Arrival) → mode_of (first_of q) ≡ None → q ≡ []
no_first [] e = refl
no_first (a ∷ q) e = cc

-- a fair object with somebody in line holds back what isn't reentrant
not_blocked : (o : Object) (m : Mode) (first : Option Mode) → is_fair o ≡ true →
    line_blocks o m first ≡ false → first ≡ None
not_blocked o m first f b = grind arith

-- an object in which a word takes in turn holds back those who pass a line
turn_fair : (o : Object) (w : Word) → takes_in_turn o w ≡ true → is_fair o ≡ true
turn_fair o w t = grind arith

-- a new call that takes in turn and isn't reentrant finds that nobody waits
pub fair_order : (s : Start) (h : List Entry) → IsLegal s h → IsFairOrder s h
fair_order s [] l = tt
fair_order s (e ∷ h) l = (now, fair_order s h l.1)
  where
    free : (w : Word) → takes_in_turn s.header.object w ≡ true → KnownBy s h e w →
        held_back (counts s h) (first_mode s h) e.seat e.mode ≡ false
    free word.Got t k = k.2
    free word.TryGot t k = rw t at k.3
    free _ t k = cc

    now : takes_in_turn s.header.object e.word ≡ true →
        is_reentrant (counts s h) e.seat e.mode ≡ false →
        AllByRecursion (EndedBefore h (length h)) (arrivals s h)
    now t r =
        let f : is_fair s.header.object ≡ true = turn_fair s.header.object e.word t in
        let b : held_back (counts s h) (first_mode s h) e.seat e.mode ≡ false =
        free e.word t (known s h l.0.0 e l.0.1) in
        let c : line_blocks s.header.object e.mode (first_mode s h) ≡ false = rw r at b in
        let n : first_mode s h ≡ None = not_blocked s.header.object e.mode _ f c in
        all_gone h (arrivals s h) (map_nil _ (no_first (line s h) n))

found : (i : ℕ) (q : List Arrival) (b : Arrival) (r : List Arrival) → b.seat ≡ i →
    place_of i (q ++ b ∷ r) ≡ None → ⊥
found i [] b r s n = grind (arith, nat_tests)
found i (a ∷ q) b r s n = grind (arith, nat_tests, found i q b r s)

-- whoever is first finds nobody before it
nobody_before : (s : Start) (h : List Entry) (before after : List Arrived) (b : Arrived) →
    arrivals s h ≡ before ++ b ∷ after → stands h b ≡ true → StandOnce (line s h) → (f : Arrival) →
    first_of (line s h) ≡ Some f → f.seat ≡ b.who.seat → filter (stands h) before ≡ []
nobody_before s h before after b split st apart f first same =
    let parts : line s h ≡ map (λ a. a.who) (filter (stands h) before) ++ b.who ∷ map (λ a. a.who)
    (filter (stands h) after) =
    ap (λ xs. map (λ a. a.who) (filter (stands h) xs)) split
    ∙ ap (map (λ a. a.who)) (filter-append (stands h) before (b ∷ after))
    ∙ map-append (λ a. a.who) (filter (stands h) before) (filter (stands h) (b ∷ after))
    ∙ ap (λ t. map (λ a. a.who) (filter (stands h) before) ++ map (λ a. a.who)
    (cond t (b ∷ filter (stands h) after) (filter (stands h) after))) st in
    by (filter (stands h) before) (line s h) parts apart first
  where
    by : (xs : List Arrived) (q : List Arrival) →
        q ≡ map (λ a. a.who) xs ++ b.who ∷ map (λ a. a.who) (filter (stands h) after) → StandOnce q →
        first_of q ≡ Some f → xs ≡ []
    by [] q p ap_ fi = refl
    by (x ∷ xs) q p ap_ fi =
        let P : List Arrival → Type 0 = λ l. StandOnce l in
        let Q : List Arrival → Type 0 = λ l. first_of l ≡ Some f in
        let g : x.who ≡ f = same_Some _ _ (subst Q p fi) in
        let s : b.who.seat ≡ x.who.seat = sym same ∙ sym (ap (λ (y : Arrival). y.seat) g) in
        absurd (found x.who.seat (map (λ a. a.who) xs) b.who (map (λ a. a.who) (filter (stands h) after)) s
        (subst P p ap_).0)

-- where a member of two lists joined stands
abbrev Parted : List Arrived → List Arrived → List Arrived → Arrived → List Arrived → Type 0
Parted xs ys before b after =
    ((rest : List Arrived) × (xs ≡ before ++ b ∷ rest)) ⊎ ((more : List Arrived) × (ys ≡ more ++ b ∷ after))

parted : (xs ys before : List Arrived) (b : Arrived) (after : List Arrived) →
    xs ++ ys ≡ before ++ b ∷ after → Parted xs ys before b after
parted [] ys before b after q = inr (before, q)
parted (x ∷ xs) ys [] b after q = inl (xs, cc)
parted (x ∷ xs) ys (y ∷ before) b after q =
    ⊎_elim (λ w. inl (w.0, (let e = w.1 in cc))) (λ w. inr w) (parted xs ys before b after (cc))

-- each new arrival has the entry's number
new_place : (n : ℕ) (xs : List Arrival) (more : List Arrived) (b : Arrived) (after : List Arrived) →
    map (arrived_at n) xs ≡ more ++ b ∷ after → (b.place ≡ n) × (xs ≡ [] → ⊥)
new_place n [] [] b after q = cc
new_place n [] (m ∷ more) b after q = cc
new_place n (x ∷ xs) [] b after q = grind arith
new_place n (x ∷ xs) (m ∷ more) b after q = grind (arith, new_place n xs more b after)

-- who is granted or comes back was ready
passer : (s : Start) (h : List Entry) (e : Entry) (w : Word) → is_passage w ≡ true → KnownBy s h e w →
    ready s h ≡ Some e.seat
passer s h e word.Granted t x = x.2
passer s h e word.Back t x = x.3
passer s h e _ t x = cc

-- one that arrives by an entry isn't ended by it
new_case : (s : Start) (e : Entry) (h : List Entry) (more after : List Arrived) (b : Arrived) (x : Ending) →
    map (arrived_at (length h)) (arrivals_by s e.word e h) ≡ more ++ b ∷ after →
    ending (e ∷ h) b.who.seat b.place ≡ Some x → ⊥
new_case s e h more after b x split q =
    let n = new_place (length h) (arrivals_by s e.word e h) more b after split in
    let past : ending h b.who.seat b.place ≡ None =
    ending_past h b.who.seat b.place (omega (arith, n.0)) in
    ⊎_elim (λ o. none-some x (sym past ∙ o))
    (λ w. n.1 (no_arrival s e.word e h (and_parts _ _ (and_parts _ _ w.1).0).0))
    (later_is (ending h b.who.seat b.place) (ends_it e b.who.seat b.place (length h))
    (record { place = length h; word = e.word }) x q)

-- one that was there before: it ended before, or by this entry
old_case : (s : Start) (e : Entry) (h : List Entry) (before rest : List Arrived) (b : Arrived)
    (x : Ending) → IsInOrder s h → StandOnce (line s h) → Known s h e → arrivals s h ≡ before ++ b ∷ rest →
    ending (e ∷ h) b.who.seat b.place ≡ Some x → is_passage x.word ≡ true →
    AllByRecursion (EndedBefore (e ∷ h) x.place) before
old_case s e h before rest b x ih apart is split q passage =
    ⊎_elim earlier now (later_is (ending h b.who.seat b.place) (ends_it e b.who.seat b.place (length h))
    (record { place = length h; word = e.word }) x q)
  where
    earlier : ending h b.who.seat b.place ≡ Some x → AllByRecursion (EndedBefore (e ∷ h) x.place) before
    earlier o = all_kept e h x.place before (ih before rest b x split o passage)

    now : (ending h b.who.seat b.place ≡ None) × (ends_it e b.who.seat b.place (length h) ≡ true)
        × (record { place = length h; word = e.word } ≡ x) →
        AllByRecursion (EndedBefore (e ∷ h) x.place) before
    now w =
        let place : length h ≡ x.place = ap (λ (y : Ending). y.place) w.2 in
        let same_word : e.word ≡ x.word = ap (λ (y : Ending). y.word) w.2 in
        let pass : is_passage e.word ≡ true = ap is_passage same_word ∙ passage in
        let seat : e.seat ≡ b.who.seat =
        eqb-true e.seat b.who.seat (and_parts (ends_arrival e.word) (eqb e.seat b.who.seat)
        (and_parts (ends_arrival e.word && eqb e.seat b.who.seat) (leb b.place (length h)) w.1).0).1 in
        let first = ready_first (counts s h) (line s h) e.seat (passer s h e e.word pass is) in
        let none = nobody_before s h before rest b split (rw w.0 refl) apart first.0 first.1
        (first.2 ∙ seat) in
        let P : ℕ → Type 0 = λ n. AllByRecursion (EndedBefore (e ∷ h) n) before in
        subst P place (all_kept e h (length h) before (all_gone h before none))

-- nobody in line is passed
pub in_order_from : (s : Start) (h : List Entry) → Waits s [] → IsLegal s h → IsInOrder s h
in_order_from s [] v l before after b x split end passage = cc
in_order_from s (e ∷ h) v l before after b x split end passage =
    ⊎_elim
    (λ w. old_case s e h before w.0 b x (in_order_from s h v l.1)
    (stand_once s h (waits_from s h v l.1).once) (known s h l.0.0 e l.0.1) w.1 end passage)
    (λ w. absurd (new_case s e h w.0 after b x w.1 end))
    (parted (arrivals s h) (map (arrived_at (length h)) (arrivals_by s e.word e h)) before b after split)

pub in_order : (k : Header) (h : List Entry) → IsLegal (opening k) h → IsInOrder (opening k) h
in_order k h l = in_order_from (opening k) h (opening_waits k) l
