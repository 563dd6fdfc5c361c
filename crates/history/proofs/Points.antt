-- The order of what is seen of a history.
use Rattle.std.proofs.Common.{◌≡◌, ◌≢◌, inl, inr, ⊎_elim, ℕ, ◌+◌, ◌≤◌, true, ◌==◌, List, [], ◌∷◌, ◌++◌, refl, ap, ◌∙◌, sym, subst, arith, append_assoc}
use Rattle.std.specs.List.{AllByRecursion}
use Rattle.std.proofs.lemmas.List.Elements.{filter-append}
use Rattle.std.proofs.lemmas.List.{get_or_past}
use Rattle.std.proofs.lemmas.Bool.Decides.{nat_tests}
use Rattle.history.specs.Prelude.{SeatBase, Entry, Mode, Header, Point, Base, based, calls_of, each_below, folded, nothing, opening_base, seat_after, seat_of, held, ended_calls, AreSeated, IsLegal, is_away, phase, Agrees, CanFold, ComesBefore, FollowsBy, Grows, IsFolded, entries_of, last_sleep, Start, opening}
use Rattle.history.proofs.Alike.{Alike, away_alike, phase_alike}
use Rattle.history.proofs.Away.{sleep_more}
use Rattle.history.proofs.Folding.{fold_alike, folds_on, legal_goes_on, length-each, seat_folded}
use Rattle.history.proofs.GoodBases.{good_waits}
use Rattle.history.proofs.Lists.{ended_append}
use Rattle.history.proofs.OneOwner.{cases_below}
use Rattle.history.proofs.OpeningBase.{based_opening, no_seat}

pub seated_append : (s : Start) (h g : List Entry) → AreSeated s h → AreSeated s g → AreSeated s (h ++ g)
seated_append s [] g a b = b
seated_append s (e ∷ h) g a b = (a.0, seated_append s h g a.1 b)

pub seated_behind : (s : Start) (h g : List Entry) → AreSeated s (h ++ g) → AreSeated s g
seated_behind s [] g a = a
seated_behind s (e ∷ h) g a = seated_behind s h g a.1

-- a fold is of the same object
pub seated_before : (b : Base) (g h : List Entry) → AreSeated (based (folded b g)) h → AreSeated (based b) h
seated_before b g [] a = tt
seated_before b g (e ∷ h) a = (a.0, seated_before b g h a.1)

-- entries that can be folded, and then more of them, can be folded at once
pub can_fold_all : (b : Base) (g h : List Entry) → CanFold b g → CanFold (folded b g) h → CanFold b (h ++ g)
can_fold_all b g h v w =
    record {
      good = v.good;
      seated = seated_append (based b) h g (seated_before b g h w.seated) v.seated;
      legal = (legal_goes_on b g h v.good v.seated).1 (v.legal, w.legal);
    }

pub same_point : (p : Point) → ComesBefore p p
same_point p = inl (refl, ([], refl))

grows_on : (p q r : Point) → Grows p q → Grows q r → Grows p r
grows_on p q r v w = (
  v.0 ∙ w.0,
  (
    w.1.0 ++ v.1.0,
    w.1.1 ∙ ap (λ l. w.1.0 ++ l) v.1.1 ∙ sym (append_assoc w.1.0 v.1.0 p.entries),
  ),
)

grows_then_folds : (p q r : Point) → Grows p q → IsFolded q r → IsFolded p r
grows_then_folds p q r v w =
    record {
      more = w.more ++ v.1.0;
      can = subst (CanFold p.base) whole (subst (λ b. CanFold b (w.more ++ q.entries)) (sym v.0) w.can);
      base = w.base ∙ ap (λ b. folded b (w.more ++ q.entries)) (sym v.0) ∙ ap (folded p.base) whole;
    }
  where
    whole : w.more ++ q.entries ≡ (w.more ++ v.1.0) ++ p.entries
    whole = ap (λ l. w.more ++ l) v.1.1 ∙ sym (append_assoc w.more v.1.0 p.entries)

folds_then_grows : (p q r : Point) → IsFolded p q → Grows q r → IsFolded p r
folds_then_grows p q r v w = record { more = v.more; can = v.can; base = sym w.0 ∙ v.base }

folds_again : (p q r : Point) → IsFolded p q → IsFolded q r → IsFolded p r
folds_again p q r v w =
    record {
      more = back ++ v.more;
      can = subst (CanFold p.base) whole all;
      base = w.base ∙ ap (λ b. folded b back) v.base
          ∙ folds_on p.base front back v.can.good v.can.seated all.legal
          ∙ ap (folded p.base) whole;
    }
  where
    front : List Entry
    front = v.more ++ p.entries

    back : List Entry
    back = w.more ++ q.entries

    whole : back ++ front ≡ (back ++ v.more) ++ p.entries
    whole = sym (append_assoc back v.more p.entries)

    all : CanFold p.base (back ++ front)
    all = can_fold_all p.base front back v.can (subst (λ b. CanFold b back) v.base w.can)

pub further_point : (p q r : Point) → ComesBefore p q → ComesBefore q r → ComesBefore p r
further_point p q r (inl v) (inl w) = inl (grows_on p q r v w)
further_point p q r (inl v) (inr w) = inr (grows_then_folds p q r v w)
further_point p q r (inr v) (inl w) = inr (folds_then_grows p q r v w)
further_point p q r (inr v) (inr w) = inr (folds_again p q r v w)

-- A point that follows comes after, and has of each seat what it had and what was added.
pub follows_before : (p q : Point) (added : List Entry) → CanFold p.base p.entries → FollowsBy p q added →
    ComesBefore p q
follows_before p q added can (inl grown) = inl (sym grown.0, (added, grown.1))
follows_before p q added can (inr folds) = inr (record { more = []; can = can; base = folds.0 })

pub calls_by_seat : (b : Base) (g : List Entry) (i : ℕ) →
    calls_of b g i ≡ (seat_of b i).calls + ended_calls (entries_of i g)
calls_by_seat b [] i = omega arith
calls_by_seat b (e ∷ g) i = grind (arith, calls_by_seat b g i)

none_of : (s : Start) (g : List Entry) (i : ℕ) → AreSeated s g → s.header.seats ≤ i → entries_of i g ≡ []
none_of s [] i a l = refl
none_of s (e ∷ g) i a l = grind (arith, nat_tests, a.0, none_of s g i a.1 l)

pub calls_folded : (b : Base) (g : List Entry) (i : ℕ) → CanFold b g →
    (seat_of (folded b g) i).calls ≡ (seat_of b i).calls + ended_calls (entries_of i g)
calls_folded b g i can =
    ⊎_elim (λ l. ap (λ (x : SeatBase). x.calls) (seat_folded b g i l) ∙ calls_by_seat b g i) beyond
    (cases_below i b.header.seats)
  where
    beyond : b.header.seats ≤ i →
        (seat_of (folded b g) i).calls ≡ (seat_of b i).calls + ended_calls (entries_of i g)
    beyond l =
        let e = length-each b.header.seats (seat_after b g) in
        let new = ap (λ (x : SeatBase). x.calls)
        (get_or_past (each_below b.header.seats (seat_after b g)) i nothing (omega (arith, e, l))) in
        let f = can.good.seats in
        let old = ap (λ (x : SeatBase). x.calls) (get_or_past b.seats i nothing (omega (arith, f, l))) in
        omega (arith, new, old, ap ended_calls (none_of (based b) g i can.seated l))

-- Entries in front change what a seat holds by its own entries alone.
holds_more : (s t : Start) → s.header.object ≡ t.header.object → (g h all : List Entry) (i : ℕ) (m : Mode) →
    held s h i m ≡ held t all i m → held s (g ++ h) i m ≡ held t (entries_of i g ++ all) i m
holds_more s t object [] h all i m same = same
holds_more s t object (e ∷ g) h all i m same =
    let ih = holds_more s t object g h all i m same in
    grind (arith, nat_tests, ih)

holds_opened : (k : Header) (p : Point) (i : ℕ) → p.base ≡ opening_base k → p.entries ≡ [] → (m : Mode) →
    held (based p.base) p.entries i m ≡ held (opening p.base.header) [] i m
holds_opened k p i base none m =
    ap (λ l. held (based p.base) l i m) none
    ∙ ap (λ b. held (based b) [] i m) base
    ∙ ap (λ (s : Start). held s [] i m) (based_opening k)

holds_grown : (p q : Point) (i : ℕ) (added mine all : List Entry) → q.base ≡ p.base →
    q.entries ≡ added ++ p.entries → entries_of i added ≡ mine → Agrees p i all → (m : Mode) →
    held (based q.base) q.entries i m ≡ held (opening q.base.header) (mine ++ all) i m
holds_grown p q i added mine all base entries own a m =
    ap (λ b. held (based b) q.entries i m) base
    ∙ ap (λ l. held (based p.base) l i m) entries
    ∙ holds_more (based p.base) (opening p.base.header) refl added p.entries all i m (a.holds m)
    ∙ ap (λ l. held (opening p.base.header) (l ++ all) i m) own
    ∙ ap (λ (b : Base). held (opening b.header) (mine ++ all) i m) (sym base)

holds_folded : (p q : Point) (i : ℕ) (all : List Entry) → CanFold p.base p.entries →
    q.base ≡ folded p.base p.entries → q.entries ≡ [] → Agrees p i all → (m : Mode) →
    held (based q.base) q.entries i m ≡ held (opening q.base.header) all i m
holds_folded p q i all can base none a m =
    ap (λ b. held (based b) q.entries i m) base
    ∙ ap (λ l. held (based (folded p.base p.entries)) l i m) none
    ∙ sym (ap (λ f. f i m) same.holds)
    ∙ a.holds m
    ∙ ap (λ (b : Base). held (opening b.header) all i m) (sym base)
  where
    same : Alike p.base.header (based p.base) (based (folded p.base p.entries)) p.entries []
    same = fold_alike p.base p.entries can.good can.legal can.seated

pub agrees_opened : (k : Header) (p : Point) (i : ℕ) → p.base ≡ opening_base k → p.entries ≡ [] →
    Agrees p i []
agrees_opened k p i base none =
    record {
      older = [];
      newest = ap (λ l. entries_of i l ++ []) (sym none);
      calls =
          let z = ap (λ (x : SeatBase). x.calls) (ap (λ b. seat_of b i) base ∙ no_seat k i) in
          let e = ap (λ l. ended_calls (entries_of i l)) none in
          omega (arith, z, e);
      holds = λ m. holds_opened k p i base none m;
      sleep = λ can t.
          ap (λ l. last_sleep (based p.base) l i) none ∙ ap (λ b. (based b).last_sleep i) base
          ∙ ap (λ (s : Start). s.last_sleep i) (based_opening k);
    }

-- the base stays where entries are added, and its fold has the same last sleeps of those who are away
can_fold_front : (b : Base) (g h : List Entry) → CanFold b (h ++ g) → CanFold b g
can_fold_front b g h can =
    record {
      good = can.good;
      seated = seated_behind (based b) h g can.seated;
      legal = legal_front (based b) h g can.legal;
    }
  where
    legal_front : (s : Start) (h g : List Entry) → IsLegal s (h ++ g) → IsLegal s g
    legal_front s [] g legal = legal
    legal_front s (e ∷ h) g legal = legal_front s h g legal.1

sleep_grown : (p q : Point) (i : ℕ) (added mine all : List Entry) → q.base ≡ p.base →
    q.entries ≡ added ++ p.entries → entries_of i added ≡ mine → Agrees p i all → CanFold q.base q.entries →
    is_away (phase (based q.base) q.entries i) ≡ true →
    last_sleep (based q.base) q.entries i ≡ last_sleep (opening q.base.header) (mine ++ all) i
sleep_grown p q i added mine all base entries own a can t =
    ap (λ b. last_sleep (based b) q.entries i) base
    ∙ ap (λ l. last_sleep (based p.base) l i) entries
    ∙ sleep_more (based p.base) (opening p.base.header) added p.entries all i (good_waits p.base now.good)
    now.legal (a.sleep (can_fold_front p.base p.entries added now))
    (subst (λ l. is_away (phase (based p.base) l i) ≡ true) entries
    (subst (λ b. is_away (phase (based b) q.entries i) ≡ true) base t))
    ∙ ap (λ l. last_sleep (opening p.base.header) (l ++ all) i) own
    ∙ ap (λ (b : Base). last_sleep (opening b.header) (mine ++ all) i) (sym base)
  where
    now : CanFold p.base (added ++ p.entries)
    now = subst (CanFold p.base) entries (subst (λ b. CanFold b q.entries) base can)

sleep_folded : (p q : Point) (i : ℕ) (all : List Entry) → CanFold p.base p.entries →
    q.base ≡ folded p.base p.entries → q.entries ≡ [] → Agrees p i all →
    is_away (phase (based q.base) q.entries i) ≡ true →
    last_sleep (based q.base) q.entries i ≡ last_sleep (opening q.base.header) all i
sleep_folded p q i all can base none a t =
    ap (λ b. last_sleep (based b) q.entries i) base
    ∙ ap (λ l. last_sleep (based (folded p.base p.entries)) l i) none
    ∙ sym (away_alike _ _ _ _ _ same i away)
    ∙ a.sleep can away
    ∙ ap (λ (b : Base). last_sleep (opening b.header) all i) (sym base)
  where
    same : Alike p.base.header (based p.base) (based (folded p.base p.entries)) p.entries []
    same = fold_alike p.base p.entries can.good can.legal can.seated

    away : is_away (phase (based p.base) p.entries i) ≡ true
    away =
        ap is_away (phase_alike _ _ _ _ _ same i)
        ∙ subst (λ l. is_away (phase (based (folded p.base p.entries)) l i) ≡ true) none
        (subst (λ b. is_away (phase (based b) q.entries i) ≡ true) base t)

-- what a point has of a seat where entries are added
pub agrees_grown : (p q : Point) (i : ℕ) (added mine all : List Entry) → q.base ≡ p.base →
    q.entries ≡ added ++ p.entries → entries_of i added ≡ mine → Agrees p i all → Agrees q i (mine ++ all)
agrees_grown p q i added mine all base entries own a =
    record {
      older = a.older;
      newest = ap (λ l. mine ++ l) a.newest ∙ sym (append_assoc mine (entries_of i p.entries) a.older)
          ∙ ap (λ l. l ++ a.older) (sym now);
      calls =
          let b = ap (λ b. (seat_of b i).calls) base in
          let n = ap ended_calls now ∙ ended_append mine (entries_of i p.entries) in
          let m = ended_append mine all in
          let c = a.calls in
          omega (arith, b, n, m, c);
      holds = λ m. holds_grown p q i added mine all base entries own a m;
      sleep = λ can t. sleep_grown p q i added mine all base entries own a can t;
    }
  where
    now : entries_of i q.entries ≡ mine ++ entries_of i p.entries
    now =
        ap (entries_of i) entries ∙ filter-append (λ e. e.seat == i) added p.entries
        ∙ ap (λ l. l ++ entries_of i p.entries) own

-- and where the list is folded
pub agrees_folded : (p q : Point) (i : ℕ) (all : List Entry) → CanFold p.base p.entries →
    q.base ≡ folded p.base p.entries → q.entries ≡ [] → Agrees p i all → Agrees q i all
agrees_folded p q i all can base empty a =
    record {
      older = all;
      newest = ap (λ l. l ++ all) (sym none);
      calls =
          let b = ap (λ b. (seat_of b i).calls) base ∙ calls_folded p.base p.entries i can in
          let n = ap ended_calls none in
          let c = a.calls in
          omega (arith, b, n, c);
      holds = λ m. holds_folded p q i all can base empty a m;
      sleep = λ _ t. sleep_folded p q i all can base empty a t;
    }
  where
    none : entries_of i q.entries ≡ []
    none = ap (entries_of i) empty

agrees_more : (p q : Point) (i : ℕ) (added mine all : List Entry) → CanFold p.base p.entries →
    FollowsBy p q added → entries_of i added ≡ mine → Agrees p i all → Agrees q i (mine ++ all)
agrees_more p q i added mine all can (inl grown) own a =
    agrees_grown p q i added mine all grown.0 grown.1 own a
agrees_more p q i added mine all can (inr folds) own a =
    subst (λ l. Agrees q i (l ++ all)) (sym (ap (entries_of i) folds.2) ∙ own)
    (agrees_folded p q i all can folds.0 folds.1 a)

pub all_of : (i : ℕ) (added : List Entry) → AllByRecursion (λ e. e.seat ≡ i) added →
    entries_of i added ≡ added
all_of i [] all = refl
all_of i (e ∷ added) all = grind (arith, nat_tests, all_of i added all.1)

pub none_of_other : (i j : ℕ) (added : List Entry) → i ≢ j → AllByRecursion (λ e. e.seat ≡ i) added →
    entries_of j added ≡ []
none_of_other i j [] ne all = refl
none_of_other i j (e ∷ added) ne all = grind (arith, nat_tests, none_of_other i j added ne all.1)

pub follows_own : (p q : Point) (i : ℕ) (added all : List Entry) → CanFold p.base p.entries →
    FollowsBy p q added → AllByRecursion (λ e. e.seat ≡ i) added → Agrees p i all → Agrees q i (added ++ all)
follows_own p q i added all can follows own a =
    agrees_more p q i added added all can follows (all_of i added own) a

pub follows_other : (p q : Point) (i j : ℕ) (added all : List Entry) → CanFold p.base p.entries →
    FollowsBy p q added → AllByRecursion (λ e. e.seat ≡ i) added → i ≢ j → Agrees p j all → Agrees q j all
follows_other p q i j added all can follows own ne a =
    agrees_more p q j added [] all can follows (none_of_other i j added ne own) a
