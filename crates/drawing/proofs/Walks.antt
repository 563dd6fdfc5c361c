-- Stretches that are continued one after another, and the bars that are added on the way.
use Rattle.std.proofs.Common.{◌≡◌, ⊎_elim, ℕ, zero, suc, ◌+◌, ◌-◌, ◌<◌, ◌≤◌, List, [], ◌∷◌, ◌++◌, length, get_or, set, map, take, drop, refl, ap, ◌∙◌, sym, subst, arith, append-nil, append_assoc, take_all, length-set, Vec, Global}
use Rattle.std.specs.List.{flat_map}
use Rattle.std.proofs.lemmas.Bool.{cases_eq}
use Rattle.std.proofs.lemmas.List.{drop_all, flat_map_more, get_or-map, get_or-set_same, get_or-set_other, length-map, map-set, take_more}
use Rattle.std.proofs.lemmas.List.Concat.{flat_map-append}
use Rattle.std.proofs.lemmas.List.Edits.{map_over_more}
use Rattle.drawing.specs.Below.{Entry, Start}
use Rattle.drawing.specs.Prelude.{AreStretches, Bar, Kind, Track, ended_by, level, stretches, tracks_below, tracks_of_seat}
use Rattle.drawing.specs.declared.bar.Stretch.{Stretch}
use Rattle.drawing.specs.inner.Stretches.{GoesOn, ending, going_on}
use Rattle.drawing.proofs.StretchesFollow.{none_ends_of, seat_ends_by, seat_goes_on, seat_stays}

-- ---- a list that is changed by f from its front on, and what g gathers on the way

read_at : {X : Type 0} (f : X → X) (xs : List X) (i : ℕ) (d : X) → i < length xs →
    get_or (map f (take i xs) ++ drop i xs) i d ≡ get_or xs i d
read_at f [] i d l = absurd (omega (arith, l))
read_at f (x ∷ xs) zero d l = refl
read_at f (x ∷ xs) (suc i) d l = read_at f xs i d (omega (arith, l))

pub record IsWalked {X Y : Type 0} (f : X → X) (g : X → List Y) (xs now : List X) (ys zs : List Y) (i : ℕ) :
    Type 0 where
  pub changed : now ≡ map f (take i xs) ++ drop i xs
  pub gathered : zs ≡ ys ++ flat_map g (take i xs)

-- the next item
pub reads : {X Y : Type 0} (f : X → X) (g : X → List Y) (xs now : List X) (ys zs : List Y) (i : ℕ) (x : X) →
    i < length xs → IsWalked f g xs now ys zs i → x ≡ get_or now i x → x ≡ get_or xs i x
reads f g xs now ys zs i x l was q = q ∙ ap (λ vs. get_or vs i x) was.changed ∙ read_at f xs i x l

-- one more place
pub walks : {X Y : Type 0} (f : X → X) (g : X → List Y) (xs now : List X) (ys before after : List Y) (i : ℕ)
    (x y : X) → i < length xs → IsWalked f g xs now ys before i → x ≡ get_or now i x → y ≡ f x →
    after ≡ before ++ g x → IsWalked f g xs (set now i y) ys after (i + 1)
walks f g xs now ys before after i x y l was q new more =
    record {
      changed = ap (set now i) new ∙ map_over_more f xs now i x l was.changed q;
      gathered = more ∙ ap (λ zs. zs ++ g x) was.gathered
          ∙ flat_map_more g ys (take i xs) x
          ∙ ap (λ zs. ys ++ flat_map g zs)
          (ap (λ z. take i xs ++ z ∷ []) (reads f g xs now ys before i x l was q) ∙ sym (take_more xs i x l));
    }

-- the whole list
pub walked_all : {X Y : Type 0} (f : X → X) (g : X → List Y) (xs now : List X) (ys zs : List Y) (i : ℕ) →
    length xs ≤ i → IsWalked f g xs now ys zs i → (now ≡ map f xs) × (zs ≡ ys ++ flat_map g xs)
walked_all f g xs now ys zs i all was = (
  was.changed ∙ ap (λ vs. map f (take i xs) ++ vs) (drop_all i xs all) ∙ append-nil _
      ∙ ap (map f) (take_all i xs all),
  was.gathered ∙ ap (λ vs. ys ++ flat_map g vs) (take_all i xs all),
)

-- ---- seat by seat: those of the first n seats have been continued after an entry

pub record AreWalked (s : Start) (from : ℕ) (e : Entry) (h : List Entry) (old now : List (List Stretch))
    (ys zs : List Bar) (n : ℕ) : Type 0 where
  pub long : length now ≡ length old
  pub done : (i : ℕ) → i < n → get_or now i [] ≡ stretches s from (e ∷ h) i
  pub rest : (i : ℕ) → n ≤ i → get_or now i [] ≡ get_or old i []
  pub bars : zs ≡ ys ++ flat_map (ended_by s from e h) (tracks_below s.header.conditions n)

pub walk_begins : (s : Start) (from : ℕ) (e : Entry) (h : List Entry) (old : List (List Stretch))
    (ys : List Bar) →
    AreWalked s from e h old old ys ys 0
walk_begins s from e h old ys =
    record {
      long = refl;
      done = λ i l. absurd (omega (arith, l));
      rest = λ i l. refl;
      bars = sym (append-nil ys);
    }

-- the bars of one seat more
pub bars_more : (f : Track → List Bar) (ys zs after : List Bar) (c n : ℕ) →
    zs ≡ ys ++ flat_map f (tracks_below c n) → after ≡ zs ++ flat_map f (tracks_of_seat c n) →
    after ≡ ys ++ flat_map f (tracks_below c (n + 1))
bars_more f ys zs after c n was more =
    let next : suc n ≡ n + 1 = omega arith in
    more ∙ ap (λ vs. vs ++ flat_map f (tracks_of_seat c n)) was
    ∙ append_assoc ys (flat_map f (tracks_below c n)) (flat_map f (tracks_of_seat c n))
    ∙ ap (λ vs. ys ++ vs) (sym (flat_map-append f (tracks_below c n) (tracks_of_seat c n)))
    ∙ ap (λ m. ys ++ flat_map f (tracks_below c m)) next

abbrev pub items_of : Vec Stretch Global → List Stretch
items_of list = list.items

-- what was read of a seat
pub seat_at : (s : Start) (from : ℕ) (h : List Entry) (all : List (Vec Stretch Global)) (i : ℕ)
    (x : Vec Stretch Global) → AreStretches s from h (map items_of all) → i < length all →
    x ≡ get_or all i x → x.items ≡ stretches s from h i
seat_at s from h all i x were l is =
    ap items_of is ∙ sym (get_or-map items_of all i x [] l)
    ∙ were.each i (omega (arith, l, were.seats, length-map all items_of))

module _ (s : Start) (from : ℕ) (e : Entry) (h : List Entry) (old : List (List Stretch)) (ys : List Bar)
    (were : AreStretches s from h old) where
  -- what was read of the next seat
  pub next_seat : (all : List (Vec Stretch Global)) (zs : List Bar) (n : ℕ) (x : Vec Stretch Global) →
      n < s.header.seats → AreWalked s from e h old (map items_of all) ys zs n → x ≡ get_or all n x →
      x.items ≡ stretches s from h n
  next_seat all zs n x l was q =
      let within : n < length all = omega (arith, l, was.long, were.seats, length-map all items_of) in
      ap items_of q ∙ sym (get_or-map items_of all n x [] within) ∙ was.rest n (omega arith) ∙ were.each n l

  -- one seat more, whose stretches were continued
  pub walk_on : (all : List (Vec Stretch Global)) (zs after : List Bar) (n number : ℕ)
      (x y : Vec Stretch Global) →
      n < s.header.seats → from ≤ length h → number ≡ length h →
      AreWalked s from e h old (map items_of all) ys zs n → x ≡ get_or all n x →
      y.items ≡ map (going_on s (e ∷ h) number) x.items →
      after ≡ zs ++ flat_map (ending s (e ∷ h) number) x.items →
      AreWalked s from e h old (map items_of (set all n y)) ys after (n + 1)
  walk_on all zs after n number x y l drawn count was q new more =
      let now = map items_of all in
      let is = next_seat all zs n x l was q in
      let within : n < length now = omega (arith, l, was.long, were.seats) in
      let now_is : y.items ≡ stretches s from (e ∷ h) n =
      new ∙ ap (λ m. map (going_on s (e ∷ h) m) x.items) count ∙ ap (map (going_on s (e ∷ h) (length h))) is
      ∙ seat_goes_on s from e h n drawn in
      subst (λ (found : List (List Stretch)). AreWalked s from e h old found ys after (n + 1))
      (sym (map-set items_of all n y))
      (record {
        long = length-set now n y.items ∙ was.long;
        done = λ i k. ⊎_elim
            (λ same. ap (λ j. get_or (set now n y.items) j []) same
            ∙ get_or-set_same now n y.items [] within ∙ now_is ∙ ap (stretches s from (e ∷ h)) (sym same))
            (λ ne. get_or-set_other now n i y.items [] ne ∙ was.done i (omega (arith, k, ne)))
            (cases_eq i n);
        rest = λ i k. get_or-set_other now n i y.items [] (λ q. absurd (omega (arith, k, q)))
            ∙ was.rest i (omega (arith, k));
        bars = bars_more (ended_by s from e h) ys zs after s.header.conditions n was.bars
            (more ∙ ap (λ m. zs ++ flat_map (ending s (e ∷ h) m) x.items) count
            ∙ ap (λ v. zs ++ flat_map (ending s (e ∷ h) (length h)) v) is
            ∙ ap (λ vs. zs ++ vs) (seat_ends_by s from e h n drawn));
      })

  -- one seat more, whose levels the entry leaves
  pub walk_past : (now : List (List Stretch)) (zs : List Bar) (n : ℕ) → n < s.header.seats → from < length h →
      ((kind : Kind) → level s (e ∷ h) n kind ≡ level s h n kind) → AreWalked s from e h old now ys zs n →
      AreWalked s from e h old now ys zs (n + 1)
  walk_past now zs n l drawn still was =
      record {
        long = was.long;
        done = λ i k. ⊎_elim
            (λ same. ap (λ j. get_or now j []) same ∙ was.rest n (omega arith) ∙ were.each n l
            ∙ seat_stays s from e h n still drawn ∙ ap (stretches s from (e ∷ h)) (sym same))
            (λ ne. was.done i (omega (arith, k, ne)))
            (cases_eq i n);
        rest = λ i k. was.rest i (omega (arith, k));
        bars = bars_more (ended_by s from e h) ys zs zs s.header.conditions n was.bars
            (sym (append-nil zs) ∙ ap (λ vs. zs ++ vs) (sym (none_ends_of s from e h n still)));
      }

  -- the same of all seats up to another one
  pub walk_past_to : (now : List (List Stretch)) (zs : List Bar) (n k : ℕ) → n ≤ k → k ≤ s.header.seats →
      from < length h →
      ((i : ℕ) → n ≤ i → i < k → (kind : Kind) → level s (e ∷ h) i kind ≡ level s h i kind) →
      AreWalked s from e h old now ys zs n → AreWalked s from e h old now ys zs k
  walk_past_to now zs n k order l drawn still was =
      subst (AreWalked s from e h old now ys zs) (omega (arith, order))
      (by (k - n) (omega (arith, order)))
    where
      by : (m : ℕ) → n + m ≤ k → AreWalked s from e h old now ys zs (n + m)
      by zero b = subst (AreWalked s from e h old now ys zs) (omega arith) was
      by (suc m) b =
          subst (AreWalked s from e h old now ys zs) (omega arith)
          (walk_past now zs (n + m) (omega (arith, b, l)) drawn
          (still (n + m) (omega arith) (omega (arith, b))) (by m (omega (arith, b))))

  -- all seats
  pub walked : (now : List (List Stretch)) (zs : List Bar) (n : ℕ) → n ≡ s.header.seats →
      AreWalked s from e h old now ys zs n → GoesOn s from e h now ys zs
  walked now zs n all was =
      record {
        stretches = record {
          seats = was.long ∙ were.seats;
          each = λ i l. was.done i (omega (arith, all, l));
        };
        bars = was.bars
            ∙ ap (λ m. ys ++ flat_map (ended_by s from e h) (tracks_below s.header.conditions m)) all;
      }
