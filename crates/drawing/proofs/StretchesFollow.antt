-- That the stretches of a seat and the bars follow each entry.
use Rattle.std.proofs.Common.{◌≡◌, ℕ, ◌+◌, ◌-◌, ◌<◌, ◌≤◌, Bool, true, false, cond, eqb, ltb, List, [], ◌∷◌, ◌++◌, length, map, refl, ap, ◌∙◌, sym, subst, arith, eq-eqb, le-ltb, append-nil}
use Rattle.std.specs.List.{All, flat_map}
use Rattle.std.proofs.lemmas.Bool.Decides.{nat_tests}
use Rattle.std.proofs.lemmas.List.Elements.{All-cons, All-map, All-nil}
use Rattle.drawing.specs.Below.{Entry, Start}
use Rattle.drawing.specs.Prelude.{Bar, Kind, bar_at, ended, ended_by, lasting, Track, kinds, level, level_of, track, tracks, tracks_of_seat, fresh, stretch, stretches}
use Rattle.drawing.specs.declared.bar.Stretch.{Stretch}
use Rattle.drawing.specs.inner.Stretches.{bar_of, ending, going_on}

-- how long a level has lasted, after one more entry
lasting_more : (s : Start) (from : ℕ) (e : Entry) (h : List Entry) (t : Track) → from ≤ length h →
    lasting s from (e ∷ h) t (level_of s (e ∷ h) t) ≡ lasting s from h t (level_of s (e ∷ h) t) + 1
lasting_more s from e h t l =
    rw (le-ltb (length h) from l)
    (rw (eq-eqb (level_of s (e ∷ h) t) (level_of s (e ∷ h) t) refl) refl)

pub lasting_none : (s : Start) (from : ℕ) (h : List Entry) (t : Track) (n : ℕ) →
    (from < length h → level_of s h t ≡ n → ⊥) → lasting s from h t n ≡ 0
lasting_none s from [] t n ne = refl
lasting_none s from (e ∷ h) t n ne = grind (arith, nat_tests)

-- a stretch that isn't drawn yet
pub not_yet : (s : Start) (from : ℕ) (h : List Entry) (t : Track) → length h ≤ from →
    stretch s from h t ≡ fresh from t
not_yet s from h t l = rw (le-ltb from (length h) l) refl

-- a stretch after one more entry, and after one that leaves its level
goes_on : (s : Start) (from : ℕ) (e : Entry) (h : List Entry) (t : Track) → from ≤ length h →
    going_on s (e ∷ h) (length h) (stretch s from h t) ≡ stretch s from (e ∷ h) t
goes_on s from e h t l =
    grind (arith, nat_tests, lasting_more s from e h t l, lasting_none s from h t (level_of s (e ∷ h) t))

stays : (s : Start) (from : ℕ) (e : Entry) (h : List Entry) (t : Track) → from < length h →
    level_of s (e ∷ h) t ≡ level_of s h t → stretch s from h t ≡ stretch s from (e ∷ h) t
stays s from e h t l same = grind (arith, nat_tests, goes_on s from e h t)

-- the bar of a stretch that ends
bar_ends : (s : Start) (from : ℕ) (h : List Entry) (t : Track) →
    bar_of (length h) (stretch s from h t) ≡ bar_at s from h t
bar_ends s from h t = grind (arith, nat_tests)

no_bar : (s : Start) (from : ℕ) (h : List Entry) (t : Track) → length h ≤ from → bar_at s from h t ≡ []
no_bar s from h t less = grind (arith, nat_tests)

ends_by : (s : Start) (from : ℕ) (e : Entry) (h : List Entry) (t : Track) → from ≤ length h →
    ending s (e ∷ h) (length h) (stretch s from h t) ≡ ended_by s from e h t
ends_by s from e h t l = grind (arith, nat_tests, bar_ends s from h t, no_bar s from h t)

-- ---- the same of all tracks of a seat

map_map_same : {X Y Z : Type 0} (f : Y → Z) (g : X → Y) (k : X → Z) (xs : List X) →
    ((x : X) → f (g x) ≡ k x) → map f (map g xs) ≡ map k xs
map_map_same f g k [] same = refl
map_map_same f g k (x ∷ xs) same = rw (same x, map_map_same f g k xs same) refl

flat_map_same : {X Y Z : Type 0} (f : Y → List Z) (g : X → Y) (k : X → List Z) (xs : List X) →
    ((x : X) → f (g x) ≡ k x) → flat_map f (map g xs) ≡ flat_map k xs
flat_map_same f g k [] same = refl
flat_map_same f g k (x ∷ xs) same = rw (same x, flat_map_same f g k xs same) refl

flat_map_none : {X Z : Type 0} (f : X → List Z) (xs : List X) → ((x : X) → f x ≡ []) → flat_map f xs ≡ []
flat_map_none f [] none = refl
flat_map_none f (x ∷ xs) none = rw (none x, flat_map_none f xs none) refl

-- after an entry that is drawn
pub seat_goes_on : (s : Start) (from : ℕ) (e : Entry) (h : List Entry) (i : ℕ) → from ≤ length h →
    map (going_on s (e ∷ h) (length h)) (stretches s from h i) ≡ stretches s from (e ∷ h) i
seat_goes_on s from e h i l =
    map_map_same (going_on s (e ∷ h) (length h)) (stretch s from h) (stretch s from (e ∷ h))
    (tracks_of_seat s.header.conditions i) (λ t. goes_on s from e h t l)

pub seat_ends_by : (s : Start) (from : ℕ) (e : Entry) (h : List Entry) (i : ℕ) → from ≤ length h →
    flat_map (ending s (e ∷ h) (length h)) (stretches s from h i)
    ≡ flat_map (ended_by s from e h) (tracks_of_seat s.header.conditions i)
seat_ends_by s from e h i l =
    flat_map_same (ending s (e ∷ h) (length h)) (stretch s from h) (ended_by s from e h)
    (tracks_of_seat s.header.conditions i) (λ t. ends_by s from e h t l)

-- after one that leaves the seat's levels
module _ (s : Start) (from : ℕ) (e : Entry) (h : List Entry) (i : ℕ)
    (still : (kind : Kind) → level s (e ∷ h) i kind ≡ level s h i kind) where
  pub seat_stays : from < length h → stretches s from h i ≡ stretches s from (e ∷ h) i
  seat_stays l =
      map_map_same (stretch s from h) (track i) (λ kind. stretch s from (e ∷ h) (track i kind))
      (kinds s.header.conditions) (λ kind. stays s from e h (track i kind) l (still kind))
      ∙ sym (map_map_same (stretch s from (e ∷ h)) (track i) (λ kind. stretch s from (e ∷ h) (track i kind))
      (kinds s.header.conditions) (λ kind. refl))

  pub none_ends_of : flat_map (ended_by s from e h) (tracks_of_seat s.header.conditions i) ≡ []
  none_ends_of =
      flat_map_same (ended_by s from e h) (track i) (λ kind. []) (kinds s.header.conditions)
      (λ kind. rw (eq-eqb (level s (e ∷ h) i kind) (level s h i kind) (still kind)) refl)
      ∙ flat_map_none (λ kind. []) (kinds s.header.conditions) (λ kind. refl)

-- after one that isn't drawn
pub seat_waits : (s : Start) (from : ℕ) (e : Entry) (h : List Entry) (i : ℕ) → length h < from →
    stretches s from h i ≡ stretches s from (e ∷ h) i
seat_waits s from e h i l = each (tracks_of_seat s.header.conditions i)
  where
    each : (ts : List Track) → map (stretch s from h) ts ≡ map (stretch s from (e ∷ h)) ts
    each [] = refl
    each (t ∷ ts) =
        rw (not_yet s from h t (omega (arith, l)), not_yet s from (e ∷ h) t (omega (arith, l)), each ts) refl

pub none_ends : (s : Start) (from : ℕ) (e : Entry) (h : List Entry) → length h < from →
    ended s from h ≡ ended s from (e ∷ h)
none_ends s from e h l =
    sym (ap (λ xs. ended s from h ++ xs)
    (flat_map_none (ended_by s from e h) (tracks s.header)
    (λ t. ap (cond (eqb (level_of s (e ∷ h) t) (level_of s h t)) []) (no_bar s from h t (omega (arith, l)))
    ∙ both (eqb (level_of s (e ∷ h) t) (level_of s h t))))
    ∙ append-nil (ended s from h))
  where
    both : (b : Bool) → ◌≡◌ {A = List Bar} (cond b [] []) []
    both true = refl
    both false = refl

-- the bars of a seat that reach the newest entry
pub seat_bars : (s : Start) (from : ℕ) (h : List Entry) (i : ℕ) →
    flat_map (bar_of (length h)) (stretches s from h i)
    ≡ flat_map (bar_at s from h) (tracks_of_seat s.header.conditions i)
seat_bars s from h i =
    flat_map_same (bar_of (length h)) (stretch s from h) (bar_at s from h)
    (tracks_of_seat s.header.conditions i) (bar_ends s from h)

-- what holds of a seat holds of the seat of each of its stretches
pub seat_alone : (P : ℕ → Type 0) (s : Start) (from : ℕ) (h : List Entry) (i : ℕ) → P i →
    All (λ x. P x.seat) (stretches s from h i)
seat_alone P s from h i p =
    All-map (λ (x : Stretch). P x.seat) (stretch s from h) (map (track i) (kinds s.header.conditions))
    (All-map (λ (t : Track). P (stretch s from h t).seat) (track i) (kinds s.header.conditions)
    (each (kinds s.header.conditions)))
  where
    seat : (b : Bool) (x y : Stretch) → x.seat ≡ i → y.seat ≡ i → (cond b x y).seat ≡ i
    seat true x y p q = p
    seat false x y p q = q

    each : (ks : List Kind) → All (λ kind. P (stretch s from h (track i kind)).seat) ks
    each [] = All-nil _
    each (kind ∷ ks) =
        All-cons (λ kind. P (stretch s from h (track i kind)).seat) kind ks
        (subst P (sym (seat (ltb from (length h)) _ (fresh from (track i kind)) refl refl)) p) (each ks)
