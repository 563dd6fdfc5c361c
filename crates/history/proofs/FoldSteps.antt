-- A fold of many entries, step by step: one entry more, and the entries of one page more.
use Rattle.std.proofs.Common.{◌≡◌, ℕ, ◌+◌, ◌<◌, ◌≤◌, List, [], ◌∷◌, ◌++◌, length, reverse, get_or, take, drop, refl, ap, subst, sym, ◌∙◌, arith, append-nil, append_assoc, length-append, take-append-drop, IsSomeAnd, Option, None, Some}
use Rattle.std.proofs.lemmas.List.{reverse-append, take_more}
use Rattle.std.specs.Option.{option_map}
use Rattle.history.specs.Prelude.{MOST_FOLDED, Entry, Header, Base, based, folded, opening_base, MayFold, IsInRange, AreSeated, next_base}
use Rattle.history.specs.inner.BasePlaces.{HasPlaces}
use Rattle.history.specs.inner.Paged.{in_pages}
use Rattle.history.proofs.FoldRoom.{fold_places}
use Rattle.history.proofs.Folding.{folds_on, legal_goes_on}
use Rattle.history.proofs.GoodFolds.{fold_modest}
use Rattle.history.proofs.Lists.{reverse_push}
use Rattle.history.proofs.NextBases.{can_go_on, fold_next}
use Rattle.history.proofs.OpeningBase.{opening_good, opening_modest}
use Rattle.history.proofs.Points.{seated_behind}

-- the base of an object as it is opened may fold
pub may_open : (k : Header) → IsInRange k → MayFold (opening_base k) []
may_open k range =
    record {
      range = range;
      modest = opening_modest k;
      can = record { good = opening_good k range; seated = tt; legal = tt };
    }

-- entries that may be folded, in two parts: first g, and then h
module _ (b : Base) (h g : List Entry) (may : MayFold b (h ++ g))
    (few : b.entries + length (h ++ g) ≤ MOST_FOLDED) where
  seated : AreSeated (based b) g
  seated = seated_behind (based b) h g may.can.seated

  pub may_begin : MayFold b g
  may_begin =
      record {
        range = may.range;
        modest = may.modest;
        can = record {
          good = may.can.good;
          seated = seated;
          legal = ((legal_goes_on b g h may.can.good seated).0 may.can.legal).0;
        };
      }

  pub few_begin : b.entries + length g ≤ MOST_FOLDED
  few_begin = let l = length-append h g in omega (arith, few, l)

  pub may_go_on : MayFold (folded b g) h
  may_go_on =
      record {
        range = may.range;
        modest = fold_modest b g may.range may_begin.can few_begin may.modest;
        can = can_go_on b g h may.range may.modest few_begin may.can;
      }

  pub few_go_on : b.entries + length g + length h ≤ MOST_FOLDED
  few_go_on = let l = length-append h g in omega (arith, few, l)

  pub folds_more : folded (folded b g) h ≡ folded b (h ++ g)
  folds_more = folds_on b g h may.can.good seated may.can.legal

-- the fold of a history that has a base and not too many entries may fold what comes next
pub may_next : (base : Option Base) (h : List Entry) (n : ℕ) → IsSomeAnd base (λ b. MayFold b h) →
    n ≡ length h → (IsSomeAnd base (λ b. MOST_FOLDED < b.entries + n) → ⊥) →
    IsSomeAnd (option_map (λ b. folded b h) base) (λ b. MayFold b [])
may_next None h n may q room = absurd may
may_next (Some b) h n may q room = may_go_on b [] h may (omega (arith, room, q))

-- one more of a list in its order is one more at the front of its reverse
more_reversed : {X : Type 0} (xs : List X) (i : ℕ) (x d : X) → i < length xs → x ≡ get_or xs i d →
    reverse (take (i + 1) xs) ≡ x ∷ reverse (take i xs)
more_reversed xs i x d l is =
    ap reverse (take_more xs i d l) ∙ reverse_push (take i xs) (get_or xs i d)
    ∙ ap (λ y. y ∷ reverse (take i xs)) (sym is)

split_reversed : {X : Type 0} (xs : List X) (n : ℕ) →
    reverse xs ≡ reverse (drop n xs) ++ reverse (take n xs)
split_reversed xs n =
    ap reverse (sym (take-append-drop n xs)) ∙ reverse-append (take n xs) (drop n xs)

module _ (b : Base) (xs : List Entry) (may : MayFold b (reverse xs))
    (few : b.entries + length (reverse xs) ≤ MOST_FOLDED) (i : ℕ) (e d : Entry) (l : i < length xs)
    (is : e ≡ get_or xs i d) where
  abbrev pub g : List Entry
  g = reverse (take i xs)

  abbrev pub rest : List Entry
  rest = reverse (drop (i + 1) xs)

  parts : reverse xs ≡ rest ++ (e ∷ g)
  parts = split_reversed xs (i + 1) ∙ ap (λ front. rest ++ front) (more_reversed xs i e d l is)

  few_parts : b.entries + length (rest ++ (e ∷ g)) ≤ MOST_FOLDED
  few_parts = subst (λ h. b.entries + length h ≤ MOST_FOLDED) parts few

  may_here : MayFold b (e ∷ g)
  may_here = may_begin b rest (e ∷ g) (subst (MayFold b) parts may) few_parts

  few_here : b.entries + length (e ∷ g) ≤ MOST_FOLDED
  few_here = few_begin b rest (e ∷ g) (subst (MayFold b) parts may) few_parts

  pub entry_places : HasPlaces (folded b g) e
  entry_places =
      let now = may_go_on b (e ∷ []) g may_here few_here in
      fold_places (folded b g) e now.range now.modest (omega (arith, few_here)) now.can

  pub entry_folded : next_base (folded b g) e ≡ folded b (reverse (take (i + 1) xs))
  entry_folded =
      sym (fold_next b g e may.range may.modest (omega (arith, few_here)) may_here.can)
      ∙ ap (folded b) (sym (more_reversed xs i e d l is))

-- the entries of pages end to end
in_pages-append : (ps qs : List (List Entry)) → in_pages (ps ++ qs) ≡ in_pages ps ++ in_pages qs
in_pages-append [] qs = refl
in_pages-append (p ∷ ps) qs =
    ap (λ rest. p ++ rest) (in_pages-append ps qs) ∙ sym (append_assoc p (in_pages ps) (in_pages qs))

more_pages : (ps : List (List Entry)) (i : ℕ) (p d : List Entry) → i < length ps → p ≡ get_or ps i d →
    reverse (in_pages (take (i + 1) ps)) ≡ reverse p ++ reverse (in_pages (take i ps))
more_pages ps i p d l is =
    ap (λ qs. reverse (in_pages qs)) (take_more ps i d l)
    ∙ ap reverse (in_pages-append (take i ps) (get_or ps i d ∷ []))
    ∙ reverse-append (in_pages (take i ps)) (get_or ps i d ++ [])
    ∙ ap (λ q. reverse q ++ reverse (in_pages (take i ps))) (append-nil (get_or ps i d) ∙ sym is)

split_pages : (ps : List (List Entry)) (n : ℕ) →
    reverse (in_pages ps) ≡ reverse (in_pages (drop n ps)) ++ reverse (in_pages (take n ps))
split_pages ps n =
    ap (λ qs. reverse (in_pages qs)) (sym (take-append-drop n ps))
    ∙ ap reverse (in_pages-append (take n ps) (drop n ps))
    ∙ reverse-append (in_pages (take n ps)) (in_pages (drop n ps))

module _ (b : Base) (ps : List (List Entry)) (may : MayFold b (reverse (in_pages ps)))
    (few : b.entries + length (reverse (in_pages ps)) ≤ MOST_FOLDED) (i : ℕ) (p d : List Entry)
    (l : i < length ps) (is : p ≡ get_or ps i d) where
  abbrev pub before : List Entry
  before = reverse (in_pages (take i ps))

  abbrev pub behind : List Entry
  behind = reverse (in_pages (drop (i + 1) ps))

  pages_parts : reverse (in_pages ps) ≡ behind ++ (reverse p ++ before)
  pages_parts = split_pages ps (i + 1) ∙ ap (λ front. behind ++ front) (more_pages ps i p d l is)

  few_pages : b.entries + length (behind ++ (reverse p ++ before)) ≤ MOST_FOLDED
  few_pages = subst (λ h. b.entries + length h ≤ MOST_FOLDED) pages_parts few

  may_page : MayFold b (reverse p ++ before)
  may_page = may_begin b behind (reverse p ++ before) (subst (MayFold b) pages_parts may) few_pages

  few_page : b.entries + length (reverse p ++ before) ≤ MOST_FOLDED
  few_page = few_begin b behind (reverse p ++ before) (subst (MayFold b) pages_parts may) few_pages

  pub page_may : MayFold (folded b before) (reverse p)
  page_may = may_go_on b (reverse p) before may_page few_page

  pub page_few : (folded b before).entries + length (reverse p) ≤ MOST_FOLDED
  page_few = few_go_on b (reverse p) before may_page few_page

  pub page_folded : folded (folded b before) (reverse p) ≡ folded b (reverse (in_pages (take (i + 1) ps)))
  page_folded =
      folds_more b (reverse p) before may_page few_page ∙ ap (folded b) (sym (more_pages ps i p d l is))
