-- Entries in pages.
use Rattle.std.proofs.Common.{◌≡◌, inl, inr, ℕ, zero, suc, ◌+◌, ◌*◌, ◌/◌, ◌%◌, ◌<◌, ◌≤◌, ◌^◌, List, [], ◌∷◌, ◌++◌, length, get_or, set, take, replicate, Option, Some, None, refl, ap, ◌∙◌, sym, subst, ⊎_elim, arith, slice_get, length-append, append_assoc, append-nil, length-set}
use Rattle.std.proofs.lemmas.Bool.{cases_lt}
use Rattle.std.proofs.lemmas.List.{length-replicate, nil_from_length}
use Rattle.std.proofs.lemmas.Option.{slice_get_past}
use Rattle.history.specs.declared.entry.Entry.{Entry}
use Rattle.history.specs.inner.Paged.{AreFull, AreKept, in_pages, used}

-- the entries of full pages
pub full_length : (n : ℕ) (pages : List (List Entry)) → AreFull n pages → length (in_pages pages) ≡ 1024 * n
full_length zero [] f = refl
full_length zero (p ∷ ps) f =
    omega (arith, length-append p (in_pages ps), ap length f.0, full_length zero ps f.1)
full_length (suc n) [] f = absurd f
full_length (suc n) (p ∷ ps) f = omega (arith, length-append p (in_pages ps), f.0, full_length n ps f.1)

pub few_full : (n : ℕ) (pages : List (List Entry)) → AreFull n pages → n ≤ length pages
few_full zero pages f = omega arith
few_full (suc n) [] f = absurd f
few_full (suc n) (p ∷ ps) f = omega (arith, few_full n ps f.1)

-- empty pages have no entries
pub none_full : (pages : List (List Entry)) → AreFull zero pages → in_pages pages ≡ []
none_full [] f = refl
none_full (p ∷ ps) f = ap (λ q. q ++ in_pages ps) f.0 ∙ none_full ps f.1

-- an element of two lists end to end
get_left : {X : Type 0} (xs ys : List X) (i : ℕ) → i < length xs → slice_get (xs ++ ys) i ≡ slice_get xs i
get_left [] ys i l = absurd (omega (arith, l))
get_left (x ∷ xs) ys zero l = refl
get_left (x ∷ xs) ys (suc i) l = get_left xs ys i (omega (arith, l))

get_right : {X : Type 0} (xs ys : List X) (i j : ℕ) → j ≡ length xs + i →
    slice_get (xs ++ ys) j ≡ slice_get ys i
get_right [] ys i j q = let e : j ≡ i = omega (arith, q) in ap (slice_get ys) e
get_right (x ∷ xs) ys i zero q = absurd (omega (arith, q))
get_right (x ∷ xs) ys i (suc j) q = get_right xs ys i j (omega (arith, q))

-- the entry at a place of a page, where there is such a page
abbrev pub at_place : Option (List Entry) → ℕ → Option Entry
at_place None r = None
at_place (Some page) r = slice_get page r

-- the entry of a number is at its place of a full page
in_page : (n : ℕ) (pages : List (List Entry)) → AreFull n pages → (q r i : ℕ) → r < 1024 →
    i ≡ 1024 * q + r → q < n → slice_get (in_pages pages) i ≡ at_place (slice_get pages q) r
in_page zero pages f q r i l is m = absurd (omega (arith, m))
in_page (suc n) [] f q r i l is m = absurd f
in_page (suc n) (p ∷ ps) f zero r i l is m =
    let same : i ≡ r = omega (arith, is) in
    ap (slice_get (p ++ in_pages ps)) same ∙ get_left p (in_pages ps) r (omega (arith, f.0, l))
in_page (suc n) (p ∷ ps) f (suc q) r i l is m =
    get_right p (in_pages ps) (1024 * q + r) i (omega (arith, f.0, is))
    ∙ in_page n ps f.1 q r (1024 * q + r) l refl (omega (arith, m))

-- behind the full pages there is nothing
at_none : (n : ℕ) (pages : List (List Entry)) → AreFull n pages → (q r : ℕ) → n ≤ q →
    at_place (slice_get pages q) r ≡ None
at_none zero [] f q r l = refl
at_none zero (p ∷ ps) f zero r l = ap (λ page. slice_get page r) f.0
at_none zero (p ∷ ps) f (suc q) r l = at_none zero ps f.1 q r (omega arith)
at_none (suc n) [] f q r l = absurd f
at_none (suc n) (p ∷ ps) f zero r l = absurd (omega (arith, l))
at_none (suc n) (p ∷ ps) f (suc q) r l = at_none n ps f.1 q r (omega (arith, l))

-- a full page in place of the first that is empty
pub full_next : (n : ℕ) (pages : List (List Entry)) (hand : List Entry) → AreFull n pages →
    length hand ≡ 1024 → n < length pages → AreFull (suc n) (set pages n hand)
full_next n [] hand f l m = absurd (omega (arith, m))
full_next zero (p ∷ ps) hand f l m = (l, f.1)
full_next (suc n) (p ∷ ps) hand f l m = (f.0, full_next n ps hand f.1 l (omega (arith, m)))

pub in_pages_next : (n : ℕ) (pages : List (List Entry)) (hand : List Entry) → AreFull n pages →
    n < length pages → in_pages (set pages n hand) ≡ in_pages pages ++ hand
in_pages_next n [] hand f m = absurd (omega (arith, m))
in_pages_next zero (p ∷ ps) hand f m =
    ap (λ rest. hand ++ rest) (none_full ps f.1) ∙ append-nil hand
    ∙ sym (ap (λ front. front ++ hand) (none_full (p ∷ ps) f))
in_pages_next (suc n) (p ∷ ps) hand f m =
    ap (λ rest. p ++ rest) (in_pages_next n ps hand f.1 (omega (arith, m)))
    ∙ sym (append_assoc p (in_pages ps) hand)

pub next_empty : (n : ℕ) (pages : List (List Entry)) → AreFull n pages → get_or pages n [] ≡ []
next_empty zero [] f = refl
next_empty zero (p ∷ ps) f = f.0
next_empty (suc n) [] f = absurd f
next_empty (suc n) (p ∷ ps) f = next_empty n ps f.1

-- pages more, with nothing in them
pub empty_pages : (k : ℕ) → AreFull zero (replicate k [])
empty_pages zero = tt
empty_pages (suc k) = (refl, empty_pages k)

pub full_more : (n : ℕ) (pages : List (List Entry)) → AreFull n pages → (k : ℕ) →
    AreFull n (pages ++ replicate k [])
full_more zero [] f k = empty_pages k
full_more zero (p ∷ ps) f k = (f.0, full_more zero ps f.1 k)
full_more (suc n) [] f k = absurd f
full_more (suc n) (p ∷ ps) f k = (f.0, full_more n ps f.1 k)

nothing_there : (k : ℕ) → in_pages (replicate k []) ≡ []
nothing_there zero = refl
nothing_there (suc k) = nothing_there k

pub in_pages_more : (pages : List (List Entry)) (k : ℕ) → in_pages (pages ++ replicate k []) ≡ in_pages pages
in_pages_more [] k = nothing_there k
in_pages_more (p ∷ ps) k = ap (λ rest. p ++ rest) (in_pages_more ps k)

-- the last of empty pages is empty, and so are the others
last_empty : (pages : List (List Entry)) (page : List Entry) → AreFull zero (pages ++ page ∷ []) →
    AreFull zero pages × (page ≡ [])
last_empty [] page f = (tt, f.0)
last_empty (p ∷ ps) page f = let ih = last_empty ps page f.1 in ((f.0, ih.0), ih.1)

-- pages of which only the first ones count
pub length-used : (n : ℕ) (pages : List (List Entry)) → length (used n pages) ≡ length pages
length-used n [] = refl
length-used zero (p ∷ ps) = ap suc (length-used zero ps)
length-used (suc n) (p ∷ ps) = ap suc (length-used n ps)

none_used : (pages : List (List Entry)) → AreFull zero (used zero pages)
none_used [] = tt
none_used (p ∷ ps) = (refl, none_used ps)

pub nothing_used : (pages : List (List Entry)) → in_pages (used zero pages) ≡ []
nothing_used pages = none_full (used zero pages) (none_used pages)

-- the first of them are all that has entries
pub in_first : (n : ℕ) (pages : List (List Entry)) → in_pages (take n pages) ≡ in_pages (used n pages)
in_first zero [] = refl
in_first (suc n) [] = refl
in_first zero (p ∷ ps) = sym (nothing_used ps)
in_first (suc n) (p ∷ ps) = ap (λ rest. p ++ rest) (in_first n ps)

pub at_first : (n : ℕ) (pages : List (List Entry)) (q r : ℕ) →
    at_place (slice_get (take n pages) q) r ≡ at_place (slice_get (used n pages) q) r
at_first zero [] q r = refl
at_first (suc n) [] q r = refl
at_first zero (p ∷ ps) zero r = refl
at_first zero (p ∷ ps) (suc q) r = at_first zero ps q r
at_first (suc n) (p ∷ ps) zero r = refl
at_first (suc n) (p ∷ ps) (suc q) r = at_first n ps q r

-- one page more counts, in which another is put
pub used_next : (n : ℕ) (pages : List (List Entry)) (hand : List Entry) → n < length pages →
    used (suc n) (set pages n hand) ≡ set (used n pages) n hand
used_next n [] hand l = absurd (omega (arith, l))
used_next zero (p ∷ ps) hand l = refl
used_next (suc n) (p ∷ ps) hand l = ap (λ rest. p ∷ rest) (used_next n ps hand (omega (arith, l)))

-- pages more, in which nothing counts
pub used_more : (n : ℕ) (pages : List (List Entry)) (k : ℕ) → n ≤ length pages →
    used n (pages ++ replicate k []) ≡ used n pages ++ replicate k []
used_more zero [] zero l = refl
used_more zero [] (suc k) l = ap (λ rest. [] ∷ rest) (used_more zero [] k l)
used_more zero (p ∷ ps) k l = ap (λ rest. [] ∷ rest) (used_more zero ps k (omega arith))
used_more (suc n) [] k l = absurd (omega (arith, l))
used_more (suc n) (p ∷ ps) k l = ap (λ rest. p ∷ rest) (used_more n ps k (omega (arith, l)))

-- empty pages count as they are
pub used_empty : (pages : List (List Entry)) → AreFull zero pages → used zero pages ≡ pages
used_empty [] f = refl
used_empty (p ∷ ps) f = λ j. sym f.0 j ∷ used_empty ps f.1 j

-- the pages of a history
module _ (others : List (List Entry)) (full : ℕ) (hand : List Entry) (room : ℕ)
    (kept : AreKept others full hand room) where
  pub kept_length : length (in_pages others ++ hand) ≡ 1024 * full + length hand
  kept_length = omega (arith, length-append (in_pages others) hand, full_length full others kept.full_first)

  pub kept_full : full ≤ length others
  kept_full = few_full full others kept.full_first

  -- at most a page is at hand, and without places nothing
  pub hand_small : length hand ≤ 1024
  hand_small = grind (arith, kept.fits, kept.page)

  pub kept_within : length (in_pages others ++ hand) ≤ 1024 * length others + room
  kept_within = omega (arith, kept_length, kept_full, kept.fits)

  pub get_hand : (number : ℕ) → number / 1024 ≡ full →
      slice_get (in_pages others ++ hand) number ≡ slice_get hand (number % 1024)
  get_hand number is =
      get_right (in_pages others) hand (number % 1024) number
      (omega (arith, full_length full others kept.full_first, is))

  pub get_other : (number : ℕ) → (number / 1024 ≡ full → ⊥) →
      slice_get (in_pages others ++ hand) number ≡ at_place (slice_get others (number / 1024)) (number % 1024)
  get_other number ne =
      ⊎_elim
      (λ l. get_left (in_pages others) hand number
      (omega (arith, full_length full others kept.full_first, l))
      ∙ in_page full others kept.full_first (number / 1024) (number % 1024) number (omega arith)
      (omega arith) l)
      (λ l. slice_get_past (in_pages others ++ hand) number (omega (arith, kept_length, hand_small, l, ne))
      ∙ sym (at_none full others kept.full_first (number / 1024) (number % 1024) l))
      (cases_lt (number / 1024) full)

  -- a page is at hand where an entry fits
  pub at_hand : length (in_pages others ++ hand) < 1024 * length others + room → room ≡ 1024
  at_hand fits =
      ⊎_elim (λ (q : room ≡ 1024). q)
      (λ none. (let l = ap length none.1 in absurd (omega (arith, fits, none.0, l)))) kept.page

  pub page_there : length hand < room → room ≡ 1024
  page_there place = grind (arith, kept.page)

  pub next_within : length hand ≡ 1024 →
      length (in_pages others ++ hand) < 1024 * length others + room → full < length others
  next_within l fits = omega (arith, l, fits, kept_length, at_hand fits)

  -- one entry more at hand
  pub kept_add : (e : Entry) → room ≡ 1024 → length hand < 1024 → AreKept others full (hand ++ e ∷ []) room
  kept_add e page short =
      record {
        full_first = kept.full_first;
        fits = omega (arith, length-append hand (e ∷ []), page, short);
        page = kept.page;
        few = kept.few;
      }

  -- the page at hand is full, and the next one is taken
  pub kept_turn : (next : List Entry) → length hand ≡ 1024 → full < length others → room ≡ 1024 →
      next ≡ get_or others full [] → AreKept (set others full hand) (full + 1) next 1024
  kept_turn next l within page is =
      record {
        full_first = let more : suc full ≡ full + 1 = omega arith in
            subst (λ n. AreFull n (set others full hand)) more
            (full_next full others hand kept.full_first l within);
        fits = omega (arith, ap length (is ∙ next_empty full others kept.full_first));
        page = inl refl;
        few = omega (arith, length-set others full hand, kept.few, page);
      }

  pub entries_turn : (next : List Entry) → full < length others → next ≡ get_or others full [] →
      in_pages (set others full hand) ++ next ≡ in_pages others ++ hand
  entries_turn next within is =
      ap (λ n. in_pages (set others full hand) ++ n) (is ∙ next_empty full others kept.full_first)
      ∙ append-nil (in_pages (set others full hand))
      ∙ in_pages_next full others hand kept.full_first within

  -- pages more
  pub kept_more : (k : ℕ) → room ≡ 1024 → 1024 * (length others + k) + room < 2 ^ 33 →
      AreKept (others ++ replicate k []) full hand room
  kept_more k page few =
      record {
        full_first = full_more full others kept.full_first k;
        fits = kept.fits;
        page = inl page;
        few = let l = length-append others (replicate k []) in
            omega (arith, l, few, length-replicate {A = List Entry} k []);
      }

  -- the first page
  pub none_kept : room ≡ 0 → AreFull zero others × (in_pages others ++ hand ≡ []) × (full ≡ 0)
  none_kept none = ⊎_elim (λ (q : room ≡ 1024). absurd (omega (arith, q, none))) by kept.page
    where
      by : (room ≡ 0) × (others ≡ []) → AreFull zero others × (in_pages others ++ hand ≡ []) × (full ≡ 0)
      by q =
          let zero_full : full ≡ 0 = omega (arith, kept_full, ap length q.1) in (
            subst (λ n. AreFull n others) zero_full kept.full_first,
            ap (λ ps. in_pages ps ++ hand) q.1
                ∙ nil_from_length hand (omega (arith, kept.fits, none)),
            zero_full,
          )

-- the pages with their last one at hand, where all are empty
module _ (pages others : List (List Entry)) (page : List Entry) (f : AreFull zero pages)
    (is : pages ≡ others ++ page ∷ []) where
  first_parts : AreFull zero others × (page ≡ [])
  first_parts = last_empty others page (subst (AreFull zero) is f)

  pub parts_empty : AreFull zero others
  parts_empty = first_parts.0

  pub kept_first : 1024 * length pages < 2 ^ 33 → AreKept others 0 page 1024
  kept_first few =
      record {
        full_first = first_parts.0;
        fits = omega (arith, ap length first_parts.1);
        page = inl refl;
        few = omega (arith, ap length is ∙ length-append others (page ∷ []), few);
      }

  pub entries_first : in_pages others ++ page ≡ []
  entries_first = ap (λ p. in_pages others ++ p) first_parts.1 ∙ append-nil (in_pages others)
      ∙ none_full others first_parts.0

-- without a page at hand there is no other
pub no_other : (full : ℕ) (others : List (List Entry)) (hand : List Entry) (room : ℕ) →
    AreKept (used full others) full hand room → room ≡ 0 → others ≡ []
no_other full others hand room kept none =
    ⊎_elim (λ (q : room ≡ 1024). absurd (omega (arith, q, none)))
    (λ q. nil_from_length others (omega (arith, ap length q.1, length-used full others))) kept.page

-- all entries fewer
pub kept_none : (others : List (List Entry)) (full : ℕ) (hand : List Entry) (room : ℕ) →
    AreKept (used full others) full hand room → AreKept (used 0 others) 0 [] room
kept_none others full hand room kept =
    record {
      full_first = none_used others;
      fits = omega arith;
      page = ⊎_elim (λ (q : room ≡ 1024). inl q) (λ none. inr (none.0, nothing (ap length none.1))) kept.page;
      few = omega (arith, length-used 0 others, length-used full others, kept.few);
    }
  where
    nothing : length (used full others) ≡ 0 → used 0 others ≡ []
    nothing q =
        nil_from_length (used 0 others) (omega (arith, length-used 0 others, length-used full others, q))
