-- The marks of a table of seats.
use Rattle.std.proofs.Common.{◌≡◌, ⊎_elim, ℕ, ◌<◌, ◌≤◌, Bool, true, false, not, ◌&&◌, ◌||◌, cond, eqb, List, length, get_or, set, replicate, Option, Some, None, Ok, refl, ap, ◌∙◌, sym, subst, arith, IfSome, eq-eqb, ne_eqb, get_or-set_other, get_or-set_same, length-set}
use Rattle.std.proofs.lemmas.Bool.{cases_eq, cases_lt}
use Rattle.std.proofs.lemmas.List.{get_or-map, get_or-replicate, get_or_past, length-map, length-replicate, map-set}
use Rattle.frame.specs.Below.{Entry, Header, Object, Recorded, Sleep, is_seat, HistoryView, start_on, StandInLine, marks_after, own_mark, remarked, unmarked, named, Start}
use Rattle.history.proofs.Marking.{remarked_is}
use Rattle.frame.specs.Prelude.{Seat, CoreView, IsTold, marks_of, start_of, unmarked_at, with_history, IsSeat, marks_in, no_holds, seat_after, telling, told_in, with_mark}

-- the list of the marks of a table has the mark of each seat
pub marks_at : (t : List Seat) (i : ℕ) → get_or (told_in t) i false ≡ marks_in t i
marks_at t i =
    ⊎_elim (λ (l : i < length t). get_or-map (λ (x : Seat). x.told) t i no_holds false l)
    (λ (past : length t ≤ i).
    let n : length (told_in t) ≡ length t = length-map t (λ (x : Seat). x.told) in
    get_or_past (told_in t) i false (omega (arith, n, past))
    ∙ sym (ap (λ (x : Seat). x.told) (get_or_past t i no_holds past)))
    (cases_lt i (length t))

pub marks_seen : (k : Header) (kept : HistoryView) (t : List Seat) →
    marks_of (with_history k kept (told_in t)) ≡ marks_in t
marks_seen k kept t = λ j i. marks_at t i j

-- a table of seats that hold nothing marks nobody
pub marks_free : (n : ℕ) (t : List Seat) → t ≡ replicate n no_holds → marks_in t ≡ unmarked
marks_free n t free = λ j i. at i j
  where
    at : (i : ℕ) → marks_in t i ≡ false
    at i =
        ap (λ y. marks_in y i) free
        ∙ ⊎_elim
        (λ (l : i < n). ap (λ (x : Seat). x.told) (get_or-replicate n i no_holds no_holds l))
        (λ (past : n ≤ i).
        let m = length-replicate n no_holds in
        ap (λ (x : Seat). x.told) (get_or_past (replicate n no_holds) i no_holds (omega (arith, m, past))))
        (cases_lt i n)

-- a table in which one seat is another
marks_set : (t : List Seat) (i j : ℕ) (x : Seat) → i < length t →
    marks_in (set t i x) j ≡ cond (eqb i j) x.told (marks_in t j)
marks_set t i j x l =
    ⊎_elim
    (λ (same : i ≡ j).
    rw (eq-eqb i j same)
    (subst (λ y. marks_in (set t i x) y ≡ x.told) same
    (ap (λ (y : Seat). y.told) (get_or-set_same t i x no_holds l))))
    (λ (ne : i ≡ j → ⊥).
    rw (ne_eqb i j ne)
    (ap (λ (y : Seat). y.told) (get_or-set_other t i j x no_holds (λ q. ne (sym q)))))
    (cases_eq i j)

marks_own : (o : Object) (e : Entry) (t : List Seat) (j : ℕ) → e.seat < length t →
    marks_in (set t e.seat (seat_after o e (get_or t e.seat no_holds))) j
    ≡ cond (eqb e.seat j) (own_mark e.word (marks_in t j)) (marks_in t j)
marks_own o e t j l =
    marks_set t e.seat j (seat_after o e (get_or t e.seat no_holds)) l
    ∙ ⊎_elim
    (λ (same : e.seat ≡ j). ap (λ i. cond (eqb e.seat j) (own_mark e.word (marks_in t i)) (marks_in t j))
    same)
    (λ (ne : e.seat ≡ j → ⊥). other (eqb e.seat j) (ne_eqb e.seat j ne))
    (cases_eq e.seat j)
  where
    other : (b : Bool) → b ≡ false →
        cond b (own_mark e.word (marks_in t e.seat)) (marks_in t j)
        ≡ cond b (own_mark e.word (marks_in t j)) (marks_in t j)
    other true q = cc
    other false q = refl

marks_telling : (name : Option ℕ) (t : List Seat) (j : ℕ) → IfSome name (λ i. i < length t) →
    marks_in (telling name t) j ≡ (is_seat name j || marks_in t j)
marks_telling None t j l = refl
marks_telling (Some i) t j l =
    marks_set t i j (record (get_or t i no_holds) { told = true }) l ∙ by (eqb i j) (marks_in t j)
  where
    by : (b m : Bool) → cond b true m ≡ (b || m)
    by true m = refl
    by false m = refl

-- the table behind an entry that names somebody or nobody
abbrev pub table_behind : Object → Entry → Option ℕ → List Seat → List Seat
table_behind o e name t = telling name (set t e.seat (seat_after o e (get_or t e.seat no_holds)))

pub marks_behind : (o : Object) (e : Entry) (name : Option ℕ) (t : List Seat) → e.seat < length t →
    IfSome name (λ i. i < length t) → marks_in (table_behind o e name t) ≡ remarked e name (marks_in t)
marks_behind o e name t l below =
    λ k j. (marks_telling name (set t e.seat x) j
    (subst (λ n. IfSome name (λ i. i < n)) (sym (length-set t e.seat x)) below)
    ∙ ap (λ m. is_seat name j || m) (marks_own o e t j l)) k
  where
    x : Seat
    x = seat_after o e (get_or t e.seat no_holds)

-- and what a caller sees of it
pub told_behind : (k : Header) (kept new : HistoryView) (o : Object) (e : Entry) (name : Option ℕ)
    (t t' : List Seat) → e.seat < length t → IfSome name (λ i. i < length t) →
    t' ≡ table_behind o e name t → name ≡ named (start_on k kept) kept.entries e →
    StandInLine (start_on k kept) kept.entries (marks_in t) →
    IsTold (with_history k kept (told_in t)) e.seat (Ok (Recorded e name)) (with_history k new (told_in t'))
told_behind k kept new o e name t t' l below is names stand =
    marks_seen k new t' ∙ ap marks_in is ∙ marks_behind o e name t l below
    ∙ ap (λ w. remarked e w (marks_in t)) names
    ∙ sym (remarked_is s h e.seat (marks_in t) e stand)
    ∙ ap (λ w. marks_after s h e.seat (Ok (Recorded e w)) (marks_in t)) (sym names)
    ∙ ap (λ m. marks_after s h e.seat (Ok (Recorded e name)) m) (sym (marks_seen k kept t))
  where
    s : Start
    s = start_on k kept

    h : List Entry
    h = kept.entries

-- A mark changes nothing else of a seat.
remark_seat : (s : Start) (h : List Entry) (i : ℕ) (x : Seat) (b : Bool) → IsSeat s h i x →
    IsSeat s h i (record x { told = b })
remark_seat s h i x b is = record { exclusive = is.exclusive; shared = is.shared; sleep = is.sleep }

pub tabled_mark : (s : Start) (h : List Entry) (n : ℕ) (b : Bool) (j : ℕ) (t : List Seat) → j < length t →
    ((i : ℕ) → i < n → IsSeat s h i (get_or t i no_holds)) → (i : ℕ) → i < n →
    IsSeat s h i (get_or (with_mark b j t) i no_holds)
tabled_mark s h n b j t l all i below =
    ⊎_elim
    (λ (same : j ≡ i).
    subst (λ y. IsSeat s h y (get_or (set t j x) y no_holds)) same
    (subst (IsSeat s h j) (sym (get_or-set_same t j x no_holds l))
    (remark_seat s h j (get_or t j no_holds) b (all j (omega (arith, same, below))))))
    (λ (ne : j ≡ i → ⊥).
    subst (IsSeat s h i) (sym (get_or-set_other t j i x no_holds (λ q. ne (sym q)))) (all i below))
    (cases_eq j i)
  where
    x : Seat
    x = record (get_or t j no_holds) { told = b }

pub tabled_telling : (s : Start) (h : List Entry) (n : ℕ) (name : Option ℕ) (t : List Seat) →
    IfSome name (λ j. j < length t) → ((i : ℕ) → i < n → IsSeat s h i (get_or t i no_holds)) → (i : ℕ) →
    i < n → IsSeat s h i (get_or (telling name t) i no_holds)
tabled_telling s h n None t l all = all
tabled_telling s h n (Some j) t l all = tabled_mark s h n true j t l all

pub length_telling : (name : Option ℕ) (t : List Seat) → length (telling name t) ≡ length t
length_telling None t = refl
length_telling (Some i) t = length-set t i _

-- A seat that is told no more.
cleared : (l : List Bool) (i : ℕ) → get_or (set l i false) i false ≡ false
cleared l i =
    ⊎_elim (λ (b : i < length l). get_or-set_same l i false false b)
    (λ (past : length l ≤ i).
    let n = length-set l i false in get_or_past (set l i false) i false (omega (arith, n, past)))
    (cases_lt i (length l))

untold_at : (l : List Bool) (i j : ℕ) → get_or (set l i false) j false ≡ (get_or l j false && not (eqb j i))
untold_at l i j =
    ⊎_elim
    (λ (same : i ≡ j).
    ap (λ y. get_or (set l i false) y false) (sym same) ∙ cleared l i
    ∙ gone (get_or l j false) (eqb j i) (eq-eqb j i (sym same)))
    (λ (ne : i ≡ j → ⊥).
    get_or-set_other l i j false false (λ q. ne (sym q))
    ∙ stays (get_or l j false) (eqb j i) (ne_eqb j i (λ q. ne (sym q))))
    (cases_eq i j)
  where
    gone : (m b : Bool) → b ≡ true → false ≡ (m && not b)
    gone true true q = refl
    gone false true q = refl
    gone m false q = cc

    stays : (m b : Bool) → b ≡ false → m ≡ (m && not b)
    stays true false q = refl
    stays false false q = refl
    stays m true q = cc

pub marks_untold : (s : Start) (h : List Entry) (t : List Seat) (i : ℕ) →
    marks_in (with_mark false i t) ≡ marks_after s h i (Ok Sleep) (marks_in t)
marks_untold s h t i = λ k j. at j k
  where
    at : (j : ℕ) → marks_in (with_mark false i t) j ≡ (marks_in t j && not (eqb j i))
    at j =
        sym (marks_at (with_mark false i t) j)
        ∙ ap (λ l. get_or l j false) (map-set (λ (x : Seat). x.told) t i _)
        ∙ untold_at (told_in t) i j
        ∙ ap (λ m. m && not (eqb j i)) (marks_at t j)

-- and what a caller sees of it
pub marks_slept : (v : CoreView) (i : ℕ) →
    marks_of (unmarked_at i v) ≡ marks_after (start_of v) v.entries i (Ok Sleep) (marks_of v)
marks_slept v i = λ k j. untold_at v.told i j k

pub view_untold : (k : Header) (kept : HistoryView) (t : List Seat) (i : ℕ) →
    with_history k kept (told_in (with_mark false i t)) ≡ unmarked_at i (with_history k kept (told_in t))
view_untold k kept t i = ap (with_history k kept) (map-set (λ (x : Seat). x.told) t i _)
