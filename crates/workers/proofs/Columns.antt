-- Rows of passes, and the columns of their objects.
use Rattle.std.proofs.Common.{◌≡◌, ℕ, zero, suc, ◌+◌, ◌<◌, ◌≤◌, List, [], ◌∷◌, ◌++◌, length, map, replicate, take, Some, get_or, refl, ap, sym, subst, arith, ◌∙◌, eqb, cond, Bool, true, false, append-nil, append_assoc}
use Rattle.std.specs.List.{All, slice_get}
use Rattle.std.proofs.lemmas.List.{length-map, map-append, take_more}
use Rattle.std.proofs.lemmas.Option.{slice_get_within, get_or_from_slice_get}
use Rattle.std.proofs.lemmas.List.Elements.{All-nil, All-cons, All-head, All-tail, All-push, All-same}
use Rattle.std.proofs.lemmas.Bool.Decides.{nat_tests}
use Rattle.workers.specs.Below.{Header, IsLegal, HistoryView, IsBasedWell, start_on, IsBased, left_by, passes_of, IsLawful, blank, Shown, opening_pass, opening_passes, WorkerView, LockId}
use Rattle.workers.specs.Prelude.{ObjectReport, AreParts, IsPart, IsSound, dealt_all, header_of, opening_row, opening_rows, dealt}
use Rattle.workers.specs.declared.work.Worked.{Worked}
use Rattle.workers.specs.inner.Homes.{HaveColumns, home_of, homes, homes_below, lock_of}
use Rattle.workers.specs.inner.Results.{passes_left}
use Rattle.workers.proofs.Working.{AllWorked}

-- one object more in a row
row_more : (locks : List LockId) (lock : LockId) (seat : ℕ) →
    opening_row locks seat ++ opening_pass lock (blank lock.header) seat ∷ [] ≡
    opening_row (locks ++ lock ∷ []) seat
row_more locks lock seat =
    sym (map-append (λ (l : LockId). opening_pass l (blank l.header) seat) locks (lock ∷ []))

-- one object more in all rows
pub rows_more : (locks : List LockId) (lock : LockId) (seat n : ℕ) →
    dealt (opening_passes lock (blank lock.header) seat n) (opening_rows locks seat n)
    ≡ opening_rows (locks ++ lock ∷ []) seat n
rows_more locks lock seat zero = refl
rows_more locks lock seat (suc n) =
    ap (λ z. z ∷ dealt (opening_passes lock (blank lock.header) (suc seat) n)
    (opening_rows locks (suc seat) n))
    (row_more locks lock seat)
    ∙ ap (λ z. opening_row (locks ++ lock ∷ []) seat ∷ z) (rows_more locks lock (suc seat) n)

-- no object yet
pub rows_none : (seat n : ℕ) → replicate n [] ≡ opening_rows [] seat n
rows_none seat zero = refl
rows_none seat (suc n) = ap (λ z. [] ∷ z) (rows_none (suc seat) n)

pub rows_count : (locks : List LockId) (seat n : ℕ) → length (opening_rows locks seat n) ≡ n
rows_count locks seat zero = refl
rows_count locks seat (suc n) = ap suc (rows_count locks (suc seat) n)

row_locks : (locks : List LockId) (seat : ℕ) → map lock_of (opening_row locks seat) ≡ locks
row_locks [] seat = refl
row_locks (l ∷ locks) seat = ap (λ z. l ∷ z) (row_locks locks seat)

-- each pass of a row is of its object
pub rows_own : (locks : List LockId) (seat n : ℕ) →
    All (λ (row : List Shown). map lock_of row ≡ locks) (opening_rows locks seat n)
rows_own locks seat zero = All-nil (λ (row : List Shown). map lock_of row ≡ locks)
rows_own locks seat (suc n) =
    All-cons (λ (row : List Shown). map lock_of row ≡ locks) (opening_row locks seat)
    (opening_rows locks (suc seat) n) (row_locks locks seat) (rows_own locks (suc seat) n)

-- a seat of each monitor
abbrev homes_at : List LockId → ℕ → List (LockId × ℕ)
homes_at locks seat = map (λ lock. (lock, seat)) locks

row_homes : (locks : List LockId) (seat : ℕ) → homes (opening_row locks seat) ≡ homes_at locks seat
row_homes [] seat = refl
row_homes (l ∷ locks) seat = ap (λ z. (l, seat) ∷ z) (row_homes locks seat)

-- columns with the seats below one
abbrev pub HaveBelow : ℕ → List LockId → List (List Shown) → Type 0
HaveBelow n [] [] = Unit {0}
HaveBelow n [] (column ∷ columns) = ⊥
HaveBelow n (lock ∷ locks) [] = ⊥
HaveBelow n (lock ∷ locks) (column ∷ columns) =
    (homes column ≡ homes_below lock n) × HaveBelow n locks columns

-- columns of nothing
pub below_none : (locks : List LockId) → HaveBelow 0 locks (replicate (length locks) [])
below_none [] = tt
below_none (lock ∷ locks) = (refl, below_none locks)

pub heads : {A : Type 0} (x y : A) (xs ys : List A) → x ∷ xs ≡ y ∷ ys → x ≡ y
heads x y xs ys same = cc

pub tails : {A : Type 0} (x y : A) (xs ys : List A) → x ∷ xs ≡ y ∷ ys → xs ≡ ys
tails x y xs ys same = cc

column_more : (n : ℕ) (lock : LockId) (column : List Shown) (p : Shown) → homes column ≡ homes_below lock n →
    home_of p ≡ (lock, n) → homes (column ++ p ∷ []) ≡ homes_below lock (suc n)
column_more n lock column p below at =
    map-append home_of column (p ∷ []) ∙ ap (λ z. z ++ home_of p ∷ []) below
    ∙ ap (λ h. homes_below lock n ++ h ∷ []) at

-- a row with one seat more
below_more : (n : ℕ) (locks : List LockId) (row : List Shown) (columns : List (List Shown)) →
    homes row ≡ homes_at locks n → HaveBelow n locks columns → HaveBelow (suc n) locks (dealt row columns)
below_more n [] [] [] same below = tt
below_more n [] [] (column ∷ columns) same below = absurd below
below_more n [] (p ∷ row) columns same below = absurd (omega (arith, ap length same))
below_more n (lock ∷ locks) [] columns same below = absurd (omega (arith, ap length same))
below_more n (lock ∷ locks) (p ∷ row) [] same below = absurd below
below_more n (lock ∷ locks) (p ∷ row) (column ∷ columns) same (first, rest) = (
  column_more n lock column p first (heads (home_of p) (lock, n) (homes row) (homes_at locks n) same),
  below_more n locks row columns (tails (home_of p) (lock, n) (homes row) (homes_at locks n) same) rest,
)

-- the rows of all workers from a seat on
below_all : (answers : ℕ → ℕ → Bool → Type 0) (ws : List WorkerView) (locks : List LockId) (seat n : ℕ)
    (dones : List Worked) (columns : List (List Shown)) →
    AllWorked answers seat ws (opening_rows locks seat n) dones →
    HaveBelow seat locks columns → HaveBelow (seat + n) locks (dealt_all (passes_left dones) columns)
below_all answers [] locks seat zero [] columns worked below =
    let same : seat ≡ seat + 0 = omega arith in subst (λ (z : ℕ). HaveBelow z locks columns) same below
below_all answers [] locks seat zero (done ∷ dones) columns worked below = absurd worked
below_all answers (w ∷ ws) locks seat zero dones columns worked below = absurd worked
below_all answers [] locks seat (suc n) dones columns worked below = absurd worked
below_all answers (w ∷ ws) locks seat (suc n) [] columns worked below = absurd worked
below_all answers (w ∷ ws) locks seat (suc n) (done ∷ dones) columns (first, rest) below =
    let up : suc seat + n ≡ seat + suc n = omega arith in
    subst (λ (z : ℕ). HaveBelow z locks (dealt_all (passes_left dones) (dealt done.passes columns))) up
    (below_all answers ws locks (suc seat) n dones (dealt done.passes columns) rest
    (below_more seat locks done.passes columns (first.same ∙ row_homes locks seat) below))

have_columns : (n : ℕ) (locks : List LockId) (columns : List (List Shown)) →
    All (λ (l : LockId). l.header.seats ≡ n) locks → HaveBelow n locks columns → HaveColumns locks columns
have_columns n [] [] seats below = tt
have_columns n [] (column ∷ columns) seats below = absurd below
have_columns n (lock ∷ locks) [] seats below = absurd below
have_columns n (lock ∷ locks) (column ∷ columns) seats (first, rest) =
    let P : LockId → Type 0 = λ (l : LockId). l.header.seats ≡ n in (
      first ∙ ap (homes_below lock) (sym (All-head P lock locks seats)),
      have_columns n locks columns (All-tail P lock locks seats) rest,
    )

-- the rows that all workers leave give each object the passes of all its seats
pub all_columns : (answers : ℕ → ℕ → Bool → Type 0) (ws : List WorkerView) (locks : List LockId) (n : ℕ)
    (dones : List Worked) →
    All (λ (l : LockId). l.header.seats ≡ n) locks → AllWorked answers 0 ws (opening_rows locks 0 n) dones →
    HaveColumns locks (dealt_all (passes_left dones) (replicate (length locks) []))
all_columns answers ws locks n dones seats worked =
    let up : 0 + n ≡ n = omega arith in
    have_columns n locks (dealt_all (passes_left dones) (replicate (length locks) [])) seats
    (subst (λ (z : ℕ). HaveBelow z locks (dealt_all (passes_left dones) (replicate (length locks) []))) up
    (below_all answers ws locks 0 n dones (replicate (length locks) []) worked (below_none locks)))

-- a row has a pass for each object
row_length : (ps : List Shown) (locks : List LockId) (seat : ℕ) → homes ps ≡ homes (opening_row locks seat) →
    length ps ≡ length locks
row_length ps locks seat same =
    sym (length-map ps home_of) ∙ ap length (same ∙ row_homes locks seat)
    ∙ length-map locks (λ (lock : LockId). (lock, seat))

pub rows_fit : (answers : ℕ → ℕ → Bool → Type 0) (ws : List WorkerView) (locks : List LockId) (seat n k : ℕ)
    (dones : List Worked) →
    k ≡ length locks → AllWorked answers seat ws (opening_rows locks seat n) dones →
    All (λ (done : Worked). length done.passes ≤ k) dones
rows_fit answers ws locks seat n k [] is worked = All-nil (λ (done : Worked). length done.passes ≤ k)
rows_fit answers [] locks seat zero k (done ∷ dones) is worked = absurd worked
rows_fit answers (w ∷ ws) locks seat zero k (done ∷ dones) is worked = absurd worked
rows_fit answers [] locks seat (suc n) k (done ∷ dones) is worked = absurd worked
rows_fit answers (w ∷ ws) locks seat (suc n) k (done ∷ dones) is (first, rest) =
    let same = row_length done.passes locks seat first.same in
    All-cons (λ (d : Worked). length d.passes ≤ k) done dones (omega (arith, same, is))
    (rows_fit answers ws locks (suc seat) n k dones is rest)

-- the passes of an object's column
below_own : (lock : LockId) (n : ℕ) → All (λ (h : LockId × ℕ). h.0 ≡ lock) (homes_below lock n)
below_own lock zero = All-nil (λ (h : LockId × ℕ). h.0 ≡ lock)
below_own lock (suc n) =
    All-push (λ (h : LockId × ℕ). h.0 ≡ lock) (homes_below lock n) (lock, n) (below_own lock n) refl

own_of : (lock : LockId) (ps : List Shown) → All (λ (h : LockId × ℕ). h.0 ≡ lock) (homes ps) →
    All (λ (p : Shown). p.lock ≡ lock) ps
own_of lock [] own = All-nil (λ (p : Shown). p.lock ≡ lock)
own_of lock (p ∷ ps) own =
    let P : LockId × ℕ → Type 0 = λ (h : LockId × ℕ). h.0 ≡ lock in
    All-cons (λ (q : Shown). q.lock ≡ lock) p ps (All-head P (home_of p) (homes ps) own)
    (own_of lock ps (All-tail P (home_of p) (homes ps) own))

pub column_own : (lock : LockId) (n : ℕ) (ps : List Shown) → homes ps ≡ homes_below lock n →
    All (λ (p : Shown). p.lock ≡ lock) ps
column_own lock n ps same =
    own_of lock ps (All-same (λ (h : LockId × ℕ). h.0 ≡ lock) (homes ps) (homes_below lock n) same
    (below_own lock n))

abbrev seats_in : ℕ → List (LockId × ℕ) → ℕ
seats_in i [] = 0
seats_in i (h ∷ hs) = seats_in i hs + cond (eqb i h.1) 1 0

passes_seats : (i : ℕ) (ps : List Shown) → passes_of i ps ≡ seats_in i (homes ps)
passes_seats i [] = refl
passes_seats i (p ∷ ps) = ap (λ z. z + cond (eqb i p.seat) 1 0) (passes_seats i ps)

seats_more : (i : ℕ) (hs : List (LockId × ℕ)) (h : LockId × ℕ) →
    seats_in i (hs ++ h ∷ []) ≡ seats_in i hs + cond (eqb i h.1) 1 0
seats_more i [] h = refl
seats_more i (g ∷ hs) h = let rest = seats_more i hs h in omega (arith, rest)

seats_last : (b : Bool) (i m x all : ℕ) → eqb i m ≡ b → all ≡ x + cond b 1 0 → (i < m → 1 ≤ x) → i < suc m →
    1 ≤ all
seats_last true i m x all is sum there below = omega (arith, sum)
seats_last false i m x all is sum there below =
    let lower : i < m = grind (arith, nat_tests) in let some = there lower in omega (arith, sum, some)

seats_there : (lock : LockId) (n i : ℕ) → i < n → 1 ≤ seats_in i (homes_below lock n)
seats_there lock zero i below = absurd (omega (arith, below))
seats_there lock (suc m) i below =
    seats_last (eqb i m) i m (seats_in i (homes_below lock m)) _ refl
    (seats_more i (homes_below lock m) (lock, m)) (seats_there lock m i) below

pub column_whole : (lock : LockId) (n : ℕ) (ps : List Shown) → homes ps ≡ homes_below lock n →
    (i : ℕ) → i < n →
    1 ≤ passes_of i ps
column_whole lock n ps same i below =
    let here = passes_seats i ps ∙ ap (seats_in i) same in let some = seats_there lock n i below in
    omega (arith, here, some)

-- the first object and its column
pub columns_cut : (locks rest : List LockId) (lock : LockId) (columns others : List (List Shown))
    (column : List Shown) → locks ≡ lock ∷ rest → columns ≡ column ∷ others → HaveColumns locks columns →
    (homes column ≡ homes_below lock lock.header.seats) × HaveColumns rest others
columns_cut locks rest lock columns others column first second have =
    subst (λ (z : List (List Shown)). HaveColumns (lock ∷ rest) z) second
    (subst (λ (z : List LockId). HaveColumns z columns) first have)

no_parts : (columns : List (List Shown)) → HaveColumns [] columns → AreParts [] columns []
no_parts [] have = tt
no_parts (column ∷ columns) have = absurd have

-- no object is left
pub parts_end : (all locks : List LockId) (all_columns columns : List (List Shown))
    (parts : List ObjectReport) →
    locks ≡ [] → HaveColumns locks columns →
    ((more : List ObjectReport) → AreParts locks columns more → AreParts all all_columns (parts ++ more)) →
    AreParts all all_columns parts
parts_end all locks all_columns columns parts none have so_far =
    subst (λ (z : List ObjectReport). AreParts all all_columns z) (append-nil parts)
    (so_far [] (subst (λ (z : List LockId). AreParts z columns []) (sym none)
    (no_parts columns (subst (λ (z : List LockId). HaveColumns z columns) none have))))

-- the headers of the objects so far
pub headers_more : (locks : List LockId) (lock : LockId) (hs : List Header) (k : ℕ) (h : Header) →
    map header_of locks ≡ take k hs → slice_get hs k ≡ Some h → lock.header ≡ h →
    map header_of (locks ++ lock ∷ []) ≡ take (k + 1) hs
headers_more locks lock hs k h so_far at same =
    let below = slice_get_within hs k h at in
    let here : get_or hs k h ≡ h = get_or_from_slice_get hs k h h at in
    map-append header_of locks (lock ∷ []) ∙ ap (λ z. z ++ lock.header ∷ []) so_far
    ∙ ap (λ (z : Header). take k hs ++ z ∷ []) (same ∙ sym here) ∙ sym (take_more hs k h below)

-- one part more, that of the first object left
pub parts_on : (all : List LockId) (cols : List (List Shown)) (left next : List LockId) (lock : LockId)
    (columns nexts : List (List Shown)) (column : List Shown) (parts more' : List ObjectReport)
    (part : ObjectReport) → left ≡ lock ∷ next → columns ≡ column ∷ nexts → more' ≡ parts ++ part ∷ [] →
    IsPart lock column part →
    ((more : List ObjectReport) → AreParts left columns more → AreParts all cols (parts ++ more)) →
    (more : List ObjectReport) → AreParts next nexts more → AreParts all cols (more' ++ more)
parts_on all cols left next lock columns nexts column parts more' part first second pushed is so_far ps are =
    let whole : AreParts (lock ∷ next) (column ∷ nexts) (part ∷ ps) = (is, are) in
    subst (AreParts all cols) (sym (ap (λ p. p ++ ps) pushed ∙ append_assoc parts (part ∷ []) ps))
    (so_far (part ∷ ps) (subst (λ l. AreParts l columns (part ∷ ps)) (sym first)
    (subst (λ x. AreParts (lock ∷ next) x (part ∷ ps)) (sym second) whole)))

-- what a monitor leaves has a good base of the monitor's header
pub well_based : (lock : LockId) (v : HistoryView) → IsBased lock v → IsLawful (left_by lock v) →
    IsBasedWell lock.header v.base
well_based lock v is lawful =
    subst (IsBasedWell lock.header) (sym is.0) (is.1, lawful.may_fold.can.good)

pub part_sound : (lock : LockId) (column : List Shown) (part : ObjectReport) →
    IsPart lock column part → IsSound part
part_sound lock column part is = (
  is.range,
  subst (λ (k : Header). IsBasedWell k part.history.base) (sym is.header)
      (well_based lock part.history is.based is.lawful),
  subst (λ (k : Header). IsLegal (start_on k part.history) part.history.entries) (sym is.header)
      is.lawful.legal,
)

-- what is true of each part of an object is true of all parts
pub each_part : (P : ObjectReport → Type 0) →
    ((lock : LockId) (column : List Shown) (part : ObjectReport) → IsPart lock column part → P part) →
    (locks : List LockId) (columns : List (List Shown)) (parts : List ObjectReport) →
    AreParts locks columns parts → All P parts
each_part P each [] [] [] are = All-nil P
each_part P each [] [] (part ∷ parts) are = absurd are
each_part P each [] (column ∷ columns) parts are = absurd are
each_part P each (lock ∷ locks) [] parts are = absurd are
each_part P each (lock ∷ locks) (column ∷ columns) [] are = absurd are
each_part P each (lock ∷ locks) (column ∷ columns) (part ∷ parts) (first, rest) =
    All-cons P part parts (each lock column part first) (each_part P each locks columns parts rest)
