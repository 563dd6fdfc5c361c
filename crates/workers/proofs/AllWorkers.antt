-- A run as a whole.
use Rattle.std.proofs.Common.{◌≡◌, ℕ, ◌<◌, ◌≤◌, Bool, List, [], ◌∷◌, length, map, ap, sym, subst, arith, ◌∙◌, get_or}
use Rattle.std.specs.List.{All}
use Rattle.std.proofs.lemmas.List.Elements.{All-nil, All-cons, All-head, All-tail, All-same, All-weaker}
use Rattle.workers.specs.Below.{Header, Shown, IsObject, IsScript, Named, ScriptView, WorkerView, LockId}
use Rattle.workers.specs.declared.work.Worked.{Worked}
use Rattle.workers.specs.Reports.{header_of, headers_of, opening_rows}
use Rattle.workers.specs.inner.Homes.{lock_of}
use Rattle.workers.specs.inner.Results.{WorksAt}
use Rattle.workers.proofs.Columns.{heads, rows_count, rows_own, tails}
use Rattle.workers.proofs.Working.{AllWorked, all_worked}

abbrev HasSeats : ℕ → LockId → Type 0
HasSeats n lock = lock.header.seats ≡ n

seats_each : (n : ℕ) (locks : List LockId) (os : List Named) →
    map header_of locks ≡ map (λ (o : Named). o.1) os →
    All (IsObject n) os → All (HasSeats n) locks
seats_each n [] os same all = All-nil (HasSeats n)
seats_each n (l ∷ locks) [] same all = absurd (omega (arith, ap length same))
seats_each n (l ∷ locks) (o ∷ os) same all =
    let header = heads l.header o.1 (map header_of locks) (map (λ (o : Named). o.1) os) same in
    let object = All-head (IsObject n) o os all in
    All-cons (HasSeats n) l locks (ap (λ (h : Header). h.seats) header ∙ object.seats)
    (seats_each n locks os (tails l.header o.1 (map header_of locks) (map (λ (o : Named). o.1) os) same)
    (All-tail (IsObject n) o os all))

-- each object has as many seats as there are workers
pub all_seats : (s : ScriptView) (locks : List LockId) → map header_of locks ≡ headers_of s → IsScript s →
    All (HasSeats (length s.workers)) locks
all_seats s locks same is = seats_each (length s.workers) locks s.objects same is.objects

pub all_places : (s : ScriptView) (locks : List LockId) (places : ℕ) → places ≡ length s.workers →
    map header_of locks ≡ headers_of s → IsScript s → All (λ (l : LockId). l.header.seats ≤ places) locks
all_places s locks places as_many same is =
    All-weaker (HasSeats (length s.workers)) (λ (l : LockId). l.header.seats ≤ places)
    (λ l seats. omega (arith, seats, as_many)) locks (all_seats s locks same is)

-- each worker's calls are of these objects
pub all_own : (locks : List LockId) (rows : List (List Shown)) (n : ℕ) → rows ≡ opening_rows locks 0 n →
    All (λ (row : List Shown). map lock_of row ≡ locks) rows
all_own locks rows n is =
    All-same (λ (row : List Shown). map lock_of row ≡ locks) rows (opening_rows locks 0 n) is
    (rows_own locks 0 n)

-- all workers, as they were opened
pub ran : (answers : ℕ → ℕ → Bool → Type 0) (s : ScriptView) (ws : List WorkerView) (locks : List LockId)
    (rows : List (List Shown)) (dones : List Worked) → ws ≡ s.workers →
    rows ≡ opening_rows locks 0 (length s.workers) → length dones ≡ length ws →
    ((i : ℕ) (d : Worked) → i < length ws → WorksAt answers 0 ws rows i (get_or dones i d)) →
    AllWorked answers 0 s.workers (opening_rows locks 0 (length s.workers)) dones
ran answers s ws locks rows dones same opened count each =
    let as_many : length rows ≡ length ws =
    ap length opened ∙ rows_count locks 0 (length s.workers) ∙ sym (ap length same) in
    subst (λ (z : List (List Shown)). AllWorked answers 0 s.workers z dones) opened
    (subst (λ (z : List WorkerView). AllWorked answers 0 z rows dones) same
    (all_worked answers 0 ws rows dones as_many count each))
