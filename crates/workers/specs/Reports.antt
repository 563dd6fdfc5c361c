-- The report of a run.
use Rattle.std.specs.Prelude.{◌≡◌, ℕ, zero, suc, Bool, true, false, Option, None, IfSome, IsSome, List, [], ◌∷◌, ◌++◌, All, map, length, replicate}
use Rattle.workers.specs.Below.{Judgement, Legal, NotLegal, totals_of, Header, IsBasedWell, start_on, IsInRange, IsLegal, calls, IsBased, IsWithin, left_by, shares, IsLawful, blank, Shown, opening_pass, ScriptView, WorkerView, LockId}
use Rattle.workers.specs.declared.report.ObjectReport.{ObjectReport}
use Rattle.workers.specs.declared.report.Report.{Report}
use Rattle.workers.specs.declared.unrecorded.Keep.{Keep}
use Rattle.workers.specs.declared.unrecorded.Keep.TheVariants.{Count, Each}
use Rattle.workers.specs.declared.unrecorded.Unrecorded.{Unrecorded}
use Rattle.workers.specs.Calls.{Made, rounds}
use Rattle.workers.specs.Rows.{dealt}

-- The result of closing an object with these passes: a legal history that has exactly their entries, which
-- the audit judges legal, and their shares, which add up to its calls.
pub record IsPart (lock : LockId) (passes : List Shown) (part : ObjectReport) : Type 0 where
  pub header : part.header ≡ lock.header
  pub range : IsInRange part.header
  pub cap : part.history.cap ≡ lock.header.cap
  pub lawful : IsLawful (left_by lock part.history)
  pub within : All (IsWithin (left_by lock part.history)) passes
  pub based : IsBased lock part.history
  pub judged : part.judgement ≡ Legal (totals_of (start_on lock.header part.history) part.history.entries)
  pub share : part.share ≡ shares passes
  pub calls : part.share ≡ calls (start_on lock.header part.history) part.history.entries

abbrev pub is_legal : Judgement → Bool
is_legal (Legal totals) = true
is_legal (NotLegal number) = false

-- the header is in range, the base, if any, a good one of it, and the history legal
abbrev pub IsSound : ObjectReport → Type 0
IsSound part =
    IsInRange part.header × IsBasedWell part.header part.history.base
    × IsLegal (start_on part.header part.history) part.history.entries

-- a part for each object
abbrev pub AreParts : List LockId → List (List Shown) → List ObjectReport → Type 0
AreParts [] [] [] = Unit {0}
AreParts (lock ∷ locks) (column ∷ columns) (part ∷ parts) =
    IsPart lock column part × AreParts locks columns parts
AreParts _ _ _ = ⊥

-- the passes of a worker, one of each object, as they were opened
abbrev pub opening_row : List LockId → ℕ → List Shown
opening_row locks seat = map (λ lock. opening_pass lock (blank lock.header) seat) locks

-- the rows of n workers, from a seat on
abbrev pub opening_rows : List LockId → ℕ → ℕ → List (List Shown)
opening_rows locks seat zero = []
opening_rows locks seat (suc n) = opening_row locks seat ∷ opening_rows locks (suc seat) n

-- The calls of each worker turned its opening row into its row, and these are the answers that no history records.
-- The first worker has this number.
abbrev pub AllMade : ℕ → List WorkerView → List (List Shown) → List (List Shown) → List Unrecorded → Type 0
AllMade thread [] [] [] answers = answers ≡ []
AllMade thread (w ∷ ws) (old ∷ olds) (new ∷ news) answers =
    (its : List Unrecorded) × (others : List Unrecorded)
    × Made thread 0 (rounds w.repeat w.calls) old its new
    × AllMade (suc thread) ws olds news others × (answers ≡ its ++ others)
AllMade thread _ _ _ answers = ⊥

-- rows added to columns: each row adds a pass to each column
abbrev pub dealt_all : List (List Shown) → List (List Shown) → List (List Shown)
dealt_all [] columns = columns
dealt_all (row ∷ rows) columns = dealt_all rows (dealt row columns)

abbrev pub header_of : LockId → Header
header_of lock = lock.header

abbrev pub headers_of : ScriptView → List Header
headers_of s = map (λ o. o.1) s.objects

-- The report of a script: its objects were opened as monitors, the calls of each worker produced its row of
-- passes, and each object was closed with its column of these rows.
pub record IsReport (s : ScriptView) (r : Report) : Type 0 where
  pub locks : List LockId
  pub headers : map header_of locks ≡ headers_of s
  pub rows : List (List Shown)
  pub answers : List Unrecorded
  pub made : AllMade 0 s.workers (opening_rows locks 0 (length s.workers)) rows answers
  pub unrecorded : r.unrecorded ≡ length answers
  pub listed : IfSome r.listed (λ list. list.items ≡ answers)
  pub parts : AreParts locks (dealt_all rows (replicate (length locks) [])) r.objects.items

-- there is a list of these answers if it is asked for, and else there is none
abbrev pub IsListed : {A : Type 0} → Keep → Option A → Type 0
IsListed Count listed = listed ≡ None
IsListed Each listed = IsSome listed
