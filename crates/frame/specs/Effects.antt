-- How an entry changes the counts, and what it requires of them.
use Rattle.std.specs.Prelude.{◌≡◌, ◌<◌, ℕ, Bool, true, false, Ok}
use Rattle.frame.specs.Below.{Entry, Word, Got, TryGot, Granted, Gave, Counted, Await, Back, Drained, Left, took, given, let_go, restored, drained, could, Counts, is_semaphore, gave}
use Rattle.frame.specs.Hooks.{IsRestorable, NobodyElse, NobodyElseNew, let_go_answer, drain_answer}

abbrev pub counts_after : Word → Counts → Entry → Counts
counts_after Got k e = took k e.seat e.mode e.n
counts_after TryGot k e = took k e.seat e.mode e.n
counts_after Granted k e = took k e.seat e.mode e.n
counts_after Gave k e = given k e.seat e.mode e.n
counts_after Counted k e = given k e.seat e.mode e.n
counts_after Await k e = let_go k e.seat
counts_after Back k e = restored k e.seat e.n
counts_after Drained k e = drained k e.seat e.n
counts_after _ k e = k

-- a seat that could acquire
pub record IsTakeable (k : Counts) (e : Entry) : Type 0 where
  pub seat : e.seat < k.seats
  pub could : could k e.seat e.mode e.n ≡ true

-- the counts allow the hooks to do what the entry says
abbrev pub IsAllowed : Word → Counts → Entry → Type 0
IsAllowed Got k e = IsTakeable k e
IsAllowed TryGot k e = IsTakeable k e
IsAllowed Granted k e = IsTakeable k e
IsAllowed Gave k e = gave k.object k e.seat e.mode e.n ≡ Gave
IsAllowed Counted k e = gave k.object k e.seat e.mode e.n ≡ Counted
IsAllowed Await k e = let_go_answer k e.seat ≡ Ok e.n
IsAllowed Back k e = IsRestorable k e.seat e.n
IsAllowed Drained k e = (is_semaphore k.object ≡ true) × (e.n ≡ drain_answer k)
IsAllowed _ k e = Unit {0}

-- Nobody except the entry's seat could acquire after it who couldn't before. When a seat leaves the queue
-- with holds, another waiter becomes its head, and nobody except the seat could acquire at all. For an entry
-- `Left` it isn't required.
abbrev pub OpensNobody : Word → Counts → Counts → ℕ → Type 0
OpensNobody Granted old new i = NobodyElse new i
OpensNobody Back old new i = NobodyElse new i
OpensNobody Left old new i = ⊥
OpensNobody _ old new i = NobodyElseNew old new i

-- the words of the entries that can name a waiter
abbrev pub may_name : Word → Bool
may_name Granted = true
may_name Left = true
may_name Gave = true
may_name Counted = true
may_name Await = true
may_name _ = false
