-- Locks and tokens as contracts see them.
use Rattle.std.specs.Prelude.{◌≡◌, ℕ, zero, suc, Bool, true, false, List, [], ◌∷◌, ◌++◌}
use Rattle.atomic_table.specs.Seated.{TableId}
use Rattle.history.specs.declared.entry.Entry.{Entry}
use Rattle.history.specs.declared.header.Header.{Header}
use Rattle.history.specs.declared.point.Point.{Point}
use Rattle.word_lock.specs.declared.view.SeatLog.{SeatLog}
use Rattle.word_lock.specs.declared.view.View.{View}
use Rattle.word_lock.specs.Point.{header_of, added}
use Rattle.word_lock.specs.Rule.{spent_view}

-- which lock it is, and the header of the value that it was opened with
pub record LockId : Type 0 where
  pub table : TableId
  pub header : Header

abbrev pub lock_id : TableId → Point → LockId
lock_id table p = record { table = table; header = header_of p }

-- the lock that a token belongs to, whether it has not taken the value, the entries that each of its seats
-- has added, and what it has seen
pub record Ticket : Type 0 where
  pub lock : LockId
  pub free : Bool
  pub logs : List SeatLog
  pub seen : Point

abbrev pub ticket : TableId → Bool → View → Ticket
ticket table free v = record { lock = lock_id table v.seen; free = free; logs = v.logs; seen = v.seen }

-- the view of a badge, or a spent one if it has none
abbrev pub view_of_badge : List View → View
view_of_badge [] = spent_view
view_of_badge (v ∷ vs) = v

abbrev pub badge_when : Bool → View → List View
badge_when true v = v ∷ []
badge_when false v = []

-- a free token has a view, which holds nothing and has looked since it was joined; any other token has none
pub record IsTokenInside (views : List View) (free : Bool) : Type 0 where
  pub has_view : views ≡ badge_when free (view_of_badge views)
  pub holds : (view_of_badge views).holds ≡ false
  pub live : (view_of_badge views).live ≡ free
  pub joined : (view_of_badge views).joined ≡ []

-- the seat of the first log, the only log of a token unless another was joined to it
abbrev pub first_seat : List SeatLog → ℕ
first_seat [] = 0
first_seat (l ∷ ls) = l.seat

abbrev pub first_entries : List SeatLog → List Entry
first_entries [] = []
first_entries (l ∷ ls) = l.entries

-- the token of the seat k, before any step
abbrev pub opening_ticket : LockId → ℕ → Point → Ticket
opening_ticket lock k p =
    record { lock = lock; free = true; logs = record { seat = k; entries = [] } ∷ []; seen = p }

-- the tokens of the n seats from k on, in order
abbrev pub opening_tickets : LockId → Point → ℕ → ℕ → List Ticket
opening_tickets lock p k zero = []
opening_tickets lock p k (suc n) = opening_ticket lock k p ∷ opening_tickets lock p (suc k) n

-- the ticket after a lock that found the point p
abbrev pub after_lock : Ticket → Point → Ticket
after_lock t p = record { lock = t.lock; free = false; logs = t.logs; seen = p }

-- the ticket, of one seat, after an unlock that put back the point p
abbrev pub after_unlock : Ticket → Point → Ticket
after_unlock t p =
    record {
      lock = t.lock;
      free = true;
      logs = record { seat = first_seat t.logs; entries = added t.seen p ++ first_entries t.logs } ∷ [];
      seen = p;
    }

-- the ticket after a meeting at which p was seen
abbrev pub after_meet : Ticket → Point → Ticket
after_meet t p = record { lock = t.lock; free = t.free; logs = t.logs; seen = p }
