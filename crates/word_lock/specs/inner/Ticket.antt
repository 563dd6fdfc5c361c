-- Locks and tokens as contracts see them.
use Rattle.std.specs.Prelude.{◌≡◌, true, false, []}
use Rattle.atomic_table.specs.Seated.{TableId}
use Rattle.word_lock.specs.declared.view.View.{View}
use Rattle.word_lock.specs.Point.{header_of}
use Rattle.word_lock.specs.Ticket.{Ticket}

-- a view that holds nothing and has looked since it was joined
abbrev pub IsIdle : View → Type 0
IsIdle v = (v.holds ≡ false) × (v.live ≡ true) × (v.joined ≡ [])

-- the view, on this table, is that of the token
pub record IsSeatOf (table : TableId) (v : View) (t : Ticket) : Type 0 where
  pub table_is : table ≡ t.lock.table
  pub header_is : header_of v.seen ≡ t.lock.header
  pub logs_are : v.logs ≡ t.logs
  pub seen_is : v.seen ≡ t.seen
