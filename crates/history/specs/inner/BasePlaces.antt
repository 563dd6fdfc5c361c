-- What a base needs to take up an entry in the places that it has.
use Rattle.std.specs.Prelude.{◌≡◌, ◌<◌, ◌≤◌, ◌+◌, ◌^◌, length}
use Rattle.history.specs.Types.{Entry, Await}
use Rattle.history.specs.Base.{Base, seat_of, sleepers_of}
use Rattle.history.specs.NextBase.{next_base, seat_then}

-- The entry's seat exists, the queue and the conditions' lists have room, and the new numbers fit their
-- fields.
pub record HasPlaces (b : Base) (e : Entry) : Type 0 where
  pub seat : e.seat < length b.seats
  pub line : length (next_base b e).line ≤ b.header.seats
  pub sleepers : e.word ≡ Await → length (sleepers_of b e.at) < b.header.seats
  pub entries : b.entries + 1 < 2 ^ 128
  pub calls : (seat_of b e.seat).calls + 1 < 2 ^ 64
  pub exclusive : (seat_then b.header.object e (seat_of b e.seat)).exclusive < 2 ^ 32
  pub shared : (seat_then b.header.object e (seat_of b e.seat)).shared < 2 ^ 128
  pub unheld : (next_base b e).unheld < 2 ^ 128
