-- What a drawing knows about the entries so far.
use Rattle.std.specs.Prelude.{◌≡◌, ◌<◌, ◌+◌, ◌^◌, ℕ, List, length, map}
use Rattle.drawing.specs.Below.{Entry, IsNext, LedgerStand, Start}
use Rattle.drawing.specs.declared.drawing.Drawing.{Drawing}
use Rattle.drawing.specs.Barging.{askers}
use Rattle.drawing.specs.Bars.{ended}
use Rattle.drawing.specs.Curve.{curve}
use Rattle.drawing.specs.Marks.{marks}
use Rattle.drawing.specs.Stretches.{AreStretches}

-- these entries after a start were taken, and are drawn from entry `from` on
pub record HasDrawn (s : Start) (from : ℕ) (h : List Entry) (d : Drawing) : Type 0 where
  pub begins : d.from ≡ from
  pub count : d.count ≡ length h
  pub stand : LedgerStand s h d.ledger
  pub asking : d.askers ≡ askers s h s.header.seats
  pub under_way : AreStretches s from h (map (λ list. list.items) d.stretches.items)
  pub ended : d.bars.items ≡ ended s from h
  pub marked : d.marks.items ≡ marks s from h
  pub points : d.curve.items ≡ curve s from h

-- one that has taken some entries, after which one more may come, which is legal
pub record CanDraw (d : Drawing) (e : Entry) : Type 0 where
  pub start : Start
  pub from : ℕ
  pub entries : List Entry
  pub drawn : HasDrawn start from entries d
  pub seat : e.seat < start.header.seats
  pub next : IsNext start entries e
  pub room : length entries + 1 < 2 ^ 32
