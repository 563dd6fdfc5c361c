use Rattle.std.proofs.Common.{◌<◌, ◌≤◌, ◌∷◌, ◌+◌, length, map, ap, arith, sym, subst}
use Rattle.std.specs.List.{All}
use Rattle.std.proofs.lemmas.List.{length-map}
use Rattle.audit.specs.Ledger.{LedgerStand}
use Rattle.deciding.specs.ObjectState.{HasSeat}
use Rattle.history.specs.declared.header.Header.{Header}
use Rattle.drawing.specs.declared.bar.Stretch.{Stretch}
use Rattle.drawing.proofs.StretchesFollow.{seat_alone}
use Rattle.drawing.proofs.Walks.{items_of, next_seat, walk_on, walk_past, walked}
use Rattle.drawing.proofs.stretches.go_on_all.Goals as goal
use Rattle.drawing.proofs.stretches.go_on_all.Goals.{then-number-from+in_ok-go_on_seat, else-number-from+else-can_change}

pub index_mut-requires : goal.index_mut-requires
index_mut-requires c =
    let r = c.requires in
    let was = c.loop-seat.invariant r.start r.entries r.stand r.number r.stretches in
    let seats = ap (λ (k : Header). k.seats) (c.header.ensures r.start (c.args.entry ∷ r.entries) r.stand) in
    omega (
      arith,
      c.loop-seat-test.true,
      seats,
      was.long,
      r.stretches.seats,
      length-map c.loop-seat.stretches.items items_of,
      c.loop-seat.stretches.ok.0,
    )

pub go_on_seat-requires : goal.go_on_seat-requires
go_on_seat-requires c =
    let r = c.requires in
    let h = c.args.entry ∷ r.entries in
    let seats = ap (λ (k : Header). k.seats) (c.header.ensures r.start h r.stand) in
    let within : c.loop-seat.seat < r.start.header.seats = omega (arith, c.loop-seat-test.true, seats) in
    let is = next_seat r.start c.args.from c.args.entry r.entries (map items_of c.args.stretches.now.items)
    c.args.bars.now.items r.stretches c.loop-seat.stretches.items c.loop-seat.bars.items c.loop-seat.seat
    c.index_mut.result.now within (c.loop-seat.invariant r.start r.entries r.stand r.number r.stretches)
    c.index_mut.ensures.value in
    subst (All (λ (x : Stretch). HasSeat LedgerStand c.args.ledger.now x.seat)) (sym is)
    (seat_alone (HasSeat LedgerStand c.args.ledger.now) r.start c.args.from r.entries c.loop-seat.seat
    (r.start, h, r.stand, within))

pub loop-seat-preserved : goal.loop-seat-preserved
loop-seat-preserved c = λ s h stand count were.
    let e = c.args.entry in
    let from = c.args.from in
    let old = map items_of c.args.stretches.now.items in
    let ys = c.args.bars.now.items in
    let seats = ap (λ (k : Header). k.seats) (c.header.ensures s (e ∷ h) stand) in
    let within : c.loop-seat.seat < s.header.seats = omega (arith, c.loop-seat-test.true, seats) in
    let drawn : from ≤ length h = omega (arith, c.requires.drawn, count) in
    let was = c.loop-seat.invariant s h stand count were in
    elim c.if-number-from.branch [
      | then-number-from+in_ok-go_on_seat w ↦
          rw (w.stretches-is, w.bars-is) (walk_on s from e h old ys were c.loop-seat.stretches.items
          c.loop-seat.bars.items w.go_on_seat.new.bars.items c.loop-seat.seat c.args.number
          w.index_mut.result.now w.go_on_seat.new.stretches within drawn count was w.index_mut.ensures.value
          (w.in_ok-go_on_seat.ensures.stretches s (e ∷ h) stand)
          (w.in_ok-go_on_seat.ensures.bars s (e ∷ h) stand))
      | else-number-from+else-can_change w ↦
          rw (w.stretches-is, w.bars-is) (walk_past s from e h old ys were
          (map items_of c.loop-seat.stretches.items) c.loop-seat.bars.items c.loop-seat.seat within
          (omega (arith, w.if-number-from.false, count))
          (w.can_change.ensures s h stand w.if-can_change.false) was)
    ]

pub returns : goal.returns
returns c = λ s h stand count were.
    let e = c.args.entry in
    let seats = ap (λ (k : Header). k.seats) (c.header.ensures s (e ∷ h) stand) in
    walked s c.args.from e h (map items_of c.args.stretches.now.items) c.args.bars.now.items were
    (map items_of c.loop-seat.stretches.items) c.loop-seat.bars.items c.loop-seat.seat
    (omega (arith, c.loop-seat-test.false, seats)) (c.loop-seat.invariant s h stand count were)
