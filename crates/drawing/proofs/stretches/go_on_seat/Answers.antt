use Rattle.std.proofs.Common.{◌<◌, length, arith, subst, sym}
use Rattle.deciding.specs.ObjectState.{HasSeat}
use Rattle.audit.specs.Ledger.{LedgerStand}
use Rattle.drawing.specs.declared.bar.Stretch.{Stretch}
use Rattle.drawing.specs.inner.Stretches.{ending, going_on}
use Rattle.drawing.proofs.Walks.{reads, walked_all, walks}
use Rattle.drawing.proofs.stretches.go_on_seat.Goals as goal

pub go_on-requires : goal.go_on-requires
go_on-requires c =
    let n = c.args.number in
    let xs = c.args.stretches.now.items in
    let x = c.index_mut.result.now in
    let within : c.loop-place.place < length xs =
    omega (arith, c.loop-place-test.true, c.len-place-end.ensures) in
    let r = c.requires c.loop-place.place x within in
    let is = reads (going_on r.0 r.1 n) (ending r.0 r.1 n) xs c.loop-place.stretches.items
    c.args.bars.now.items c.loop-place.bars.items c.loop-place.place x within
    (c.loop-place.invariant r.0 r.1 r.2) c.index_mut.ensures.value in
    subst (λ (y : Stretch). HasSeat LedgerStand c.args.ledger.now y.seat) (sym is) r

pub loop-place-preserved : goal.loop-place-preserved
loop-place-preserved c = λ s h st.
    let n = c.args.number in
    walks (going_on s h n) (ending s h n) c.args.stretches.now.items c.loop-place.stretches.items
    c.args.bars.now.items c.loop-place.bars.items c.go_on.new.bars.items c.loop-place.place
    c.index_mut.result.now c.go_on.new.stretch
    (omega (arith, c.loop-place-test.true, c.len-place-end.ensures)) (c.loop-place.invariant s h st)
    c.index_mut.ensures.value (c.in_ok-go_on.ensures.stretch s h st) (c.in_ok-go_on.ensures.bars s h st)

pub returns-clause-stretches : goal.returns-clause-stretches
returns-clause-stretches c = λ s h st.
    let n = c.args.number in
    (walked_all (going_on s h n) (ending s h n) c.args.stretches.now.items c.loop-place.stretches.items
    c.args.bars.now.items c.loop-place.bars.items c.loop-place.place
    (omega (arith, c.loop-place-test.false, c.len-place-end.ensures)) (c.loop-place.invariant s h st)).0

pub returns-clause-bars : goal.returns-clause-bars
returns-clause-bars c = λ s h st.
    let n = c.args.number in
    (walked_all (going_on s h n) (ending s h n) c.args.stretches.now.items c.loop-place.stretches.items
    c.args.bars.now.items c.loop-place.bars.items c.loop-place.place
    (omega (arith, c.loop-place-test.false, c.len-place-end.ensures)) (c.loop-place.invariant s h st)).1
