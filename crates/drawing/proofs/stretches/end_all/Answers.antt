use Rattle.std.proofs.Common.{◌≡◌, ◌++◌, length, ap, ◌∙◌, sym, arith, append-nil}
use Rattle.std.specs.List.{flat_map}
use Rattle.std.proofs.lemmas.List.{length-map}
use Rattle.drawing.specs.Prelude.{bar_at, tracks_below}
use Rattle.drawing.specs.inner.Stretches.{bar_of}
use Rattle.drawing.proofs.StretchesFollow.{seat_bars}
use Rattle.drawing.proofs.Walks.{bars_more, items_of, seat_at}
use Rattle.drawing.proofs.stretches.end_all.Goals as goal

pub loop-of_seat-init : goal.loop-of_seat-init
loop-of_seat-init c = λ s from h count were. sym (append-nil c.args.bars.now.items)

pub loop-of_seat-preserved : goal.loop-of_seat-preserved
loop-of_seat-preserved c = λ s from h count were.
    let i = c.loop-of_seat.of_seat-index in
    let zs = c.loop-of_seat.bars.items in
    let row = seat_at s from h c.args.stretches.now i c.of_seat-item.result were c.loop-of_seat-test.true
    c.of_seat-item.is in
    bars_more (bar_at s from h) c.args.bars.now.items zs c.end_seat.new.bars.items s.header.conditions i
    (c.loop-of_seat.invariant s from h count were)
    (c.in_ok-end_seat.ensures
    ∙ ap (λ n. zs ++ flat_map (bar_of n) c.deref.result.now) count
    ∙ ap (λ v. zs ++ flat_map (bar_of (length h)) v) (c.deref.ensures.value ∙ row)
    ∙ ap (λ vs. zs ++ vs) (seat_bars s from h i))

pub returns : goal.returns
returns c = λ s from h count were.
    let all : c.loop-of_seat.of_seat-index ≡ s.header.seats =
    omega (arith, c.loop-of_seat-test.false, were.seats, length-map c.args.stretches.now items_of) in
    c.loop-of_seat.invariant s from h count were
    ∙ ap (λ m. c.args.bars.now.items ++ flat_map (bar_at s from h) (tracks_below s.header.conditions m)) all
