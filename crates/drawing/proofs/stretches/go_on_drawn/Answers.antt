use Rattle.std.proofs.Common.{◌≡◌, ◌<◌, ◌∷◌, ◌+◌, length, map, refl, ap, ◌∙◌, arith, sym, subst, Result, Ok, Err, OnOk, ℕ}
use Rattle.std.specs.List.{All}
use Rattle.std.proofs.lemmas.List.{length-map}
use Rattle.audit.specs.Ledger.{LedgerStand}
use Rattle.deciding.specs.ObjectState.{HasSeat}
use Rattle.history.specs.declared.header.Header.{Header}
use Rattle.drawing.specs.declared.bar.Stretch.{Stretch}
use Rattle.drawing.proofs.StretchesFollow.{seat_alone}
use Rattle.drawing.specs.declared.kind.Kind.{Kind}
use Rattle.drawing.specs.Levels.{level}
use Rattle.drawing.proofs.LevelsKept.{others_stay}
use Rattle.drawing.proofs.Walks.{items_of, seat_at, walk_begins, walk_on, walk_past_to, walked}
use Rattle.drawing.proofs.stretches.go_on_drawn.Goals as goal

both : {T E P Q R : Type 0} (r : Result T E) → OnOk r P → OnOk r Q → (P → Q → R) → OnOk r R
both (Ok x) p q f = f p q
both (Err e) p q f = tt

pub index_mut-requires : goal.index_mut-requires
index_mut-requires c =
    let r = c.requires in
    omega (
      arith,
      r.seat,
      r.stretches.seats,
      length-map c.args.stretches.now.items items_of,
      c.args.stretches.now.ok.0,
    )

pub go_on_seat-requires : goal.go_on_seat-requires
go_on_seat-requires c =
    let r = c.requires in
    let e = c.args.entry in
    let all = c.args.stretches.now.items in
    let is = seat_at r.start c.args.from r.entries all e.seat c.index_mut.result.now r.stretches
    (omega (arith, r.seat, r.stretches.seats, length-map all items_of)) c.index_mut.ensures.value in
    subst (All (λ (x : Stretch). HasSeat LedgerStand c.args.ledger.now x.seat)) (sym is)
    (seat_alone (HasSeat LedgerStand c.args.ledger.now) r.start c.args.from r.entries e.seat
    (r.start, e ∷ r.entries, r.stand, r.seat))

pub returns-else-changes_others : goal.returns-else-changes_others
returns-else-changes_others c =
    both c.go_on_seat.result c.go_on_seat.ensures.stretches c.go_on_seat.ensures.bars
    (λ new more s h stand count were.
    let r = c.requires in
    let e = c.args.entry in
    let from = c.args.from in
    let all = c.args.stretches.now.items in
    let old = map items_of all in
    let ys = c.args.bars.now.items in
    let seats = ap (λ (k : Header). k.seats) (sym stand.header ∙ r.stand.header) in
    let within : e.seat < s.header.seats = omega (arith, r.seat, seats) in
    let less = c.changes_others.ensures.drawn c.if-changes_others.false in
    let drawn : from < length h = omega (arith, less, count) in
    let quiet : (i : ℕ) → (e.seat ≡ i → ⊥) → (kind : Kind) → level s (e ∷ h) i kind ≡ level s h i kind =
    λ i ne. others_stay s e h i ne
    (λ t. cc (sym t ∙ c.changes_others.ensures.word c.if-changes_others.false)) in
    let before = walk_past_to s from e h old ys were old ys 0 e.seat (omega arith) (omega (arith, within))
    drawn (λ i a b. quiet i (λ q. absurd (omega (arith, q, b)))) (walk_begins s from e h old ys) in
    let own = walk_on s from e h old ys were all ys c.go_on_seat.new.bars.items e.seat c.args.number
    c.index_mut.result.now c.go_on_seat.new.stretches within (omega (arith, drawn)) count before
    c.index_mut.ensures.value (new s (e ∷ h) stand) (more s (e ∷ h) stand) in
    walked s from e h old ys were _ c.go_on_seat.new.bars.items s.header.seats refl
    (walk_past_to s from e h old ys were _ c.go_on_seat.new.bars.items (e.seat + 1) s.header.seats
    (omega (arith, within)) (omega arith) drawn (λ i a b. quiet i (λ q. absurd (omega (arith, q, a)))) own))
