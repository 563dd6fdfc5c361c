use Rattle.std.proofs.Common.{◌≡◌, ◌<◌, ◌≤◌, ◌+◌, ℕ, suc, ap, sym, ◌∙◌, arith}
use Rattle.deciding.specs.Below.{Header, held, total}
use Rattle.deciding.proofs.Bounds.{holds_few, most_at_once}
use Rattle.deciding.proofs.balance.held_by_all.Goals as goal
use Rattle.deciding.proofs.balance.held_by_all.Goals.{After-held-all}

total_next : (n : ℕ) (f : ℕ → ℕ) → total (n + 1) f ≡ total n f + f n
total_next n f = let up : n + 1 ≡ suc n = omega arith in ap (λ m. total m f) up

pub held-all-requires : goal.held-all-requires
held-all-requires g c =
    let r = c.requires in
    let same = ap (λ (k : Header). k.seats) (c.header.ensures r.0 r.1 r.2) in
    (r.0, r.1, r.2, omega (arith, same, c.loop-seat-test.true))

-- the seat has few, and so have the seats up to it
few_here : (g : _) (c : After-held-all g) →
    (c.held-all.result ≤ most_at_once) × (c.loop-seat.seat < 256)
few_here g c =
    let r = c.requires in
    let past = g.met.T.ObjectState.is_history r.0 r.1 c.args.state.now r.2 in
    let same = ap (λ (k : Header). k.seats) (c.header.ensures r.0 r.1 r.2) in
    let below : c.loop-seat.seat < r.0.header.seats = omega (arith, same, c.loop-seat-test.true) in
    let few = holds_few r.0 r.1 c.loop-seat.seat c.args.mode past r.3 below in
    let is = c.held-all.ensures r.0 r.1 r.2 in
    (omega (arith, few, is), omega (arith, below, past.range.seats))

pub overflow_add-all : goal.overflow_add-all
overflow_add-all g c =
    let few = few_here g c in
    omega (arith, c.loop-seat.invariant.few, few.0, few.1)

pub loop-seat-preserved : goal.loop-seat-preserved
loop-seat-preserved g c =
    let few = few_here g (goal.at.loop-seat-preserved g c).After-held-all in
    record {
      summed = λ s h st.
          ap (λ x. x + c.held-all.result) (c.loop-seat.invariant.summed s h st)
          ∙ ap (λ x. total c.loop-seat.seat (λ i. held s h i c.args.mode) + x) (c.held-all.ensures s h st)
          ∙ sym (total_next c.loop-seat.seat (λ i. held s h i c.args.mode));
      few = omega (arith, c.loop-seat.invariant.few, few.0);
    }
