use Rattle.std.proofs.Common.{◌≡◌, [], ℕ, refl, ap, ◌∙◌, None, get_or, arith, is_some}
use Rattle.summing.specs.Below.{based, Header}
use Rattle.summing.specs.Prelude.{Passing, Peak, begun, no_passing}
use Rattle.summing.proofs.PassingsFollow.{none_passed}
use Rattle.summing.proofs.summing.Summing.open.Goals as goal

pub returns-clause-summed : goal.returns-clause-summed
returns-clause-summed c =
    let s = based c.args.base.now in
    let stand = c.in_ok-ledger.ensures.stand in
    let high : ℕ → Peak = λ n. record { seats = n; place = None } in
    let header = c.header-header.ensures s [] stand in
    let seats : c.header-header.result.now.seats ≡ s.header.seats = ap (λ (k : Header). k.seats) header in
    let passings = c.in_ok-passings.passings.items in
    record {
      stand = stand;
      number = refl;
      grants = refl;
      taken = refl;
      highest = ap high (c.queue_length.ensures s [] stand);
      seats = c.in_ok-seats.ensures.long ∙ seats;
      passings = c.in_ok-passings.ensures.long ∙ seats;
      conditions = c.in_ok-conditions.ensures.long ∙ ap (λ (k : Header). k.conditions) header;
      tallies = λ i lt. c.in_ok-seats.ensures.none s stand i (omega (arith, lt, seats));
      passes = λ i lt.
          let none = c.in_ok-passings.ensures.none i in
          none_passed (is_some (begun s [] i)) (get_or passings i no_passing)
          (ap (λ (p : Passing). p.passed) none) (ap (λ (p : Passing). p.mark) none);
      signals = λ k lt. c.in_ok-conditions.ensures.none k;
    }
