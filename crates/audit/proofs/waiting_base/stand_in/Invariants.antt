use Rattle.std.proofs.Common.{◌≡◌, map, take}
use Rattle.audit.proofs.waiting_base.stand_in.Given as goal

-- those passed stand in line
abbrev pub invariant-loop-place : goal.invariant-loop-place
invariant-loop-place l =
    record {
      line : l.line.arrivals ≡ map (λ p. p.who) (take l.place l.standing);
      joined : l.line.joined ≡ l.place;
      seats : l.line.seats ≡ l.initial.line.seats;
    }
