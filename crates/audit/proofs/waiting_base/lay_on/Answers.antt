use Rattle.std.proofs.Common.{◌∙◌, ℕ, ap, sym, eqb, get_or, map, take, arith}
use Rattle.audit.specs.Below.{has, asleep_on, Sleeper}
use Rattle.std.proofs.lemmas.List.{map_more}
use Rattle.history.proofs.Times.{never_has}
use Rattle.audit.proofs.BaseWaits.{apart_from, joined_on, not_before, stands_among}
use Rattle.audit.proofs.waiting_base.lay_on.Goals as goal

abbrev nobody : Sleeper
nobody = record { seat = 0; holds = 0 }

abbrev seat_of : Sleeper → ℕ
seat_of x = x.seat

pub join-requires-clause-awake : goal.join-requires-clause-awake
join-requires-clause-awake c =
    let xs = c.args.sleepers.now in
    let n = c.loop-sleeper.sleeper-index in
    let i = (get_or xs n nobody).seat in
    let none = never_has i (map seat_of (take n xs))
    (not_before seat_of xs n nobody (omega arith) c.requires.once)
    in
    c.loop-sleeper.invariant.others i none
    ∙ c.requires.awake i (stands_among seat_of xs n nobody (omega arith))

pub loop-sleeper-preserved : goal.loop-sleeper-preserved
loop-sleeper-preserved c =
    let xs = c.args.sleepers.now in
    let n = c.loop-sleeper.sleeper-index in
    let i = (get_or xs n nobody).seat in
    let more = map_more seat_of xs n nobody (omega arith) in
    record {
      lists = λ d. c.join.ensures.lists d
          ∙ joined_on (eqb c.args.condition d) (asleep_on c.loop-sleeper.asleep d) _ _ _ i
          (c.loop-sleeper.invariant.lists d) more;
      others = λ j f.
          let apart = apart_from j i (map seat_of (take n xs)) (ap (has j) (sym more) ∙ f) in
          c.join.ensures.sleepers j ∙ rw apart.1 (c.loop-sleeper.invariant.others j apart.0);
      conditions = c.join.ensures.conditions ∙ c.loop-sleeper.invariant.conditions;
      seats = c.join.ensures.seats ∙ c.loop-sleeper.invariant.seats;
    }
