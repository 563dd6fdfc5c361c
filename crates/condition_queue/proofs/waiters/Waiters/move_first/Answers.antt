use Rattle.std.proofs.Common.{◌++◌, ◌∷◌, [], map, ap, ◌∙◌, sym}
use Rattle.condition_queue.specs.Below.{Arrival, coming_back, place_of}
use Rattle.condition_queue.specs.Sleepers.{asleep_on, sleeper_of}
use Rattle.condition_queue.proofs.Lists.{take_first, has_first}
use Rattle.condition_queue.proofs.Moving.{nobody_first, moved_lists, moved_sleepers}
use Rattle.condition_queue.proofs.waiters.Waiters.move_first.Goals as goal

pub join-requires-clause-absent : goal.join-requires-clause-absent
join-requires-clause-absent c =
    ap (λ (a : Arrival). place_of a.seat c.args.queue.now.arrivals) c.coming_back.ensures
    ∙ c.requires.apart c.in-Some.seat (has_first c.in-Some.seat _ (sym c.in-Some.ensures.first))

pub returns-in-None-clause-moved : goal.returns-in-None-clause-moved
returns-in-None-clause-moved c =
    sym (nobody_first (asleep_on c.args.self.now c.args.c) (sym c.in-None.ensures.first))

pub returns-in-Some-clause-moves : goal.returns-in-Some-clause-moves
returns-in-Some-clause-moves c =
    let alone = take_first c.in-Some.seat (asleep_on c.args.self.now c.args.c) (sym c.in-Some.ensures.first)
    in
    record {
      arrivals =
          c.join.ensures.line
          ∙ ap (λ a. c.args.queue.now.arrivals ++ a ∷ []) c.coming_back.ensures
          ∙ ap (λ l. c.args.queue.now.arrivals ++ map coming_back l) alone;
      lists = moved_lists c.args.c c.in-Some.seat (asleep_on c.args.self.now) (asleep_on c.leave.new.self)
          (sleeper_of c.args.self.now c.in-Some.seat) c.leave.ensures.left c.in-Some.ensures.once
          c.in-Some.ensures.first c.in-Some.ensures.asleep (λ d. c.in-Some.ensures.listed d c.in-Some.seat);
      sleepers = moved_sleepers c.in-Some.seat (asleep_on c.args.self.now c.args.c)
          (sleeper_of c.args.self.now)
          (sleeper_of c.leave.new.self) c.leave.ensures.sleepers alone;
      joined = c.join.ensures.joined;
      line_seats = c.join.ensures.seats;
      seats = c.leave.ensures.seats;
      conditions = c.leave.ensures.conditions;
    }
