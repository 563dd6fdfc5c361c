use Rattle.std.proofs.Common.{◌≡◌, ◌≤◌, [], length, map, vec_capacity, All}
use Rattle.history.specs.Base.{each_below}
use Rattle.history.proofs.base.no_sleepers.Given as goal

abbrev pub invariant-loop : goal.invariant-loop
invariant-loop l =
    (map (λ list. list.items) l.lists.items ≡ each_below l.counter (λ c. []))
    × All (λ list. vec_capacity list ≡ l.fn.seats) l.lists.items
    × (length l.lists.items ≡ l.counter) × (l.fn.conditions ≤ vec_capacity l.lists)
    × (l.seats ≡ l.fn.seats) × (l.conditions ≡ l.fn.conditions)
