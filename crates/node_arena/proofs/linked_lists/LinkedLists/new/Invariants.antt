use Rattle.std.proofs.Common.{◌≡◌, ℕ, ◌<◌, ◌≤◌, vec_len, vec_capacity}
use Rattle.node_arena.specs.Links.{next_of, prev_of}
use Rattle.node_arena.proofs.linked_lists.LinkedLists.new.Given as goal

abbrev pub invariant-loop-head : goal.invariant-loop-head
invariant-loop-head l =
    (vec_len l.links ≡ l.head) × (l.lists ≤ vec_capacity l.links)
    × ((list : ℕ) → list < l.head → (next_of l.links.items list ≡ list) × (prev_of l.links.items list ≡ list))
