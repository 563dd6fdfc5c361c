use Rattle.std.proofs.Common.{◌≡◌, ◌+◌, ◌≤◌, ◌++◌, length, map, drop, vec_capacity, vec_len, slice_get}
use Rattle.acquire_queue.specs.Line.{live, plain_place}
use Rattle.acquire_queue.proofs.queue.write_nodes.Given as goal

-- with those who stand from the next node on, the list is whole
abbrev pub invariant-loop : goal.invariant-loop
invariant-loop l =
    record {
      next : l.next ≡ slice_get l.nodes.nodes l.counter;
      rest : l.line.items ++ map plain_place (live (drop l.counter l.nodes.nodes))
          ≡ l.initial.line.items ++ map plain_place (live l.nodes.nodes);
      room : vec_len l.line + length (live (drop l.counter l.nodes.nodes)) ≤ vec_capacity l.line;
      capacity : vec_capacity l.line ≡ vec_capacity l.initial.line;
    }
