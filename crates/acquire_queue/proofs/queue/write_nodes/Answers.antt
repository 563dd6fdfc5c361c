use Rattle.std.proofs.Common.{◌+◌, ◌++◌, IsSome, map, drop, refl, ap, sym, ◌∙◌, subst, arith}
use Rattle.acquire_queue.specs.Line.{live, plain_place}
use Rattle.acquire_queue.proofs.Nodes.{at_found, at_index}
use Rattle.acquire_queue.proofs.Walking.{at_end, length_from, none_left, one_further}
use Rattle.acquire_queue.proofs.queue.write_nodes.Goals as goal

pub write_node-requires : goal.write_node-requires
write_node-requires c =
    let at = sym c.loop.invariant.next ∙ c.in-Some.is in
    let more = length_from c.args.nodes.now.nodes c.loop.counter c.in-Some.standing at in
    omega (arith, c.loop.invariant.room, more)

pub behind-next-requires : goal.behind-next-requires
behind-next-requires c =
    let at = sym c.loop.invariant.next ∙ c.in-Some.is in
    subst IsSome (sym (at_found _ _ _ (at_index _ c.loop.counter _ c.first-next.ensures.apart at)).1) refl

pub loop-preserved : goal.loop-preserved
loop-preserved c =
    let nodes = c.args.nodes.now.nodes in
    let at = sym c.loop.invariant.next ∙ c.in-Some.is in
    let more = length_from nodes c.loop.counter c.in-Some.standing at in
    record {
      next = c.behind-next.ensures c.loop.counter c.in-Some.standing.node at;
      rest = ap (λ l. l ++ map plain_place (live (drop (c.loop.counter + 1) nodes))) c.write_node.ensures.items
          ∙ one_further nodes c.loop.counter c.in-Some.standing c.loop.line.items _ at c.loop.invariant.rest;
      room = omega (
        arith,
        c.loop.invariant.room,
        more,
        c.write_node.ensures.len,
        c.write_node.ensures.capacity,
      );
      capacity = c.write_node.ensures.capacity ∙ c.loop.invariant.capacity;
    }

pub returns-clause-items : goal.returns-clause-items
returns-clause-items c =
    at_end c.args.nodes.now.nodes c.loop.counter c.loop.line.items _
    (omega (arith, c.loop-test.false, c.len-end.ensures)) c.loop.invariant.rest

pub returns-in-None-clause-items : goal.returns-in-None-clause-items
returns-in-None-clause-items c =
    at_end c.args.nodes.now.nodes c.loop.counter c.loop.line.items _
    (none_left c.args.nodes.now.nodes c.loop.counter (sym c.loop.invariant.next ∙ c.in-None.is))
    c.loop.invariant.rest
