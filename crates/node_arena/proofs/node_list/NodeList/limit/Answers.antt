use Rattle.node_arena.proofs.Linking.{some_slot, nodes_apart}
use Rattle.node_arena.proofs.node_list.NodeList.limit.Goals as goal

pub returns-clause-below : goal.returns-clause-below
returns-clause-below c place some =
    c.limit.ensures.below place (some_slot _ _ c.self.invariant place (rw (← c.self.view_is) at some))

pub returns-clause-apart : goal.returns-clause-apart
returns-clause-apart c = rw (← c.self.view_is) (nodes_apart _ _ c.self.invariant)
