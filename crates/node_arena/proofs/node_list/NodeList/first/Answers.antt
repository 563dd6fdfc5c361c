use Rattle.node_arena.proofs.Linking.{nodes_apart}
use Rattle.node_arena.proofs.node_list.NodeList.first.Goals as goal

pub returns-clause-apart : goal.returns-clause-apart
returns-clause-apart c = rw (← c.self.view_is) (nodes_apart _ _ c.self.invariant)
