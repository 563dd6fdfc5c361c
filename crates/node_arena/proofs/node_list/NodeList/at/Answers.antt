use Rattle.std.proofs.Common.{◌∙◌}
use Rattle.node_arena.proofs.Linking.{at_is, nodes_apart}
use Rattle.node_arena.proofs.node_list.NodeList.at.Goals as goal

pub returns-clause-at : goal.returns-clause-at
returns-clause-at c = rw (← c.self.view_is) (c.at.ensures ∙ at_is _ _ c.self.invariant c.args.place)

pub returns-clause-apart : goal.returns-clause-apart
returns-clause-apart c = rw (← c.self.view_is) (nodes_apart _ _ c.self.invariant)
