use Rattle.std.proofs.Common.{sym, ◌∙◌}
use Rattle.node_arena.proofs.Linking.{under_is}
use Rattle.node_arena.proofs.node_list.NodeList.get.Goals as goal

pub returns : goal.returns
returns c = rw (← c.self.view_is, under_is _ _ c.self.invariant c.args.number) c.get.ensures.found
