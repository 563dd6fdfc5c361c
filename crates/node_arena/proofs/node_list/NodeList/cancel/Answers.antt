use Rattle.std.proofs.Common.{◌≡◌, Some, None, sym, ap, ◌∙◌, is_some}
use Rattle.node_arena.proofs.Linking.{under_is, cancelled_now}
use Rattle.node_arena.proofs.node_list.NodeList.cancel.Goals as goal

pub returns-in-None-clause-found : goal.returns-in-None-clause-found
returns-in-None-clause-found c =
    rw (← c.self.view_is, under_is _ _ c.self.invariant c.args.number) (ap is_some c.in-None.ensures.found)

pub returns-in-Some-clause-found : goal.returns-in-Some-clause-found
returns-in-Some-clause-found c =
    rw (← c.self.view_is, under_is _ _ c.self.invariant c.args.number) (ap is_some c.in-Some.ensures.found)

pub returns-in-Some-clause-nodes : goal.returns-in-Some-clause-nodes
returns-in-Some-clause-nodes c =
    let r : c.replace.result ≡ Some c.in-Some.node = c.replace.ensures.found ∙ sym c.in-Some.ensures.found in
    rw (← c.self.view_is)
    (cancelled_now _ _ c.self.invariant c.args.number c.in-Some.node (sym c.in-Some.ensures.found) _
    (rw r at c.replace.ensures.changes))
