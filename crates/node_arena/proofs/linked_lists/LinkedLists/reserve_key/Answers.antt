use Rattle.std.proofs.Common.{arith, None}
use Rattle.node_arena.specs.Links.{no_link}
use Rattle.node_arena.proofs.FromLinks.{grown_by, IsSound-grown, SameLists-grown}
use Rattle.node_arena.proofs.linked_lists.LinkedLists.reserve_key.Goals as goal

pub invariant_of-self-2 : goal.invariant_of-self-2
invariant_of-self-2 c =
    let grown = grown_by _ _ _ _ _ None c.self.inside.owners.ok.0 (omega arith) c.resize-2.ensures.items in
    let sized = c.self.invariant.0.sized in
    let long = c.in_ok-resize.ensures.len in (
      rw grown.1 (IsSound-grown _ _ _ _ grown.0 c.self.invariant.0 (omega (arith, grown.2))
          (λ at below. c.in_ok-resize.ensures.by_index.0 at no_link (omega arith) (omega arith))),
      omega arith,
    )

pub returns-clause-same : goal.returns-clause-same
returns-clause-same c =
    let grown = grown_by _ _ _ _ _ None c.self.inside.owners.ok.0 (omega arith) c.resize-2.ensures.items in
    let sized = c.self.invariant.0.sized in
    let long = c.in_ok-resize.ensures.len in
    rw (← c.self.view_is, grown.1) (SameLists-grown _ _ _ _ grown.0 c.self.invariant.0 (omega (arith, grown.2))
    (λ at below. c.in_ok-resize.ensures.by_index.0 at no_link (omega arith) (omega arith)))
