use Rattle.std.proofs.Common.{arith}
use Rattle.node_arena.proofs.FromLinks.{closed_push, IsSound-new, items-lists_of_new, list_count-lists_of}
use Rattle.node_arena.proofs.linked_lists.LinkedLists.new.Goals as goal

pub loop-head-preserved : goal.loop-head-preserved
loop-head-preserved c = (
  omega arith,
  omega arith,
  rw c.push_reserved.ensures.items
      (closed_push _ _ (omega arith) c.loop-head.invariant.2),
)

pub invariant_of-result : goal.invariant_of-result
invariant_of-result c = (
  rw c.new.ensures.items
      (IsSound-new _ _ (omega arith) (λ list head. c.loop-head.invariant.2 list (omega arith))),
  omega arith,
)

pub returns-clause-count : goal.returns-clause-count
returns-clause-count c = list_count-lists_of _ _ _

pub returns-clause-no_items : goal.returns-clause-no_items
returns-clause-no_items c list =
    rw c.new.ensures.items
    (items-lists_of_new _ _ (omega arith) (λ other head. c.loop-head.invariant.2 other (omega arith))
    list)
