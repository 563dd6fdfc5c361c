use Rattle.explaining.specs.Ways.{steps_of}
use Rattle.explaining.proofs.Listed.{any_made, is_same, is_tried, made_any, same_is}
use Rattle.explaining.proofs.laws.an_entry_is_legal_if_a_way_makes_it.Goals as goal

pub returns-clause-same : goal.returns-clause-same
returns-clause-same c one other = (λ t. same_is one other t, λ q. is_same one other q)

pub returns-clause-legal : goal.returns-clause-legal
returns-clause-legal c s h e = (
  λ t. any_made s h e (steps_of s.header e.n) t,
  λ q. made_any s h e (steps_of s.header e.n) q.0 (is_tried s h e q.0 q.1) q.1,
)
