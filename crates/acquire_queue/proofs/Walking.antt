-- A walk along the nodes meets those who wait, in their order.
use Rattle.std.proofs.Common.{◌≡◌, ℕ, ◌+◌, ◌≤◌, List, [], ◌∷◌, ◌++◌, length, map, drop, None, Some, slice_get, ap, ◌∙◌, sym, arith, ⊎_elim, ◌<◌, append-nil, append_assoc, length-append}
use Rattle.std.proofs.lemmas.Bool.{cases_lt}
use Rattle.std.proofs.lemmas.List.{drop_all, map-append}
use Rattle.std.proofs.lemmas.Option.{none-some, slice_get-get_or}
use Rattle.acquire_queue.specs.Below.{LinePlace, NumberedNode}
use Rattle.acquire_queue.specs.Line.{live, plain_place}
use Rattle.acquire_queue.proofs.Nodes.{from_here}

-- the waiters from a node on
from_node : (nodes : List NumberedNode) (k : ℕ) (x : NumberedNode) → slice_get nodes k ≡ Some x →
    live (drop k nodes) ≡ live (x ∷ []) ++ live (drop (k + 1) nodes)
from_node nodes k x at = grind (arith, from_here nodes k x at)

pub length_from : (nodes : List NumberedNode) (k : ℕ) (x : NumberedNode) → slice_get nodes k ≡ Some x →
    length (live (drop k nodes)) ≡ length (live (x ∷ [])) + length (live (drop (k + 1) nodes))
length_from nodes k x at =
    ap length (from_node nodes k x at) ∙ length-append (live (x ∷ [])) (live (drop (k + 1) nodes))

-- one node further
pub one_further : (nodes : List NumberedNode) (k : ℕ) (x : NumberedNode) (done whole : List LinePlace) →
    slice_get nodes k ≡ Some x → done ++ map plain_place (live (drop k nodes)) ≡ whole →
    (done ++ map plain_place (live (x ∷ []))) ++ map plain_place (live (drop (k + 1) nodes)) ≡ whole
one_further nodes k x done whole at is =
    append_assoc done (map plain_place (live (x ∷ []))) (map plain_place (live (drop (k + 1) nodes)))
    ∙ ap (λ l. done ++ l)
    (sym (map-append plain_place (live (x ∷ [])) (live (drop (k + 1) nodes)))
    ∙ ap (map plain_place) (sym (from_node nodes k x at)))
    ∙ is

-- past the last node
pub at_end : (nodes : List NumberedNode) (k : ℕ) (done whole : List LinePlace) → length nodes ≤ k →
    done ++ map plain_place (live (drop k nodes)) ≡ whole → done ≡ whole
at_end nodes k done whole past is =
    sym (append-nil done)
    ∙ ap (λ l. done ++ map plain_place (live l)) (sym (drop_all k nodes past))
    ∙ is

pub none_left : (nodes : List NumberedNode) (k : ℕ) → slice_get nodes k ≡ None → length nodes ≤ k
none_left [] k none = omega arith
none_left (x ∷ nodes) k none =
    ⊎_elim
    (λ (l : k < length (x ∷ nodes)). absurd (none-some _ (sym none ∙ slice_get-get_or (x ∷ nodes) k x l)))
    (λ past. past) (cases_lt k (length (x ∷ nodes)))
