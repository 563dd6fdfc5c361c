-- Nodes in a list, as contracts see them.
use Rattle.std.specs.Prelude.{◌≡◌, ℕ, ◌==◌, not, Bool, true, if◌then◌else◌, List, [], ◌∷◌, map, filter, length, Option, Some, None, IsSome, slice_index_or, slice_get, zero, suc}
use Rattle.node_arena.specs.declared.node.Node.{Node}
use Rattle.node_arena.specs.declared.node.NodeNo.{NodeNo}
use Rattle.node_arena.specs.declared.arena.Slot.{Slot}
use Rattle.node_arena.specs.declared.node.NumberedNode.{NumberedNode}
use Rattle.node_arena.specs.Arena.{Places, slot_at, taken, standing_by}
use Rattle.node_arena.specs.LinkedLists.{LinkedLists, items, list_of, list_count, key_limit, IsIn, IsApart}

-- The nodes from head to tail, each with its number, how many there may be at once, a bound of all places,
-- and how many were placed since the opening.
pub record Nodes : Type 0 where
  pub nodes : List NumberedNode
  pub places : ℕ
  pub limit : ℕ
  pub placed : ℕ

-- the node at a place, with its number
abbrev pub standing_at : List (Option Slot) → ℕ → NumberedNode
standing_at slots place = standing_by place (slice_index_or slots place None)

-- whether a node is at a place
abbrev pub is_at : ℕ → NumberedNode → Bool
is_at place x = x.number.place == place

-- the first of these nodes that is at a place
abbrev pub at_place : ℕ → List NumberedNode → Option NumberedNode
at_place place [] = None
at_place place (x ∷ rest) = if is_at place x then Some x else at_place place rest

abbrev pub of_number : NodeNo → Option NumberedNode → Option Node
of_number number None = None
of_number number (Some x) = if x.number.generation == number.generation then Some x.node else None

-- the node under a number
abbrev pub under : NodeNo → List NumberedNode → Option Node
under number nodes = of_number number (at_place number.place nodes)

-- the nodes at other places, in their order
abbrev pub without_place : ℕ → List NumberedNode → List NumberedNode
without_place place = filter (λ x. not (is_at place x))

-- the same node, marked as cancelled
abbrev pub cancelled : NumberedNode → NumberedNode
cancelled x = record { number = x.number; node = record { arrival = x.node.arrival; cancelled = true } }

-- the nodes, with the one at a place cancelled
abbrev pub cancel_at : ℕ → List NumberedNode → List NumberedNode
cancel_at place = map (λ x. if is_at place x then cancelled x else x)

-- no two nodes are at one place
abbrev pub StandApart : List NumberedNode → Type 0
StandApart [] = Unit {0}
StandApart (x ∷ rest) = (at_place x.number.place rest ≡ None) × StandApart rest

-- the node right before a position in a list
abbrev pub standing_before : List NumberedNode → ℕ → Option NumberedNode
standing_before nodes zero = None
standing_before nodes (suc k) = slice_get nodes k

-- the list that a place with this slot is in
abbrev pub list_by : Option Slot → Option ℕ
list_by None = None
list_by (Some s) = Some 0

abbrev pub nodes_of : Places → LinkedLists → List NumberedNode
nodes_of a l = map (standing_at a.slots) (items l 0)

-- The list links exactly the places that have a node.
pub record IsLinked (a : Places) (l : LinkedLists) : Type 0 where
  pub linked : (place : ℕ) → list_of l place ≡ list_by (slot_at a place)
  pub stands : (place : ℕ) → IsIn place (items l 0) → IsSome (slot_at a place)
  pub listed : (place : ℕ) → IsSome (slot_at a place) → IsIn place (items l 0)
  pub apart : IsApart (items l 0)
  pub counted : taken a ≡ length (items l 0)
  pub one : list_count l ≡ 1
  pub room : a.limit ≡ key_limit l
