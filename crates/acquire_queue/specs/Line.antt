-- The wait queue as contracts see it, and how the fields of a queue represent it.
use Rattle.std.specs.Prelude.{◌≡◌, ℕ, ◌+◌, ◌<◌, ◌≤◌, ◌^◌, ◌==◌, Bool, false, not, ◌&&◌, if◌then◌else◌, List, [], ◌∷◌, length, filter, slice_get, slice_index_or, Option, Some, None, nat_lt}
use Rattle.acquire_queue.specs.Below.{Arrival, LinePlace, stands_from, place_of, awake, NodeNo, NumberedNode, Nodes, StandApart, cancel_at, standing_before, StandOnce}

-- The number of seats, how many ever joined, the waiters (the longest waiting first), and all nodes, with the
-- cancelled ones.
pub record Line : Type 0 where
  pub seats : ℕ
  pub joined : ℕ
  pub arrivals : List Arrival
  pub nodes : List NumberedNode

-- whether the seat of a node still waits
abbrev pub is_live : NumberedNode → Bool
is_live x = not x.node.cancelled

-- the arrivals of the nodes that aren't cancelled, in order
abbrev pub live : List NumberedNode → List Arrival
live [] = []
live (x ∷ rest) = if x.node.cancelled then live rest else x.node.arrival ∷ live rest

-- a place in the queue of a waiter that comes back from no sleep
abbrev pub plain_place : Arrival → LinePlace
plain_place a = stands_from a awake

-- the number of a seat's node, if it isn't cancelled
abbrev pub number_of : ℕ → List NumberedNode → Option NodeNo
number_of i [] = None
number_of i (x ∷ rest) =
    if x.node.cancelled then number_of i rest
    else (if x.node.arrival.seat == i then Some x.number else number_of i rest)

-- the nodes from the first one on that isn't cancelled
abbrev pub without_dead_head : List NumberedNode → List NumberedNode
without_dead_head [] = []
without_dead_head (x ∷ rest) = if x.node.cancelled then without_dead_head rest else x ∷ rest

-- the nodes that aren't cancelled
abbrev pub swept : List NumberedNode → List NumberedNode
swept = filter is_live

-- whether the first waiter is this seat
abbrev pub is_first : ℕ → List Arrival → Bool
is_first i [] = false
is_first i (a ∷ rest) = a.seat == i

-- the nodes without the cancelled ones right before a waiter's
abbrev pub tidied : ℕ → List NumberedNode → List NumberedNode
tidied i [] = []
tidied i (x ∷ rest) = if x.node.cancelled && is_first i (live rest) then tidied i rest else x ∷ tidied i rest

-- the node right before a waiter's isn't cancelled
abbrev pub IsTidy : ℕ → List NumberedNode → Type 0
IsTidy i nodes = (k : ℕ) (before x : NumberedNode) → standing_before nodes k ≡ Some before →
    slice_get nodes k ≡ Some x →
    x.node.cancelled ≡ false → x.node.arrival.seat ≡ i → before.node.cancelled ≡ false

-- the first node isn't cancelled
abbrev pub LiveHead : List NumberedNode → Type 0
LiveHead [] = Unit {0}
LiveHead (x ∷ rest) = x.node.cancelled ≡ false

-- the nodes after one leaves: the head is freed with the cancelled ones after it, any other node is marked
abbrev pub left_by : NodeNo → List NumberedNode → List NumberedNode
left_by number [] = []
left_by number (x ∷ rest) =
    if x.number.place == number.place then without_dead_head rest else cancel_at number.place (x ∷ rest)

-- How many nodes are left when a seat leaves from between others: as many as before. If more than `seats` of
-- them would be cancelled, only the waiters' nodes are left.
abbrev pub standing_behind : ℕ → ℕ → ℕ → ℕ
standing_behind seats waiting standing = if nat_lt (waiting + seats) standing then waiting else standing

-- The table has the number of each waiter's node. There are at most as many cancelled nodes as seats, and two
-- places for each seat. A seat is in the queue at most once, so there is a free place for a seat that isn't
-- in it.
pub record IsLinkedLine (seats waiting : ℕ) (n : Nodes) (table : List (Option NodeNo)) : Type 0 where
  pub once : StandOnce (live n.nodes)
  pub tabled : (i : ℕ) → slice_index_or table i None ≡ number_of i n.nodes
  pub one_a_seat : length table ≡ seats
  pub apart : StandApart n.nodes
  pub headed : LiveHead n.nodes
  pub counted : length (live n.nodes) ≡ waiting
  pub bounded : length n.nodes ≤ waiting + seats
  pub reserved : seats + seats ≡ n.places
  pub few : seats < 2 ^ 16
