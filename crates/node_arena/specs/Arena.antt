-- Nodes under numbers, as contracts see them.
use Rattle.std.specs.Prelude.{◌≡◌, ◌≢◌, ℕ, ◌<◌, ◌==◌, if◌then◌else◌, List, false, Option, Some, None, is_some, count_by, slice_index_or}
use Rattle.history.specs.declared.entry.Mode.TheVariants.{X}
use Rattle.node_arena.specs.declared.node.Node.{Node}
use Rattle.node_arena.specs.declared.node.NodeNo.{NodeNo}
use Rattle.node_arena.specs.declared.node.NumberedNode.{NumberedNode}
use Rattle.node_arena.specs.declared.arena.Slot.{Slot}

-- What is at each place, how many nodes there may be at once, a bound of all places, and how many nodes were
-- placed since the opening.
pub record Places : Type 0 where
  pub slots : List (Option Slot)
  pub places : ℕ
  pub limit : ℕ
  pub placed : ℕ

abbrev pub slot_at : Places → ℕ → Option Slot
slot_at a place = slice_index_or a.slots place None

-- the stand-in for the node of an empty place
abbrev pub no_node : Node
no_node = record { arrival = record { seat = 0; mode = X; n = 0; back = false }; cancelled = false }

abbrev pub standing_by : ℕ → Option Slot → NumberedNode
standing_by place None = record { number = record { place = place; generation = 0 }; node = no_node }
standing_by place (Some s) =
    record { number = record { place = place; generation = s.generation }; node = s.node }

abbrev pub standing_in : ℕ → Option Slot → Option NumberedNode
standing_in place None = None
standing_in place (Some s) = Some (standing_by place (Some s))

-- the node of a slot, if it is of this generation
abbrev pub of_generation : ℕ → Option Slot → Option Node
of_generation generation None = None
of_generation generation (Some s) = if s.generation == generation then Some s.node else None

-- the node under a number
abbrev pub find : Places → NodeNo → Option Node
find a number = of_generation number.generation (slot_at a number.place)

-- how many nodes there are
abbrev pub taken : Places → ℕ
taken a = count_by is_some a.slots

-- one place now has this slot, and every other place has what it had
pub record Changes (old new : Places) (place : ℕ) (slot : Option Slot) : Type 0 where
  pub changed : slot_at new place ≡ slot
  pub others : (other : ℕ) → other ≢ place → slot_at new other ≡ slot_at old other
  pub places : new.places ≡ old.places
  pub limit : new.limit ≡ old.limit

-- the generation of each node is below the number of nodes placed
abbrev pub AllPlaced : ℕ → List (Option Slot) → Type 0
AllPlaced placed slots =
    (place : ℕ) (s : Slot) → slice_index_or slots place None ≡ Some s → s.generation < placed
