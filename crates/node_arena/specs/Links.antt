-- How `LinkedLists` lays out its rings. No public clause cites this module.
use Rattle.std.specs.Prelude.{◌≡◌, ◌≢◌, ℕ, zero, suc, ◌+◌, ◌-◌, ◌<◌, ◌≤◌, Bool, false, ◌==◌, List, [], ◌∷◌, map, length, Option, Some, None, count_by, slice_index_or}
use Rattle.std.specs.List.{range_with_len}
use Rattle.node_arena.specs.LinkedLists.{LinkedLists, IsIn, IsApart}
use Rattle.node_arena.specs.declared.linked_lists.Link.{Link}

-- the stand-in for a link beyond the last one
abbrev pub no_link : Link
no_link = record { prev = 0; next = 0 }

-- the place after a place
abbrev pub next_of : List Link → ℕ → ℕ
next_of links at = (slice_index_or links at no_link).next

-- the place before a place
abbrev pub prev_of : List Link → ℕ → ℕ
prev_of links at = (slice_index_or links at no_link).prev

-- `next` now leads from one place to another; from every other place it leads where it did
pub record Joins (old new : ℕ → ℕ) (from to : ℕ) : Type 0 where
  pub here : new from ≡ to
  pub others : (at : ℕ) → at ≢ from → new at ≡ old at

-- the neighbours of the place now lead to each other
pub record Skips (old new : List Link) (at : ℕ) : Type 0 where
  pub next : Joins (next_of old) (next_of new) (prev_of old at) (next_of old at)
  pub prev : Joins (prev_of old) (prev_of new) (next_of old at) (prev_of old at)

-- the new links put a place between two others; every other link is as before
pub record Inserts (next prev next' prev' : ℕ → ℕ) (before at after : ℕ) : Type 0 where
  pub into : next' before ≡ at
  pub out : next' at ≡ after
  pub back_into : prev' after ≡ at
  pub back_out : prev' at ≡ before
  pub nexts : (other : ℕ) → other ≢ before → other ≢ at → next' other ≡ next other
  pub prevs : (other : ℕ) → other ≢ after → other ≢ at → prev' other ≡ prev other

-- the first place is now right before the second
abbrev pub Splices : List Link → List Link → ℕ → ℕ → Type 0
Splices old new at after =
    Inserts (next_of old) (prev_of old) (next_of new) (prev_of new) (prev_of old after) at after

-- the owner is this list
abbrev pub is_list : ℕ → Option ℕ → Bool
is_list list None = false
is_list list (Some owner) = owner == list

-- the next `count` keys that the links lead to from a place
abbrev pub walk : (ℕ → ℕ) → ℕ → ℕ → ℕ → List ℕ
walk next heads zero from = []
walk next heads (suc count) from = (next from - heads) ∷ walk next heads count (next from)

module _ (next prev : ℕ → ℕ) (heads : ℕ) where
  -- the links lead from one place through these keys to the other place, and back
  abbrev pub IsChain : ℕ → List ℕ → ℕ → Type 0
  IsChain from [] to = (next from ≡ to) × (prev to ≡ from)
  IsChain from (key ∷ keys) to =
      (next from ≡ heads + key) × (prev (heads + key) ≡ from) × IsChain (heads + key) keys to

  -- the ring through the head of a list holds these keys, each once; they are the keys that the list owns
  pub record IsRing (owner : ℕ → Option ℕ) (list : ℕ) (keys : List ℕ) : Type 0 where
    pub chained : IsChain list keys list
    pub apart : IsApart keys
    pub owned : (key : ℕ) → IsIn key keys → owner key ≡ Some list
    pub listed : (key : ℕ) → owner key ≡ Some list → IsIn key keys

module _ (links : List Link) (owners : List (Option ℕ)) (heads : ℕ) where
  -- the keys of a list
  unfoldable pub keys_of : ℕ → List ℕ
  keys_of list = walk (next_of links) heads (count_by (is_list list) owners) list

  -- `LinkedLists` as contracts see it
  abbrev pub lists_of : LinkedLists
  lists_of = record { lists = map keys_of (range_with_len 0 heads); owners = owners }

  -- each key has a link, its owner is a list, and each list is a ring
  pub record IsSound : Type 0 where
    pub sized : heads + length owners ≤ length links
    pub known : (key list : ℕ) → slice_index_or owners key None ≡ Some list → list < heads
    pub rings : (list : ℕ) → list < heads
        → IsRing (next_of links) (prev_of links) heads (λ key. slice_index_or owners key None) list
        (keys_of list)
