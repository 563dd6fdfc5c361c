-- `LinkedLists` as contracts see it.
use Rattle.std.specs.Prelude.{◌≡◌, ℕ}
use Rattle.node_arena.specs.LinkedLists.{LinkedLists, items, list_count, list_of}

-- each list and each key is as it was
pub record SameLists (old new : LinkedLists) : Type 0 where
  pub count : list_count new ≡ list_count old
  pub lists : (list : ℕ) → items new list ≡ items old list
  pub keys : (key : ℕ) → list_of new key ≡ list_of old key
