-- `LinkedLists` as contracts see it.
use Rattle.std.specs.Prelude.{
  ◌≡◌,
  ◌≢◌,
  ◌⊎◌,
  ℕ,
  List,
  [],
  ◌∷◌,
  length,
  Option,
  Some,
  None,
  not,
  ◌==◌,
  filter,
  slice_index_or,
  slice_get,
  zero,
  suc,
}

-- the keys of each list from first to last, and the list of each key that has room
pub record LinkedLists : Type 0 where
  pub lists : List (List ℕ)
  pub owners : List (Option ℕ)

-- the keys of a list, from first to last
abbrev pub items : LinkedLists → ℕ → List ℕ
items s list = slice_index_or s.lists list []

-- the list that a key is in
abbrev pub list_of : LinkedLists → ℕ → Option ℕ
list_of s key = slice_index_or s.owners key None

-- how many lists there are
abbrev pub list_count : LinkedLists → ℕ
list_count s = length s.lists

-- each key below this has a link
abbrev pub key_limit : LinkedLists → ℕ
key_limit s = length s.owners

-- the keys other than this one, in their order
abbrev pub without : ℕ → List ℕ → List ℕ
without key keys = filter (λ other. not (other == key)) keys

-- the key right before a position of a list
abbrev pub one_before : List ℕ → ℕ → Option ℕ
one_before keys zero = None
one_before keys (suc k) = slice_get keys k

-- the key is one of these
abbrev pub IsIn : ℕ → List ℕ → Type 0
IsIn key [] = ⊥
IsIn key (first ∷ rest) = (first ≡ key) ⊎ IsIn key rest

-- no key is there twice
abbrev pub IsApart : List ℕ → Type 0
IsApart [] = Unit {0}
IsApart (first ∷ rest) = (¬ IsIn first rest) × IsApart rest

-- no key is in the list
abbrev pub IsEmpty : LinkedLists → ℕ → Type 0
IsEmpty s list = (key : ℕ) → list_of s key ≢ Some list

-- the key is now in this list or in none, and every other key is where it was
pub record Moves (old new : LinkedLists) (key : ℕ) (list : Option ℕ) : Type 0 where
  pub moved : list_of new key ≡ list
  pub others : (other : ℕ) → other ≢ key → list_of new other ≡ list_of old other
  pub count : list_count new ≡ list_count old
  pub limit : key_limit new ≡ key_limit old
