-- How the entries of a history are kept in pages. A page is full before the next begins.
use Rattle.std.specs.Prelude.{◌≡◌, ◌⊎◌, ℕ, zero, suc, ◌+◌, ◌*◌, ◌<◌, ◌≤◌, ◌^◌, List, [], ◌∷◌, ◌++◌, length, reverse}
use Rattle.history.specs.declared.entry.Entry.{Entry}
use Rattle.history.specs.Entries.{ended_calls}

-- the entries, the oldest first, and how many the reserved pages hold
pub record PagesView : Type 0 where
  pub entries : List Entry
  pub places : ℕ

-- the entries of all pages, the oldest first
abbrev pub in_pages : List (List Entry) → List Entry
in_pages [] = []
in_pages (page ∷ pages) = page ++ in_pages pages

-- n of these pages are full, and those after them are empty
abbrev pub AreFull : ℕ → List (List Entry) → Type 0
AreFull zero [] = Unit {0}
AreFull zero (page ∷ pages) = (page ≡ []) × AreFull zero pages
AreFull (suc n) [] = ⊥
AreFull (suc n) (page ∷ pages) = (length page ≡ 1024) × AreFull n pages

-- these pages, of which all but the first n count as empty: what they have was folded
abbrev pub used : ℕ → List (List Entry) → List (List Entry)
used n [] = []
used zero (page ∷ pages) = [] ∷ used zero pages
used (suc n) (page ∷ pages) = page ∷ used n pages

-- The pages are kept in this way. While no page is at hand, there is no other page.
pub record AreKept (others : List (List Entry)) (full : ℕ) (hand : List Entry) (room : ℕ) : Type 0 where
  pub full_first : AreFull full others
  pub fits : length hand ≤ room
  pub page : (room ≡ 1024) ⊎ ((room ≡ 0) × (others ≡ []))
  pub few : 1024 * length others + room < 2 ^ 33

-- What a history keeps besides its pages agrees with them.
pub record HasRoomOwed (pages : PagesView) (cap owed calls : ℕ) : Type 0 where
  pub reserved : length pages.entries + owed ≤ pages.places
  pub within_cap : length pages.entries + owed ≤ cap
  pub short : cap < 2 ^ 32
  pub bounded : pages.places < cap + 1024
  pub counted : calls ≡ ended_calls (reverse pages.entries)
