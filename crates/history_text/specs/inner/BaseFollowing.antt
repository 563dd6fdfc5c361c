-- Lines of a base, each of which may follow those before it.
use Rattle.std.specs.Prelude.{◌≡◌, Bool, true, false, All, List, [], ◌∷◌, length}
use Rattle.history_text.specs.Below.{Object, Lock, ReadWrite, Semaphore, Latch, Base, nothing, opening_count}
use Rattle.history_text.specs.declared.base_line.BaseLine.{BaseLine}
use Rattle.history_text.specs.BaseRules.{MayFollow, BaseSums, with_sums}
use Rattle.history_text.specs.BaseFollowing.{after_told}

-- in a base that has all its seats
abbrev pub AllFollow : Base → BaseSums → List BaseLine → Type 0
AllFollow b t [] = Unit {0}
AllFollow b t (x ∷ xs) = MayFollow t b x × AllFollow b (with_sums t x) xs

-- what no line of the object spells is 0
abbrev pub IsCountedFor : Object → Base → Type 0
IsCountedFor (Lock policy) b = (b.unheld ≡ 0) × (b.count ≡ 0)
IsCountedFor (ReadWrite policy) b = (b.unheld ≡ 0) × (b.count ≡ 0)
IsCountedFor (Semaphore policy permits) b = b.count ≡ 0
IsCountedFor (Latch opening) b = b.unheld ≡ 0

-- It has an entry for each seat and a list for each condition, and nothing that its lines don't spell.
pub record HasShape (b : Base) : Type 0 where
  pub seats : length b.seats ≡ b.header.seats
  pub conditions : length b.sleepers ≡ b.header.conditions
  pub counted : IsCountedFor b.header.object b

-- no entry was folded into it, and each part is as the opening makes it
pub record IsUnused (b : Base) : Type 0 where
  pub entries : b.entries ≡ 0
  pub unheld : b.unheld ≡ 0
  pub count : b.count ≡ opening_count b.header.object
  pub line : b.line ≡ []
  pub seats : (length b.seats ≡ b.header.seats) × All (λ has. has ≡ nothing) b.seats
  pub sleepers : (length b.sleepers ≡ b.header.conditions) × All (λ list. list ≡ []) b.sleepers

-- whether these lines may follow those that were read, and the sums with them
abbrev pub HaveFollowed : Bool → Base → BaseSums → BaseSums → List BaseLine → Type 0
HaveFollowed true b t new xs = AllFollow b t xs × (new ≡ after_told t xs)
HaveFollowed false b t new xs = AllFollow b t xs → ⊥
