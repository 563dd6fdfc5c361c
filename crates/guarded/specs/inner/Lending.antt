-- What a slot ends with, by what the caller makes of the value that it was lent.
use Rattle.std.specs.Borrow.{Lends, MutBor, Fml, RattleType}
use Rattle.guarded.specs.declared.slot.Slot.{Slot}
use Rattle.guarded.specs.declared.slot.Slot.TheVariants.{Full}
use Rattle.guarded.specs.contracts.slot.Slot.{the_row}
use Rattle.guarded.specs.contracts.shared.Shared as shared

abbrev pub LendsSlot : (T I : RattleType) → MutBor (Slot T.Denot I.Denot) → MutBor T.Denot → Fml
LendsSlot T I s r = Lends (the_row T I) T s r (λ w. Full w)

-- what a share ends with, by what the caller makes of the value
abbrev pub LendsShared : (T : RattleType) → MutBor T.Denot → MutBor T.Denot → Fml
LendsShared T s r = Lends (shared.the_row T) T s r (λ w. w)
