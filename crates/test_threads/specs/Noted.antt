-- What a parking has done that has a clock of its own.
use Rattle.permit.specs.Deed.{Deed, IsDone, showed}

-- Its clock shows what it likes. All else is done at the parking in it.
abbrev pub Did : {A : Type 0} → A → Deed → Type 0
Did place (showed moment) = Unit {0}
Did place deed = IsDone place deed
