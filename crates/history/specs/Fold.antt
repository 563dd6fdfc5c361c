-- When the entries of a history may be folded into its base.
use Rattle.std.specs.Prelude.{List}
use Rattle.history.specs.declared.entry.Entry.{Entry}
use Rattle.history.specs.Base.{Base}
use Rattle.history.specs.GoodBase.{IsModest}
use Rattle.history.specs.Header.{IsInRange}
use Rattle.history.specs.Point.{CanFold}

-- The base has room for these entries, and its numbers are such as entries after an opening can leave.
pub record MayFold (b : Base) (h : List Entry) : Type 0 where
  pub range : IsInRange b.header
  pub modest : IsModest b
  pub can : CanFold b h
