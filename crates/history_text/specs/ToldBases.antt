-- Good bases, and beginnings of their lines.
use Rattle.std.specs.Prelude.{◌≡◌, ◌≤◌, List, ◌++◌}
use Rattle.history_text.specs.Below.{Header, Base, IsGood}
use Rattle.history_text.specs.declared.base_line.BaseLine.{BaseLine}
use Rattle.history_text.specs.BaseLines.{base_lines}

-- a good base of an object, with folded entries
pub record IsToldBase (k : Header) (b : Base) : Type 0 where
  pub header : b.header ≡ k
  pub some : 1 ≤ b.entries
  pub good : IsGood b

-- there is a good base whose lines begin with these
abbrev pub GoodBeginsSo : Header → List BaseLine → Type 0
GoodBeginsSo k xs = (b : Base) × (more : List BaseLine) × IsToldBase k b × (base_lines b ≡ xs ++ more)

-- there is a good base with these lines
abbrev pub GoodHas : Header → List BaseLine → Type 0
GoodHas k xs = (b : Base) × IsToldBase k b × (base_lines b ≡ xs)
