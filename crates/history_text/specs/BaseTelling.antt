-- The lines of a base, from its first line on.
use Rattle.std.specs.Prelude.{List}
use Rattle.history_text.specs.Below.{Header, Base, opening_base}
use Rattle.history_text.specs.declared.base_line.BaseLine.{BaseLine}
use Rattle.history_text.specs.BaseFollowing.{AllRead, after_told, with_lines}
use Rattle.history_text.specs.BaseRules.{BaseSums, no_sums}

-- the sums of these lines, and the base that they give
abbrev pub sums_of : List BaseLine → BaseSums
sums_of xs = after_told no_sums xs

abbrev pub base_by : Header → List BaseLine → Base
base_by k xs = with_lines (opening_base k) xs

-- each line may follow those before it
abbrev pub Follow : Header → List BaseLine → Type 0
Follow k xs = AllRead (opening_base k) no_sums xs
