-- The first line of a history text, and the lines of its base.
use Rattle.std.specs.Prelude.{ℕ, Bool, nat_lt, if◌then◌else◌, List, [], ◌++◌, codes}
use Rattle.history_text.specs.Below.{Base, part_of}
use Rattle.history_text.specs.declared.base_line.BaseLine.{BaseLine}
use Rattle.history_text.specs.declared.place.Head.{Head}
use Rattle.history_text.specs.BaseLines.{base_lines}

abbrev pub name_of : Bool → List ℕ
name_of is_based = if is_based then codes "aqs-history 2 " else codes "aqs-history 1 "

abbrev pub head_line : Head → List ℕ
head_line h = name_of h.is_based ++ part_of h.header

-- the first line of a history on a base, and the lines of the base: none if no entry was folded into it
abbrev pub head_of : Base → Head
head_of b = record { is_based = nat_lt 0 b.entries; header = b.header }

abbrev pub lines_told : Base → List BaseLine
lines_told b = if nat_lt 0 b.entries then base_lines b else []
