-- Lines of a base, each of which may follow those before it.
use Rattle.std.specs.Prelude.{List, [], ◌∷◌}
use Rattle.history.specs.Base.{Base}
use Rattle.history_text.specs.declared.base_line.BaseLine.{BaseLine}
use Rattle.history_text.specs.BaseRules.{MayFollow, BaseSums, with_sums, with_line}

-- in a base that is being read
abbrev pub AllRead : Base → BaseSums → List BaseLine → Type 0
AllRead b t [] = Unit {0}
AllRead b t (x ∷ xs) = MayFollow t b x × AllRead (with_line b x) (with_sums t x) xs

abbrev pub after_told : BaseSums → List BaseLine → BaseSums
after_told t [] = t
after_told t (x ∷ xs) = after_told (with_sums t x) xs

abbrev pub with_lines : Base → List BaseLine → Base
with_lines b [] = b
with_lines b (x ∷ xs) = with_lines (with_line b x) xs
