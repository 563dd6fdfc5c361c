-- A form of text: what its lines spell.
use Rattle.std.specs.Prelude.{ℕ, List, [], ◌∷◌, ◌++◌}
use Rattle.history.specs.Text.{ended}

-- Which item may come next, and whether the end line may, depends on the items before. The end line may
-- depend on the items.
pub record Form (H I : Type 0) : Type 1 where
  pub IsHeader : H → Type 0  -- the headers that have a line
  pub header_line : H → List ℕ
  pub IsItem : H → List I → I → Type 0  -- the items that have a line under a header, after these items
  pub item_line : I → List ℕ
  pub MayEnd : H → List I → Type 0  -- the items that the end line may follow
  pub end_line : List I → List ℕ

-- the lines of items, each with its break
abbrev pub lines_of : {H I : Type 0} → Form H I → List I → List ℕ
lines_of form [] = []
lines_of form (x ∷ xs) = ended (form.item_line x) ++ lines_of form xs

-- after `before`, each of the items has a line under the header
abbrev pub AreItems : {H I : Type 0} → Form H I → H → List I → List I → Type 0
AreItems form h before [] = Unit {0}
AreItems form h before (x ∷ xs) = form.IsItem h before x × AreItems form h (before ++ x ∷ []) xs

-- the one text of a header and items
abbrev pub text_of : {H I : Type 0} → Form H I → H → List I → List ℕ
text_of form h xs = ended (form.header_line h) ++ (lines_of form xs ++ ended (form.end_line xs))
