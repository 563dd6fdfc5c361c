-- Forms of text whose lines can be told apart.
use Rattle.std.proofs.Common.{◌≡◌, ◌≢◌, ℕ, List, []}
use Rattle.std.specs.List.{AllByRecursion}
use Rattle.streams.specs.Form.{Form, AreItems}

-- no line break stands in it, by cases
abbrev pub Lacks : List ℕ → Type 0
Lacks = AllByRecursion (λ b. b ≢ 10)

-- Items behind which one more may stand.
pub record Stand {H I : Type 0} (form : Form H I) (h : H) (before : List I) : Type 0 where
  pub header : form.IsHeader h
  pub each : AreItems form h [] before

-- Lines are whole, header lines and item lines spell one value each, and an item line is no end line.
pub record IsLawful {H I : Type 0} (form : Form H I) : Type 0 where
  pub header_whole : (h : H) → form.IsHeader h → Lacks (form.header_line h)
  pub header_one : (h g : H) → form.IsHeader h → form.IsHeader g → form.header_line h ≡ form.header_line g →
      h ≡ g
  pub item_whole : (h : H) (before : List I) (x : I) → Stand form h before → form.IsItem h before x →
      Lacks (form.item_line x)
  pub item_one : (h : H) (before : List I) (x y : I) → Stand form h before → form.IsItem h before x →
      form.IsItem h before y → form.item_line x ≡ form.item_line y → x ≡ y
  pub end_whole : (h : H) (items : List I) → Stand form h items → form.MayEnd h items →
      Lacks (form.end_line items)
  pub item_no_end : (h : H) (before : List I) (x : I) → Stand form h before → form.IsItem h before x →
      form.MayEnd h before → form.item_line x ≡ form.end_line before → ⊥
