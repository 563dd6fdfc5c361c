-- Forms of text whose lines are short.
use Rattle.std.specs.Prelude.{ℕ, ◌<◌, List, [], length}
use Rattle.streams.specs.Form.{Form, AreItems}

-- each line of a text of the form, without its break, has fewer than `bound` bytes
pub record HasShortLines {H I : Type 0} (form : Form H I) (bound : ℕ) : Type 0 where
  pub header : (h : H) → form.IsHeader h → length (form.header_line h) < bound
  pub item : (h : H) (before : List I) (x : I) → form.IsHeader h → AreItems form h [] before →
      form.IsItem h before x → length (form.item_line x) < bound
  pub end : (h : H) (xs : List I) → form.IsHeader h → AreItems form h [] xs → form.MayEnd h xs →
      length (form.end_line xs) < bound
