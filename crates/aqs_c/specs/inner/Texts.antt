-- The text of a history that stands on a base.
use Rattle.std.specs.Prelude.{◌≡◌, ℕ, List, Some}
use Rattle.aqs_c.specs.Below.{Base, HistoryView, history_text}

abbrev pub IsTextOf : HistoryView → List ℕ → Type 0
IsTextOf h text = (b : Base) × (h.base ≡ Some b) × (text ≡ history_text b h.entries)
