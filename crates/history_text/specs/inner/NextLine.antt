-- What the next line of a history text spells.
use Rattle.std.specs.Prelude.{ℕ, List, [], Option, Result}
use Rattle.history_text.specs.Below.{Base, HistoryView, or_opening, ReadFault}
use Rattle.streams.specs.Reading as reading
use Rattle.history_text.specs.declared.place.Head.{Head}
use Rattle.history_text.specs.declared.place.Place.{Place}
use Rattle.history_text.specs.HistoryText.{IsRead, history_form}
use Rattle.history_text.specs.NextLine.{AreEntriesRead}

-- what a text spells that continues in this way after the lines of its base
abbrev pub AreAllRead : Head → Option Base → List ℕ → Place → Result HistoryView ReadFault → Type 0
AreAllRead h base ahead place result =
    (text : List ℕ) → AreEntriesRead text h (or_opening h.header base) [] place ahead →
    reading.Reads history_form (λ kept. IsRead text h.header kept) text result
