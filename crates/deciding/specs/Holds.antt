-- A bound on all holds of a history.
use Rattle.std.specs.Prelude.{ℕ, ◌+◌, ◌*◌, List, length}
use Rattle.history.specs.declared.entry.Entry.{Entry}

-- the bound, if there were `first` holds at first: each entry adds less than 2^32
abbrev pub most_held : ℕ → List Entry → ℕ
most_held first h = first + 4294967295 * length h
