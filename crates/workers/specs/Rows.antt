-- Passes in rows, one row for each worker, and in columns, one column for each object.
use Rattle.std.specs.Prelude.{List, [], ◌∷◌, ◌++◌}
use Rattle.monitor.specs.Shown.{Shown}

-- one more pass for each row
abbrev pub dealt : List Shown → List (List Shown) → List (List Shown)
dealt [] rows = rows
dealt (pass ∷ passes) [] = []
dealt (pass ∷ passes) (row ∷ rows) = (row ++ pass ∷ []) ∷ dealt passes rows
