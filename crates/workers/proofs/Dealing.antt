-- Passes dealt to rows.
use Rattle.std.proofs.Common.{◌≡◌, suc, List, [], ◌∷◌, length, refl, ap}
use Rattle.monitor.specs.Shown.{Shown}
use Rattle.workers.specs.Rows.{dealt}

pub dealt_length : (ps : List Shown) (rows : List (List Shown)) → length (dealt ps rows) ≡ length rows
dealt_length [] rows = refl
dealt_length (p ∷ ps) [] = refl
dealt_length (p ∷ ps) (r ∷ rows) = ap suc (dealt_length ps rows)
