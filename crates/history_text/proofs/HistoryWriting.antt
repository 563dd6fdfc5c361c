-- What stands in a list of entries.
use Rattle.std.proofs.Common.{◌≡◌, ℕ, List, take, None, ◌⊎◌, sym, ◌∙◌, take_all, ⊎_elim}
use Rattle.std.specs.List.{slice_get}
use Rattle.std.proofs.lemmas.Option.{none-some, slice_get_cases}
use Rattle.history.specs.declared.entry.Entry.{Entry}

-- past the last entry all are taken
pub past : (xs : List Entry) (i : ℕ) → slice_get xs i ≡ None → take i xs ≡ xs
past xs i none =
    ⊎_elim (λ p. absurd (none-some p.0 (sym none ∙ p.2))) (λ p. take_all i xs p.0) (slice_get_cases xs i).1
