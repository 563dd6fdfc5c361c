-- How many lines a text has.
use Rattle.std.proofs.Common.{◌≡◌, ℕ, ◌+◌, ◌==◌, List, length}
use Rattle.std.specs.List.{count_by, slice_split}
use Rattle.std.proofs.lemmas.List.Splits.{length-slice_split}

pub lines_counted : (text : List ℕ) → length (slice_split (λ b. b == 10) text) ≡ count_by (λ b. b == 10) text + 1
lines_counted text = length-slice_split (λ b. b == 10) text
