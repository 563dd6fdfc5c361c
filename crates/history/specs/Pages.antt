-- The pages of a history. A page has 1,024 places.
use Rattle.std.specs.Prelude.{ℕ, ◌+◌, ◌*◌, ◌/◌}

-- the least multiple of 1,024 that is at least n: the places of the pages that n entries take
abbrev pub whole_pages : ℕ → ℕ
whole_pages n = (n + 1023) / 1024 * 1024
