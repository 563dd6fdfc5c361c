-- The word of those who sleep at a lock.
use Rattle.std.specs.Prelude.{ℕ, ◌%◌, ◌^◌}

-- how many wakes were sent, up to a multiple of 2 ^ 32
abbrev pub wakes : ℕ → ℕ
wakes word = word % 2 ^ 32
