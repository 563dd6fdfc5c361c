-- The word of those who sleep at a lock.
use Rattle.std.specs.Prelude.{◌≡◌, ◌<◌, ℕ, ◌/◌, ◌%◌, ◌^◌}

-- how many threads are enlisted for which no wake was sent
abbrev pub enlisted : ℕ → ℕ
enlisted word = word / 2 ^ 33

-- 1 if a woken thread is on its way, else 0
abbrev pub on_the_way : ℕ → ℕ
on_the_way word = (word / 2 ^ 32) % 2

abbrev pub IsDue : ℕ → Type 0
IsDue word = (0 < enlisted word) × (on_the_way word ≡ 0)
