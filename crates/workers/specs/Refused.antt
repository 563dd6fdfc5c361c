-- Threads that the system refused.
use Rattle.std.specs.Prelude.{ℕ}

-- This worker made no call, since the system refused its thread or that of another worker. What it means
-- stays hidden. So a contract that promises it is met only by what saw the refusal.
pub WasRefused : ℕ → Type 0
WasRefused worker = Unit {0}

-- for `not_started` and `Start.wait` alone
pub refused : (worker : ℕ) → WasRefused worker
unfolding WasRefused
refused worker = tt
