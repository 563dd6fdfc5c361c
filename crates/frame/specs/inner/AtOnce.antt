-- What is done at once: entries that move nobody, while the queue is empty; and steps past those who wait.
use Rattle.std.specs.Prelude.{◌≡◌, ℕ, Bool, true, false, not, ◌&&◌, ◌||◌, is_none, [], None, Ok, Some}
use Rattle.frame.specs.Below.{refused_as, Mode, Word, Step, could, held_back, limit, line, Idle, phase, entry_for}
use Rattle.history.specs.declared.entry.Word.TheVariants as word
use Rattle.frame.specs.AtOnce.{entry_at_once}
use Rattle.frame.specs.Core.{CoreView, counts_of, start_of}
use Rattle.frame.specs.inner.Core.{first_mode_of}

-- the words of an acquire or release that doesn't change who waits
abbrev pub moves_nobody : Word → Bool
moves_nobody word.Got = true
moves_nobody word.TryGot = true
moves_nobody word.Gave = true
moves_nobody _ = false

-- the queue is empty, and the seat is idle
pub record IsAlone (v : CoreView) (i : ℕ) : Type 0 where
  pub header : (start_of v).header ≡ v.header
  pub empty : line (start_of v) v.entries ≡ []
  pub idle : phase (start_of v) v.entries i ≡ Idle

-- the object has such a step, and its seat could acquire
pub record Takes (v : CoreView) (i : ℕ) (step : Step) (m : Mode) (n : ℕ) : Type 0 where
  pub admitted : refused_as v.header step ≡ None
  pub below : limit (counts_of v) i m ≡ false
  pub could : could (counts_of v) i m n ≡ true

-- whether the object has such a step, and its seat is below its limit
abbrev pub may_acquire : CoreView → ℕ → Step → Mode → Bool
may_acquire v i step m = is_none (refused_as v.header step) && not (limit (counts_of v) i m)

-- and whether an acquire joins the queue
abbrev pub queues : CoreView → ℕ → Step → Mode → ℕ → Bool
queues v i step m n =
    may_acquire v i step m
    && (held_back (counts_of v) (first_mode_of v) i m || not (could (counts_of v) i m n))

-- a seat that is idle
pub record IsIdle (v : CoreView) (i : ℕ) : Type 0 where
  pub header : (start_of v).header ≡ v.header
  pub idle : phase (start_of v) v.entries i ≡ Idle

-- a step makes the entry of one that is done at once
abbrev pub MakesAtOnce : CoreView → ℕ → Step → Type 0
MakesAtOnce v i step = entry_for (start_of v) v.entries i step ≡ Ok (Some (entry_at_once i step))
