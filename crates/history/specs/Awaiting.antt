-- A seat within an await: it waits on its condition, or in the queue on its way back.
use Rattle.std.specs.Prelude.{◌≡◌, ◌⊎◌, ℕ, ◌<◌, true, List, Some, None}
use Rattle.history.specs.Types.{End, Entry, X}
use Rattle.history.specs.declared.entry.End.TheVariants as end
use Rattle.history.specs.declared.entry.Word.TheVariants as word
use Rattle.history.specs.Line.{line, place_of, coming_back}
use Rattle.history.specs.Sleepers.{sleepers, last_sleep, has}
use Rattle.history.specs.Start.{Start, Sleep}

-- A seat waits on the condition of its last sleep, and isn't in the queue.
pub record SleepsAs (s : Start) (h : List Entry) (i : ℕ) (w : Sleep) : Type 0 where
  pub place : place_of i (line s h) ≡ None
  pub asleep : has i (sleepers s h w.condition) ≡ true
  pub condition : w.condition < s.header.conditions
  pub saved : last_sleep s h i ≡ w

-- A seat is in the queue, on its way back from its last sleep.
pub record ReturnsAs (s : Start) (h : List Entry) (i : ℕ) (w : Sleep) : Type 0 where
  pub place : place_of i (line s h) ≡ Some (coming_back i)
  pub saved : last_sleep s h i ≡ w

abbrev pub AwaitsAs : Start → List Entry → ℕ → Sleep → Type 0
AwaitsAs s h i w = SleepsAs s h i w ⊎ ReturnsAs s h i w

-- the sleep that begins with an await, and the same sleep after a lapse
abbrev pub signalled : ℕ → ℕ → Sleep
signalled condition holds = record { condition = condition; holds = holds; how = end.Signalled }

abbrev pub lapsed : Sleep → End → Sleep
lapsed w how = record { condition = w.condition; holds = w.holds; how = how }

-- the entry that ends its await, and the one by which it lapses
abbrev pub back_from : ℕ → Sleep → Entry
back_from i w = record { seat = i; word = word.Back; mode = X; n = w.holds; at = w.condition; end = w.how }

abbrev pub lapse_from : ℕ → Sleep → End → Entry
lapse_from i w how = record { seat = i; word = word.Lapse; mode = X; n = 0; at = w.condition; end = how }
