-- The state before the first entry of a history.
--
-- Every definition begins with a start, and reads it only in its clause for the empty list. An object as
-- opened starts with nothing held, nobody waiting and its opening number.
use Rattle.std.specs.Prelude.{ℕ, List, [], ℤ}
use Rattle.history.specs.Types.{Arrival, End, Mode, Header}
use Rattle.history.specs.declared.entry.End.TheVariants as end
use Rattle.history.specs.Object.{created}

-- What a seat gave up when it last began to wait on a condition, and how it will come back.
pub record Sleep : Type 0 where
  pub condition : ℕ
  pub holds : ℕ
  pub how : End

-- a seat that never slept
abbrev pub awake : Sleep
awake = record { condition = 0; holds = 0; how = end.None }

pub record Start : Type 0 where
  pub header : Header
  pub held : ℕ → Mode → ℕ  -- the holds of each seat
  pub unheld : ℕ  -- permits released beyond what was held
  pub free : ℤ  -- free permits
  pub counted : ℕ  -- how often a latch was counted down
  pub line : List Arrival  -- who waits in the queue
  pub sleepers : ℕ → List ℕ  -- who waits on each condition
  pub last_sleep : ℕ → Sleep  -- the last sleep of each seat
  pub calls : ℕ  -- the calls that had ended

-- an object as it is opened
abbrev pub opening : Header → Start
opening header =
    record {
      header = header;
      held = λ seat mode. 0;
      unheld = 0;
      free = created header.object;
      counted = 0;
      line = [];
      sleepers = λ condition. [];
      last_sleep = λ seat. awake;
      calls = 0;
    }
