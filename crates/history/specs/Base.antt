-- A base: the numbers and lists that folded entries leave, and the start that they make.
--
-- A history may begin with a base in place of its first entries. The base has all that the definitions ask of
-- these entries.
use Rattle.std.specs.Prelude.{ℕ, zero, suc, ◌+◌, ◌-◌, ◌==◌, ◌&&◌, if◌then◌else◌, List, [], ◌∷◌, ◌++◌, map, length, get_or, Option, Some, None, pos, ◌+ℤ◌, ◌-ℤ◌}
use Rattle.history.specs.Types.{Arrival, Entry, Mode, X, S, Header}
use Rattle.history.specs.declared.base.SeatBase.{SeatBase}
use Rattle.history.specs.declared.base.Sleeper.{Sleeper}
use Rattle.history.specs.declared.base.LinePlace.{LinePlace}
use Rattle.history.specs.declared.entry.End.TheVariants as end
use Rattle.history.specs.Counts.{count, held, total, unheld}
use Rattle.history.specs.Entry.{ends_call}
use Rattle.history.specs.Line.{line}
use Rattle.history.specs.Object.{created, opening_count}
use Rattle.history.specs.Sleepers.{last_sleep, sleepers}
use Rattle.history.specs.Start.{Start, Sleep, awake}

pub record Base : Type 0 where
  pub header : Header
  pub entries : ℕ  -- how many entries were folded
  pub seats : List SeatBase  -- what each seat has, in order
  pub unheld : ℕ  -- permits released beyond what was held
  pub count : ℕ  -- the count of a latch
  pub line : List LinePlace  -- who waits in the queue
  pub sleepers : List (List Sleeper)  -- who waits on each condition, in order

-- a value for each number below n
abbrev pub each_below : {A : Type 0} → ℕ → (ℕ → A) → List A
each_below zero f = []
each_below (suc n) f = each_below n f ++ f n ∷ []

-- a seat that did nothing yet
abbrev pub nothing : SeatBase
nothing = record { calls = 0; exclusive = 0; shared = 0 }

-- the base of an object as it is opened
abbrev pub opening_base : Header → Base
opening_base k =
    record {
      header = k;
      entries = 0;
      seats = each_below k.seats (λ i. nothing);
      unheld = 0;
      count = opening_count k.object;
      line = [];
      sleepers = each_below k.conditions (λ c. []);
    }

-- what a base has for a seat, and for a condition
abbrev pub seat_of : Base → ℕ → SeatBase
seat_of b i = get_or b.seats i nothing

abbrev pub sleepers_of : Base → ℕ → List Sleeper
sleepers_of b c = get_or b.sleepers c []

abbrev pub holds_of : SeatBase → Mode → ℕ
holds_of has X = has.exclusive
holds_of has S = has.shared

-- the sleep from which a seat in the queue comes back
abbrev pub sleep_in_line : ℕ → List LinePlace → Option Sleep
sleep_in_line i [] = None
sleep_in_line i (p ∷ rest) =
    if p.who.back && (p.who.seat == i) then
    Some (record { condition = p.condition; holds = p.holds; how = p.how })
    else sleep_in_line i rest

-- the sleep of a seat on condition c, and on any of the first n; a signal ends it unless it lapses before
abbrev pub sleep_on : ℕ → ℕ → List Sleeper → Option Sleep
sleep_on c i [] = None
sleep_on c i (x ∷ rest) =
    if x.seat == i then Some (record { condition = c; holds = x.holds; how = end.Signalled })
    else sleep_on c i rest

abbrev pub either : Option Sleep → Option Sleep → Option Sleep
either None other = other
either (Some w) other = Some w

abbrev pub sleep_below : ℕ → Base → ℕ → Option Sleep
sleep_below zero b i = None
sleep_below (suc c) b i = either (sleep_on c i (sleepers_of b c)) (sleep_below c b i)

abbrev pub or_awake : Option Sleep → Sleep
or_awake None = awake
or_awake (Some w) = w

-- A base as a start. The free permits are those created and those released unheld, less those held.
abbrev pub based : Base → Start
based b =
    record {
      header = b.header;
      held = λ i m. holds_of (seat_of b i) m;
      unheld = b.unheld;
      free = (created b.header.object +ℤ pos b.unheld)
          -ℤ pos (total b.header.seats (λ i. (seat_of b i).shared));
      counted = opening_count b.header.object - b.count;
      line = map (λ p. p.who) b.line;
      sleepers = λ c. map (λ x. x.seat) (sleepers_of b c);
      last_sleep = λ i. or_awake (either (sleep_in_line i b.line) (sleep_below b.header.conditions b i));
      calls = total b.header.seats (λ i. (seat_of b i).calls);
    }

-- the number of calls that a seat ended, with those before the base
abbrev pub calls_of : Base → List Entry → ℕ → ℕ
calls_of b [] i = (seat_of b i).calls
calls_of b (e ∷ h) i = calls_of b h i + (if (e.seat == i) && ends_call e.word then 1 else 0)

abbrev pub seat_after : Base → List Entry → ℕ → SeatBase
seat_after b h i =
    record { calls = calls_of b h i; exclusive = held (based b) h i X; shared = held (based b) h i S }

-- a waiter in the queue, with its sleep if it comes back from one
abbrev pub stands_from : Arrival → Sleep → LinePlace
stands_from a w = record { who = a; condition = w.condition; holds = w.holds; how = w.how }

abbrev pub standing_after : Base → List Entry → Arrival → LinePlace
standing_after b h a = stands_from a (if a.back then last_sleep (based b) h a.seat else awake)

abbrev pub sleeper_after : Base → List Entry → ℕ → Sleeper
sleeper_after b h i = record { seat = i; holds = (last_sleep (based b) h i).holds }

-- A base with entries after it, folded: the base that has what the definitions say after these entries.
abbrev pub folded : Base → List Entry → Base
folded b h =
    record {
      header = b.header;
      entries = b.entries + length h;
      seats = each_below b.header.seats (seat_after b h);
      unheld = unheld (based b) h;
      count = count (based b) h;
      line = map (standing_after b h) (line (based b) h);
      sleepers = each_below b.header.conditions (λ c. map (sleeper_after b h) (sleepers (based b) h c));
    }
