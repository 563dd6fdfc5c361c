-- Which line of a base may follow those before it.
use Rattle.std.specs.Prelude.{◌≡◌, ◌⊎◌, ℕ, ◌+◌, ◌<◌, ◌≤◌, Bool, true, false, List, [], ◌∷◌, ◌++◌, get_or, set, neg_ℤ}
use Rattle.std.proofs.Math.ListN.{replicate}
use Rattle.history_text.specs.Below.{SeatBase, Header, Object, Lock, ReadWrite, Semaphore, Latch, Base, sleepers_of, MOST_AMOUNT, MOST_BASE_PERMITS, MOST_FOLDED, MOST_HOLDS, MOST_READ_WRITE_HOLDS, MOST_SEATS, SleepsWell, StandsWell, is_latch, is_lock, is_semaphore, opening_count, at_least_none}
use Rattle.history_text.specs.declared.base_line.BaseLine.{BaseLine}
use Rattle.history_text.specs.declared.base_line.BaseLine.TheVariants.{Folded, Released, CountedDown, Seat, Stands, Sleeps}

-- The sums over the lines of a base that were read.
pub record BaseSums : Type 0 where
  pub entries : ℕ  -- how many entries were folded; 0 before the first line
  pub unheld : ℕ
  pub seats : ℕ  -- how many seats were read
  pub calls : ℕ  -- the calls that these ended, and their holds
  pub exclusive : ℕ
  pub shared : ℕ
  pub waits : List Bool  -- whether a seat waits, in the queue or on a condition
  pub asleep : Bool  -- whether a condition's waiter was read, and on which condition the last one waits
  pub condition : ℕ

-- before any line
abbrev pub no_sums : BaseSums
no_sums =
    record {
      entries = 0;
      unheld = 0;
      seats = 0;
      calls = 0;
      exclusive = 0;
      shared = 0;
      waits = replicate MOST_SEATS false;
      asleep = false;
      condition = 0;
    }

-- after one more line
abbrev pub with_sums : BaseSums → BaseLine → BaseSums
with_sums t (Folded entries) = record t { entries = entries }
with_sums t (Released entries unheld) = record t { entries = entries; unheld = unheld }
with_sums t (CountedDown entries count) = record t { entries = entries }
with_sums t (Seat i has) =
    record t {
      seats = t.seats + 1;
      calls = t.calls + has.calls;
      exclusive = t.exclusive + has.exclusive;
      shared = t.shared + has.shared;
    }
with_sums t (Stands p) = record t { waits = set t.waits p.who.seat true }
with_sums t (Sleeps c x) = record t { waits = set t.waits x.seat true; asleep = true; condition = c }

-- What the next seat may hold, after those before it. Only one seat has exclusive holds of a lock, and then
-- no other has shared ones. The free permits of a semaphore are never fewer than the smaller of 0 and its
-- opening number. After the last seat they are within the limit.
abbrev pub MayHold : Object → ℕ → BaseSums → SeatBase → Type 0
MayHold (Lock policy) seats t has =
    (has.exclusive ≤ MOST_HOLDS) × (has.shared ≡ 0) × ((t.exclusive ≡ 0) ⊎ (has.exclusive ≡ 0))
MayHold (ReadWrite policy) seats t has =
    (has.exclusive ≤ MOST_READ_WRITE_HOLDS) × (t.shared + has.shared ≤ MOST_READ_WRITE_HOLDS)
    × ((has.exclusive ≡ 0) ⊎ ((t.exclusive ≡ 0) × (t.shared ≡ 0)))
    × ((has.shared ≡ 0) ⊎ (t.exclusive ≡ 0))
MayHold (Semaphore policy permits) seats t has =
    (has.exclusive ≡ 0) × (has.shared ≤ MOST_BASE_PERMITS)
    × (t.shared + has.shared ≤ t.unheld + at_least_none permits)
    × (t.seats + 1 ≡ seats →
    t.unheld + at_least_none permits ≤ MOST_AMOUNT + (t.shared + has.shared) + at_least_none (neg_ℤ permits))
MayHold (Latch opening) seats t has = (has.exclusive ≡ 0) × (has.shared ≡ 0)

-- the first line
pub record IsFirst (t : BaseSums) (entries : ℕ) : Type 0 where
  pub none : t.entries ≡ 0
  pub some : 1 ≤ entries
  pub most : entries ≤ MOST_FOLDED

-- a seat, in order
pub record IsSeated (k : Header) (t : BaseSums) (i : ℕ) (has : SeatBase) : Type 0 where
  pub begun : 1 ≤ t.entries
  pub next : i ≡ t.seats
  pub seat : i < k.seats
  pub calls : t.calls + has.calls ≤ t.entries
  pub holds : MayHold k.object k.seats t has

-- all seats were read
pub record AllSeated (k : Header) (t : BaseSums) : Type 0 where
  pub begun : 1 ≤ t.entries
  pub seats : t.seats ≡ k.seats

-- a seat waits nowhere
abbrev pub IsFree : BaseSums → ℕ → Type 0
IsFree t i = get_or t.waits i false ≡ false

-- The line may follow those that were read, in a base with these seats.
abbrev pub MayFollow : BaseSums → Base → BaseLine → Type 0
MayFollow t b (Folded entries) = IsFirst t entries × (is_lock b.header.object ≡ true)
MayFollow t b (Released entries unheld) =
    IsFirst t entries × (is_semaphore b.header.object ≡ true) × (unheld ≤ MOST_BASE_PERMITS)
MayFollow t b (CountedDown entries count) =
    IsFirst t entries × (is_latch b.header.object ≡ true) × (count ≤ opening_count b.header.object)
MayFollow t b (Seat i has) = IsSeated b.header t i has
MayFollow t b (Stands p) =
    AllSeated b.header t × (t.asleep ≡ false) × IsFree t p.who.seat × StandsWell b p
MayFollow t b (Sleeps c x) =
    AllSeated b.header t × (t.condition ≤ c) × IsFree t x.seat × SleepsWell b c x

-- one more line of a base that is being read; all its seats have places from the beginning
abbrev pub with_line : Base → BaseLine → Base
with_line b (Folded entries) = record b { entries = entries }
with_line b (Released entries unheld) = record b { entries = entries; unheld = unheld }
with_line b (CountedDown entries count) = record b { entries = entries; count = count }
with_line b (Seat i has) = record b { seats = set b.seats i has }
with_line b (Stands p) = record b { line = b.line ++ p ∷ [] }
with_line b (Sleeps c x) = record b { sleepers = set b.sleepers c (sleepers_of b c ++ x ∷ []) }
