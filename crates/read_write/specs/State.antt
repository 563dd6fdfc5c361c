-- What the fields of a read-write lock's hooks represent.
use Rattle.std.specs.Prelude.{◌≡◌, ℕ, List, length, slice_index, Option, None}
use Rattle.read_write.specs.Below.{Mode, X, S, Object, ReadWrite, Policy, Counts, holds_of, Owns}
use Rattle.read_write.specs.declared.hooks.RwHooks.{RwHooks}

-- The fields, with the table of read holds as a list.
pub record State : Type 0 where
  pub policy : Policy
  pub owner : Option ℕ
  pub writes : ℕ
  pub reads : List ℕ
  pub readers : ℕ

abbrev pub state_of : RwHooks → State
state_of s =
    record {
      policy = s.policy;
      owner = s.owner;
      writes = s.writes;
      reads = s.reads.items;
      readers = s.readers;
    }

-- The counts are those of a read-write lock with this owner and these readers.
pub record MatchesFor (s : State) (k : Counts) : Type 0 where
  pub object : k.object ≡ ReadWrite s.policy
  pub seats : k.seats ≡ length s.reads
  pub owns : Owns s.owner s.writes k
  pub shared : (i : ℕ) → k.held i S ≡ slice_index s.reads i

abbrev pub Matches : RwHooks → Counts → Type 0
Matches s k = MatchesFor (state_of s) k

abbrev pub rw_of : RwHooks → Object
rw_of s = ReadWrite s.policy

-- nobody owns or reads, and the table has these seats
pub record IsFresh (s : State) (seats : ℕ) : Type 0 where
  pub no_owner : s.owner ≡ None
  pub no_readers : s.readers ≡ 0
  pub table : length s.reads ≡ seats

abbrev pub IsOpened : RwHooks → ℕ → Type 0
IsOpened s seats = IsFresh (state_of s) seats

-- the holds of a seat
abbrev pub holds_by : State → ℕ → Mode → ℕ
holds_by s i X = holds_of s.owner s.writes i
holds_by s i S = slice_index s.reads i
