-- What the fields of a lock's hooks represent.
use Rattle.std.specs.Prelude.{◌≡◌, ℕ, Option, None}
use Rattle.history.specs.declared.entry.Mode.TheVariants.{S}
use Rattle.history.specs.declared.header.Object.{Object}
use Rattle.history.specs.declared.header.Object.TheVariants.{Lock}
use Rattle.history.specs.declared.header.Policy.{Policy}
use Rattle.history.specs.Counts.{Counts}
use Rattle.frame.specs.Owners.{Owns}
use Rattle.reentrant.specs.declared.lock.LockHooks.{LockHooks}

-- The counts are those of a lock with this owner and its holds.
pub record MatchesBy (p : Policy) (o : Option ℕ) (n : ℕ) (k : Counts) : Type 0 where
  pub object : k.object ≡ Lock p
  pub owns : Owns o n k
  pub none_shared : (i : ℕ) → k.held i S ≡ 0

abbrev pub Matches : LockHooks → Counts → Type 0
Matches s k = MatchesBy s.policy s.owner s.holds k

abbrev pub lock_of : LockHooks → Object
lock_of s = Lock s.policy

-- nobody owns, whatever the number of seats
abbrev pub IsOpened : LockHooks → ℕ → Type 0
IsOpened s seats = s.owner ≡ None
