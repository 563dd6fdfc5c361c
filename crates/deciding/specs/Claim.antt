-- What a claim has of the numbers that decide what a seat could acquire.
use Rattle.std.specs.Prelude.{◌≡◌, ℕ, true, nat_lt}
use Rattle.history.specs.Could.{is_none_or, is_seat}
use Rattle.history.specs.Counts.{Counts, owner, readers}
use Rattle.history.specs.Object.{is_latch}
use Rattle.deciding.specs.Below.{X, S, ReadWrite, is_lock, is_semaphore}
use Rattle.history.specs.declared.header.Policy.{Policy}
use Rattle.deciding.specs.declared.claim.Claim.{Claim}

-- The claim has what its object keeps: a lock its owner, a read-write lock its readers too, a semaphore its free
-- permits, a latch its count.
pub record IsClaim (k : Counts) (i : ℕ) (c : Claim) : Type 0 where
  pub object : k.object ≡ c.object
  pub owns : is_lock k.object ≡ true → is_seat (owner k) i ≡ c.owns
  pub admitted : is_lock k.object ≡ true → is_none_or (owner k) i ≡ c.admitted
  pub own : is_lock k.object ≡ true → k.held i X ≡ c.own
  pub reads : (p : Policy) → k.object ≡ ReadWrite p → nat_lt 0 (k.held i S) ≡ c.reads
  pub readers : (p : Policy) → k.object ≡ ReadWrite p → readers k ≡ c.readers
  pub free : is_semaphore k.object ≡ true → k.free ≡ c.free
  pub count : is_latch k.object ≡ true → k.count ≡ c.count
