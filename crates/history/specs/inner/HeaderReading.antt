-- What the readers of a header's words return.
use Rattle.std.specs.Prelude.{ℕ, List, [], ◌∷◌, Option, None, Some, codes, bytes_eq, nat_le, ◌==◌, ◌&&◌, if◌then◌else◌, ℤ, pos, neg_ℤ}
use Rattle.history.specs.Types.{Header, Object, Lock, ReadWrite, Semaphore, Latch, Policy, Fair, NonFair, Strict, LEAST_CAP, MOST_AMOUNT, MOST_CONDITIONS, MOST_SEATS}
use Rattle.history.specs.Reading.{Words, ◌>>=◌, keyword_at, named_at, number_from, word_at}

abbrev pub policy_at : Words → Option (Policy × Words)
policy_at [] = None
policy_at (w ∷ ws) = if bytes_eq w (codes "fair") then Some (Fair, ws)
    else if bytes_eq w (codes "nonfair") then Some (NonFair, ws)
    else if bytes_eq w (codes "strict") then Some (Strict, ws) else None

-- a number of 32 bits, signed
unfoldable pub permits_from : List ℕ → Option ℤ
permits_from [] = None
permits_from (b ∷ bs) = if b == 45
    then (number_from bs >>= λ n. if nat_le 1 n && nat_le n 2147483648 then Some (neg_ℤ (pos n)) else None)
    else (number_from (b ∷ bs) >>= λ n. if nat_le n MOST_AMOUNT then Some (pos n) else None)

abbrev pub permits_at : Words → Option (ℤ × Words)
permits_at words = do
  w ← word_at words
  z ← permits_from w.0
  Some (z, w.1)

-- the rest of a lock's or read-write lock's header
unfoldable pub lock_at : (Policy → Object) → Words → Option (Header × Words)
lock_at object words = do
  policy ← policy_at words
  seats ← named_at (codes "seats") 1 MOST_SEATS policy.1
  conditions ← named_at (codes "conditions") 0 MOST_CONDITIONS seats.1
  cap ← named_at (codes "cap") LEAST_CAP 4294967295 conditions.1
  Some (record { object = object policy.0; seats = seats.0; conditions = conditions.0; cap = cap.0 }, cap.1)

unfoldable pub semaphore_at : Words → Option (Header × Words)
semaphore_at words = do
  policy ← policy_at words
  seats ← named_at (codes "seats") 1 MOST_SEATS policy.1
  name ← keyword_at (codes "permits") seats.1
  permits ← permits_at name.1
  cap ← named_at (codes "cap") LEAST_CAP 4294967295 permits.1
  Some (record { object = Semaphore policy.0 permits.0; seats = seats.0; conditions = 0; cap = cap.0 }, cap.1)

unfoldable pub latch_at : Words → Option (Header × Words)
latch_at words = do
  seats ← named_at (codes "seats") 1 MOST_SEATS words
  count ← named_at (codes "count") 0 MOST_AMOUNT seats.1
  cap ← named_at (codes "cap") LEAST_CAP 4294967295 count.1
  Some (record { object = Latch count.0; seats = seats.0; conditions = 0; cap = cap.0 }, cap.1)

unfoldable pub header_at : Words → Option (Header × Words)
header_at [] = None
header_at (w ∷ ws) = if bytes_eq w (codes "lock") then lock_at Lock ws
    else if bytes_eq w (codes "rw") then lock_at ReadWrite ws
    else if bytes_eq w (codes "semaphore") then semaphore_at ws
    else if bytes_eq w (codes "latch") then latch_at ws
    else None
