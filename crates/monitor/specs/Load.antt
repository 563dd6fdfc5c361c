-- What a load knows of a turn of the lock.
use Rattle.std.specs.Prelude.{◌≡◌, ◌≢◌, ◌<◌, ◌⊎◌, ℕ, Bool, true, false, List, [], ℤ, pos, ◌+ℤ◌, ◌-ℤ◌, ◌≤ℤ◌, ◌≤◌, Result, Ok, Err}
use Rattle.monitor.specs.Below.{Mode, X, S, Header, Word, Fault, Step, Await, Give, Counts, counts, free, held, is_lock, is_semaphore, opening, CoreView, start_of, Entry}
use Rattle.history.specs.declared.entry.Word.TheVariants as word
use Rattle.monitor.specs.Shown.{Shown}
use Rattle.monitor.specs.declared.load.Holds.{Holds}

-- the holds of a pass, by its own entries alone
abbrev pub holds_of : Shown → Mode → ℕ
holds_of p m = held (opening p.lock.header) p.mine p.seat m

-- the holds of a seat by these entries of its own
abbrev pub holds_by : Header → ℕ → List Entry → Mode → ℕ
holds_by k i es m = held (opening k) es i m

-- the holds of a seat of a core
abbrev pub holds_in : CoreView → ℕ → Mode → ℕ
holds_in v i m = held (start_of v) v.entries i m

-- the permits that would be free if no pass but this one had stepped, by its own entries alone
abbrev pub free_of : Shown → ℤ
free_of p = free (opening p.lock.header) p.mine

abbrev pub AreOf : Holds → (Mode → ℕ) → Type 0
AreOf h f = (h.exclusive ≡ f X) × (h.shared ≡ f S)

-- the counts of an object as it is opened
abbrev pub opened_counts : Header → Counts
opened_counts k = counts (opening k) []

-- one seat at most has exclusive holds, and nobody else reads beside it
pub record IsOneOwner (k : Counts) : Type 0 where
  pub one : (a b : ℕ) → 0 < k.held a X → 0 < k.held b X → a ≡ b
  pub alone : (a b : ℕ) → 0 < k.held a X → 0 < k.held b S → a ≡ b

-- how many permits a step gives back
abbrev pub given_by : Step → ℕ
given_by (Give m n) = n
given_by _ = 0

-- The free permits of a semaphore after a step: as many as before, or fewer by what was taken, which was free, or
-- more by what was given back. An acquire that has what it asked for, a grant and a drain take.
abbrev pub IsFreeAfter : Step → ℤ → ℤ → Type 0
IsFreeAfter step had left =
    (left ≡ had)
    ⊎ ((given_by step ≡ 0) × ((n : ℕ) × (left ≡ had -ℤ pos n)) × (pos 0 ≤ℤ left))
    ⊎ (left ≡ had +ℤ pos (given_by step))

-- By this step a seat with these holds may let its last exclusive hold go. A release of a lock gives back one hold.
abbrev pub LetsGo : Step → (Mode → ℕ) → Type 0
LetsGo (Give X n) h = h X ≤ 1
LetsGo (Await c) h = Unit {0}
LetsGo _ h = ⊥

-- one step of a seat
pub record IsTurn (i : ℕ) (k l : Counts) : Type 0 where
  pub object : l.object ≡ k.object
  pub seats : l.seats ≡ k.seats
  pub others : (j : ℕ) (m : Mode) → j ≢ i → l.held j m ≡ k.held j m
  pub before : is_lock k.object ≡ true → IsOneOwner k
  pub after : is_lock k.object ≡ true → IsOneOwner l
  pub step : Step
  pub free : is_semaphore k.object ≡ true → IsFreeAfter step k.free l.free
  pub ends : is_lock k.object ≡ true → 0 < k.held i X → l.held i X ≡ 0 → LetsGo step (k.held i)

-- the free permits, where there are any
abbrev pub IsFree : ℤ → Counts → Type 0
IsFree free k = is_semaphore k.object ≡ true → free ≡ k.free

-- Whoever gives permits of a counted load back brings an item for each, and else brings none.
abbrev pub Brings : Bool → ℕ → ℕ → Type 0
Brings true has n = has ≡ n
Brings false has n = Unit {0}

-- What one carries stays fit to lie under the lock. Of a counted load one has as many items more as permits fewer are
-- free. Where as many are free, it is as it was.
abbrev pub Moves : {A : Type 0} → (A → Type 0) → Bool → (A → ℕ) → A → ℤ → A → ℤ → Type 0
Moves fit true amount x f y g =
    (pos (amount y) +ℤ g ≡ pos (amount x) +ℤ f) × (g ≡ f → y ≡ x) × (fit x → fit y)
Moves fit false amount x f y g = fit x → fit y

-- A turn of a pass: its load moved, and is as it was where neither the holds of the pass nor the free permits changed.
abbrev pub Trades : {A : Type 0} → (A → Type 0) → Bool → (A → ℕ) → A → Shown → A → Shown → Type 0
Trades fit counted amount x old y new =
    Moves fit counted amount x (free_of old) y (free_of new)
    × (holds_of new ≡ holds_of old → free_of new ≡ free_of old → y ≡ x)

-- an entry that refuses what was asked
abbrev pub is_refused : Word → Bool
is_refused (word.Refused f) = true
is_refused _ = false

-- the call failed at once: nothing was recorded, or a refusal
abbrev pub was_refused : Result Entry Fault → Bool
was_refused (Ok e) = is_refused e.word
was_refused (Err f) = true
