-- What the hooks' results mean.
use Rattle.std.specs.Prelude.{◌≡◌, ◌≢◌, ℕ, ◌<◌, ◌≤◌, ◌==◌, nat_lt, Bool, true, false, ◌||◌, not, if◌then◌else◌, Option, Some, None, Result, Ok, Err, [], ℤ, pos}
use Rattle.frame.specs.Below.{Mode, X, S, Word, Fault, Object, Lock, ReadWrite, Semaphore, Latch, could, is_seat, max_holds, max_shared, Counts, counts, owner, readers, max_amount, is_lock, is_semaphore, opening, gave, at_least_none}
use Rattle.history.specs.declared.entry.Word.TheVariants as word
use Rattle.history.specs.declared.fault.Fault.TheVariants as fault
use Rattle.frame.specs.declared.hooks.Line.{Line}
use Rattle.frame.specs.declared.hooks.Line.TheVariants.{Empty, FirstX, FirstS}
use Rattle.frame.specs.declared.hooks.Gave.{Gave}
use Rattle.frame.specs.declared.hooks.Gave.TheVariants as gave_answers
use Rattle.frame.specs.declared.hooks.Taken.{Taken}
use Rattle.frame.specs.declared.hooks.Taken.TheVariants as take_answers

-- the mode that the head of the queue asks for
abbrev pub line_mode : Line → Option Mode
line_mode Empty = None
line_mode FirstX = Some X
line_mode FirstS = Some S

-- Counts that are alike in what their object has: free permits count for a semaphore alone.
pub record AreAlike (k l : Counts) : Type 0 where
  pub object : l.object ≡ k.object
  pub seats : l.seats ≡ k.seats
  pub held : (i : ℕ) (m : Mode) → l.held i m ≡ k.held i m
  pub free : is_semaphore k.object ≡ true → l.free ≡ k.free
  pub count : l.count ≡ k.count

-- the counts of an object as opened
abbrev pub opening_counts : Object → ℕ → Counts
opening_counts o seats = counts (opening (record { object = o; seats = seats; conditions = 0; cap = 0 })) []

-- Nobody except a seat could acquire in a mode, or in any mode. This is required of the seats 0 to 255 and
-- the amounts 0 to 2147483647.
abbrev pub NobodyElseIn : Mode → Counts → ℕ → Type 0
NobodyElseIn m k who = (j n : ℕ) → j < 256 → n ≤ max_amount → j ≢ who → could k j m n ≡ false

abbrev pub NobodyElse : Counts → ℕ → Type 0
NobodyElse k who = (m : Mode) → NobodyElseIn m k who

-- nobody could acquire who couldn't before
abbrev pub NobodyNew : Counts → Counts → Type 0
NobodyNew old new =
    (j : ℕ) (m : Mode) (n : ℕ) → j < 256 → n ≤ max_amount → could old j m n ≡ false → could new j m n ≡ false

-- nobody except a seat could acquire who couldn't before
abbrev pub NobodyElseNew : Counts → Counts → ℕ → Type 0
NobodyElseNew old new who =
    (j : ℕ) (m : Mode) (n : ℕ) → j < 256 → n ≤ max_amount → j ≢ who → could old j m n ≡ false →
    could new j m n ≡ false

-- the word of a release that succeeded, and of one that failed
abbrev pub gives_of : Word → Result Gave Fault → Type 0
gives_of word.Gave (Ok g) = Unit {0}
gives_of word.Counted (Ok g) = Unit {0}
gives_of w (Ok g) = ⊥
gives_of w (Err f) = w ≡ word.Refused f

-- a release succeeds or fails as its word says
abbrev pub gives : Counts → ℕ → Mode → ℕ → Result Gave Fault → Type 0
gives k i m n r = gives_of (gave k.object k i m n) r

-- What an acquire returns, by the counts after it. It is Last for a lock and for a write. It is also Last for
-- a read if all seats together are at the limit of reads, or if the reader owns. It is More for permits and
-- gates, since a request may be for 0.
abbrev pub take_answer_of : Object → Counts → ℕ → Mode → Taken
take_answer_of (Lock policy) k i m = take_answers.Last
take_answer_of (ReadWrite policy) k i X = take_answers.Last
take_answer_of (ReadWrite policy) k i S =
    if (readers k == max_shared) || is_seat (owner k) i then take_answers.Last else take_answers.More
take_answer_of (Semaphore policy permits) k i m = take_answers.More
take_answer_of (Latch opening) k i m = take_answers.More

abbrev pub take_answer : Counts → ℕ → Mode → Taken
take_answer k i m = take_answer_of k.object k i m

abbrev pub open_where : Bool → Gave
open_where b = if b then gave_answers.Open else gave_answers.Kept

-- What a release returns, by the counts before it. It is Open at the last hold, for a read also at the limit
-- of reads, for permits always, for a latch at its last count.
abbrev pub give_answer_of : Object → Counts → ℕ → Mode → ℕ → Gave
give_answer_of (Lock policy) k i m n = open_where (k.held i m == 1)
give_answer_of (ReadWrite policy) k i X n = open_where (k.held i X == 1)
give_answer_of (ReadWrite policy) k i S n = open_where ((readers k == 1) || (readers k == max_shared))
give_answer_of (Semaphore policy permits) k i m n = gave_answers.Open
give_answer_of (Latch opening) k i m n = open_where (k.count == 1)

abbrev pub give_answer : Counts → ℕ → Mode → ℕ → Gave
give_answer k i m n = give_answer_of k.object k i m n

-- how many holds an owner releases to wait on a condition, or why it can't
abbrev pub let_go_answer : Counts → ℕ → Result ℕ Fault
let_go_answer k i =
    if not (is_lock k.object) then Err fault.NotOwner
    else if not (is_seat (owner k) i) then Err fault.NotOwner
    else if nat_lt 0 (k.held i S) then Err fault.HoldsRead
    else Ok (k.held i X)

-- the greatest number of exclusive holds of one seat
abbrev pub hold_limit : Object → ℕ
hold_limit (Lock policy) = max_holds
hold_limit (ReadWrite policy) = max_shared
hold_limit _ = 0

-- a seat that could acquire X, has no hold of it, and may have its holds again
pub record IsRestorable (k : Counts) (i n : ℕ) : Type 0 where
  pub seat : i < k.seats
  pub could : could k i X 1 ≡ true
  pub none_held : k.held i X ≡ 0
  pub some : 1 ≤ n
  pub most : n ≤ hold_limit k.object

abbrev pub drain_answer_of : Object → Counts → ℕ
drain_answer_of (Semaphore policy permits) k = at_least_none k.free
drain_answer_of _ k = 0

abbrev pub drain_answer : Counts → ℕ
drain_answer k = drain_answer_of k.object k

abbrev pub level_by : Object → Counts → ℤ
level_by (Semaphore policy permits) k = k.free
level_by (Latch opening) k = pos k.count
level_by _ k = pos 0

abbrev pub level_of : Counts → ℤ
level_of k = level_by k.object k
