-- What is done at once.
use Rattle.std.specs.Prelude.{◌≡◌, ℕ, None, Ok, Some}
use Rattle.frame.specs.Below.{refused_as, Entry, Mode, X, Step, Acquire, Try, TryFair, Give, entry_for, gave, plain}
use Rattle.history.specs.declared.entry.Word.TheVariants as word
use Rattle.frame.specs.Core.{CoreView, counts_of, start_of, IsAdded}

-- the object has such a step, and its seat releases
pub record Gives (v : CoreView) (i : ℕ) (step : Step) (m : Mode) (n : ℕ) : Type 0 where
  pub admitted : refused_as v.header step ≡ None
  pub gives : gave v.header.object (counts_of v) i m n ≡ word.Gave

-- the entry of a step that is done at once; no other steps are
abbrev pub entry_at_once : ℕ → Step → Entry
entry_at_once i (Acquire m n) = plain i word.Got m n
entry_at_once i (TryFair m n) = plain i word.Got m n
entry_at_once i (Try m n) = plain i word.TryGot m n
entry_at_once i (Give m n) = plain i word.Gave m n
entry_at_once i _ = plain i word.Got X 0

-- the entry of a step was added while the queue is empty, and names nobody
pub record IsAtOnce (old : CoreView) (i : ℕ) (step : Step) (e : Entry) (new : CoreView) : Type 0 where
  pub is : e ≡ entry_at_once i step
  pub made : entry_for (start_of old) old.entries i step ≡ Ok (Some e)
  pub added : IsAdded old e (Ok None) new
