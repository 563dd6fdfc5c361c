-- A core as its callers see it, and how its fields represent that.
use Rattle.std.specs.Prelude.{◌≡◌, ℕ, true, ◌++◌, Option, Result, IsOk, IfOk, OnErr}
use Rattle.frame.specs.Below.{Entry, Mode, Fault, Answer, first_mode, ready, was_owed}
use Rattle.frame.specs.Core.{CoreView, IsOf, IsRecorded, IsTold, KeepsHolds, NamesBelow, made_by, places_behind, start_of}
use Rattle.frame.specs.Tidied.{HasTidied}

abbrev pub first_mode_of : CoreView → Option Mode
first_mode_of v = first_mode (start_of v) v.entries

abbrev pub ready_of : CoreView → Option ℕ
ready_of v = ready (start_of v) v.entries

-- an entry was recorded, or not; all that is known of it
pub record IsEntered (old : CoreView) (e : Entry) (r : Result Answer Fault) (new : CoreView) : Type 0 where
  pub recorded : IsRecorded old e r new
  pub told : IsTold old e.seat r new
  pub header : new.header ≡ old.header
  pub base : new.base ≡ old.base
  pub fault : OnErr r (new ≡ old)
  pub places : new.places ≡ places_behind old r
  pub refused : IfOk r (λ answer. KeepsHolds old e.seat answer new)
  pub owed : was_owed old.header.object e ≡ true → IsOk r
  pub grown : new.entries ≡ made_by r ++ old.entries
  pub own : IfOk r (λ answer. IsOf e.seat answer)
  pub names : IfOk r (λ answer. NamesBelow old.header.seats answer)
  pub tidied : IfOk r (λ answer. HasTidied e.seat answer)
