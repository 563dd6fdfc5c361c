-- A call that failed at once has left the value.
use Rattle.std.proofs.Common.{◌≡◌, ◌≢◌, Bool, true, Result, Ok, Err, IfErr, refl, sym, subst}
use Rattle.history.specs.declared.entry.End.{End}
use Rattle.history.specs.declared.entry.End.TheVariants as end
use Rattle.history.specs.declared.entry.Word.{Word}
use Rattle.history.specs.declared.entry.Word.TheVariants as word
use Rattle.history.specs.declared.fault.Fault.TheVariants.{Interrupted}
use Rattle.monitor.specs.Load.{is_refused, was_refused}
use Rattle.monitor_fronts.specs.Returned.{ended_well, whether_by}
use Rattle.guarded.specs.Below.{Entry, Fault, whether_of}

module _ {A : Type 0} (x y : A) where
  abbrev Stays : Result Bool Fault → Type 0
  Stays r = IfErr r (λ fault. fault ≢ Interrupted → y ≡ x)

  ended_so : (d : End) → Stays (ended_well d)
  ended_so end.Interrupt = λ other. absurd (other refl)
  ended_so end.Timeout = tt
  ended_so _ = tt

  word_so : (w : Word) (d : End) → (is_refused w ≡ true → y ≡ x) → Stays (whether_by w d)
  word_so (word.Refused f) d stays = λ _. stays refl
  word_so word.Missed d stays = tt
  word_so _ d stays = ended_so d

  reply_so : (reply : Result Entry Fault) → (was_refused reply ≡ true → y ≡ x) → Stays (whether_of reply)
  reply_so (Err f) stays = λ _. stays refl
  reply_so (Ok e) stays = word_so e.word e.end stays

  -- unless an interrupt ended it
  pub stays_so : (r : Result Bool Fault) (reply : Result Entry Fault) → r ≡ whether_of reply →
      (was_refused reply ≡ true → y ≡ x) → Stays r
  stays_so r reply is stays = subst Stays (sym is) (reply_so reply stays)
