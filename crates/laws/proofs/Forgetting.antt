-- Why a spoilt base is no fold.
use Rattle.std.proofs.Common.{◌≡◌, ℕ, true, false, [], ◌∷◌, Option, Some, refl}
use Rattle.laws.proofs.OutOfOrder.{refused_not_gave}
use Rattle.std.proofs.lemmas.Bool.{false≢true}
use Rattle.laws.specs.Below.{Entry, S, X, Base, based, folded, IsLegal}
use Rattle.history.specs.declared.entry.Word.TheVariants as word
use Rattle.history.specs.declared.fault.Fault.TheVariants as fault
use Rattle.history.specs.declared.step.Step.TheVariants as step
use Rattle.history.proofs.Entering.{Known, known}
use Rattle.laws.specs.Forgetful.{counted_out, forgets_a_permit, forgets_a_read, forgets_a_sleeper, forgets_the_count, gave_a_read, granted_first, moved, opened_latch, opened_lock, opened_read_write, opened_semaphore, passes, read_held, released_unheld, reverses_its_line, slept, took_a_permit, two_in_line}
use Rattle.laws.specs.OutOfTurn.{gave_first, taken}

not_none : ◌≡◌ {A = ℕ} 1 0 → ⊥
not_none q = cc

another : ◌≡◌ {A = Option ℕ} (Some 2) (Some 1) → ⊥
another q = cc

-- what is known of one legal entry after a base
one_known : (b : Base) (e : Entry) → IsLegal (based b) (e ∷ []) → Known (based b) [] e
one_known b e l = known (based b) [] l.0.0 e l.0.1

pub hold_legal : IsLegal (based (folded opened_lock taken)) gave_first
hold_legal = ((step.Give X 1, refl), tt)

pub hold_illegal : IsLegal (based opened_lock) gave_first → ⊥
hold_illegal l = refused_not_gave (one_known opened_lock _ l).1

pub moved_legal : IsLegal (based (folded opened_lock slept)) moved
moved_legal = ((step.Signal 0, refl), tt)

pub moved_illegal : IsLegal (based forgets_a_sleeper) moved → ⊥
moved_illegal l = not_none (one_known forgets_a_sleeper _ l).1

pub gave_legal : IsLegal (based (folded opened_read_write read_held)) gave_a_read
gave_legal = ((step.Give S 1, refl), tt)

pub gave_illegal : IsLegal (based forgets_a_read) gave_a_read → ⊥
gave_illegal l = refused_not_gave (one_known forgets_a_read _ l).1

pub took_legal : IsLegal (based (folded opened_semaphore released_unheld)) took_a_permit
took_legal = ((step.Acquire S 1, refl), tt)

pub took_illegal : IsLegal (based forgets_a_permit) took_a_permit → ⊥
took_illegal l = false≢true (one_known forgets_a_permit _ l).1

pub passes_legal : IsLegal (based (folded opened_latch counted_out)) passes
passes_legal = ((step.Acquire S 1, refl), tt)

pub passes_illegal : IsLegal (based forgets_the_count) passes → ⊥
passes_illegal l = false≢true (one_known forgets_the_count _ l).1

pub granted_legal : IsLegal (based (folded opened_lock two_in_line)) granted_first
granted_legal = ((step.Look, refl), tt)

pub granted_illegal : IsLegal (based reverses_its_line) granted_first → ⊥
granted_illegal l = another (one_known reverses_its_line _ l).2
