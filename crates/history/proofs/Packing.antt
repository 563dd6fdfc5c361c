-- Entries in eight bytes.
use Rattle.std.proofs.Common.{◌≡◌, ℕ, ◌+◌, ◌*◌, ◌/◌, ◌%◌, ◌<◌, refl, ap, ◌∙◌, arith, get_or}
use Rattle.history.specs.Prelude.{Entry, X}
use Rattle.history.specs.declared.entry.End.TheVariants as end
use Rattle.history.specs.declared.entry.Word.TheVariants.{Got, Refused}
use Rattle.history.specs.declared.fault.Fault.{Fault}
use Rattle.history.specs.declared.fault.Fault.TheVariants.{NotOwner, TooManyHolds, TooManyPermits, Interrupted, HoldsRead, OutOfPhase, NoSuchCondition, BadAmount, WrongMode, HistoryFull, OutOfMemory, TrimFull}
use Rattle.history.specs.Fault.{fault_number}
use Rattle.history.specs.inner.Packed.{words, modes, ends, unpacked}

pub refused_again : (f : Fault) → get_or words (13 + fault_number f) Got ≡ Refused f
refused_again NotOwner = refl
refused_again TooManyHolds = refl
refused_again TooManyPermits = refl
refused_again Interrupted = refl
refused_again HoldsRead = refl
refused_again OutOfPhase = refl
refused_again NoSuchCondition = refl
refused_again BadAmount = refl
refused_again WrongMode = refl
refused_again HistoryFull = refl
refused_again OutOfMemory = refl
refused_again TrimFull = refl

-- what was packed is the entry again
pub packed_again : (e : Entry) → (w m d : ℕ) → get_or words w Got ≡ e.word → get_or modes m X ≡ e.mode → m < 2
    → get_or ends d end.None ≡ e.end → d < 4 → unpacked e.n e.seat (w * 8 + m * 4 + d) e.at ≡ e
packed_again e w m d word mode m-small ends_so d-small =
    let k = w * 8 + m * 4 + d in
    let w_is : k / 8 ≡ w = omega (arith, m-small, d-small) in
    let m_is : k / 4 % 2 ≡ m = omega (arith, m-small, d-small) in
    let d_is : k % 4 ≡ d = omega (arith, m-small, d-small) in
    let words_so : get_or words (k / 8) Got ≡ e.word = ap (λ i. get_or words i Got) w_is ∙ word in
    let modes_so : get_or modes (k / 4 % 2) X ≡ e.mode = ap (λ i. get_or modes i X) m_is ∙ mode in
    let end_so : get_or ends (k % 4) end.None ≡ e.end = ap (λ i. get_or ends i end.None) d_is ∙ ends_so in
    grind (arith, words_so, modes_so, end_so)
