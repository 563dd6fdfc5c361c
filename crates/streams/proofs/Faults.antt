-- A fault that was passed on.
use Rattle.std.proofs.Common.{◌≡◌, ℕ, List, Result, Ok, Err, ap}
use Rattle.std.proofs.lemmas.Bool.{false≢true}
use Rattle.std.specs.Result.{IsErr, IsErrAnd}
use Rattle.streams.specs.declared.fault.TextFault.{TextFault}
use Rattle.streams.specs.declared.fault.ReadFault.{ReadFault}
use Rattle.streams.specs.declared.fault.ReadFault.TheVariants.{Text}
use Rattle.streams.specs.Form.{Form}
use Rattle.streams.specs.Reading.{IsReading, Reads}

-- the error of a result
pub err_is : {T E : Type 0} (r : Result T E) (e : E) → IsErr r × IsErrAnd r (λ f. f ≡ e) → r ≡ Err e
err_is (Ok x) e passed = absurd (false≢true passed.0)
err_is {E = E} (Err f) e passed = ap (λ (x : E). Err x) passed.1

-- a fault of the text is what a reading answers
pub fault_passed : {H I T : Type 0} (form : Form H I) (Keeps : T → Type 0) (text : List ℕ)
    (r : Result T ReadFault) (fault : TextFault) → IsErr r × IsErrAnd r (λ e. e ≡ Text fault) →
    IsReading form text (Err fault)
    → Reads form Keeps text r
fault_passed form Keeps text r fault passed is = rw (err_is r (Text fault) passed) is
