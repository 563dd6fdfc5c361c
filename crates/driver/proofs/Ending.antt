-- What a stream leaves that doesn't answer its text.
use Rattle.std.proofs.Common.{◌≡◌, ◌⊎◌, ◌↔◌, ℕ, Bool, false, List, [], Option, Result, Ok, Err, IfSome, OnOk, IsErrOf, IsTrue, arith}
use Rattle.std.proofs.KnownBytes.{Keeps-refl}
use Rattle.std.specs.Result.{IfErr}
use Rattle.std.specs.Io.KnownBytes.{IsAtEnd}
use Rattle.driver.specs.Below.{Form, StreamFault, Memory, ReadFailed, WriteFailed, IsReadNoFurther, IsReadOut, IsReadTo, Streams, IsOfReading, IsToldFor, IsTooLong}
use Rattle.driver.specs.Prelude.{Writes, IsFaultOf, IsPartLeft, Progress, WereRead}
use Rattle.driver.specs.TextReader.{IsFaultOn}
use Rattle.driver.proofs.ReadingAhead.{too_long}

-- ---- after a header

-- of the text of which the header was read
pub fault_of : {H I T : Type 0} (form : Form H I) (text : Option (List ℕ)) (first : Progress H I)
    (left : Option (List ℕ)) (r : Result T StreamFault) → WereRead form text first [] →
    IfErr r (IsFaultOn form first left) → IfErr r (IsFaultOf form text left)
fault_of form text first left r were err = grind (arith, were)

pub memory_left : {H I T : Type 0} (form : Form H I) (text : Option (List ℕ)) (first : Progress H I)
    (left : Option (List ℕ)) (r : Result T StreamFault) → WereRead form text first [] →
    OnOk r (IsFaultOn form first left Memory) → OnOk r (IsReadNoFurther form text left)
memory_left form text first left r were memory = grind (arith, were)

-- ---- what is returned at the end

-- what was written, of a text that was read out
pub written_out : {H I : Type 0} (form : Form H I) (text left held after : Option (List ℕ)) (all : List ℕ)
    (r : Result (Unit {0}) StreamFault) → Writes held r after all → IsAtEnd left →
    IsReadNoFurther form text left → IsReadOut form text r left
written_out form text left held after all r w end further = grind arith

-- the reading after a fault of the text failed, or its reads can't be counted
counted_out : {H I : Type 0} (T : Type 0) (form : Form H I) (text left after : Option (List ℕ))
    (returned : StreamFault) →
    IsOfReading returned → IsPartLeft text left → (returned ≡ Memory → IfSome left IsTooLong) →
    IsReadOut {T = T} form text (Err returned) after
counted_out T form text left after returned of part long = grind (arith, too_long form text left after)

-- what was returned for a fault
pub fault_out : {H I : Type 0} (T : Type 0) (form : Form H I) (text left after : Option (List ℕ))
    (fault returned : StreamFault)
    → IsFaultOf form text left fault → IsToldFor fault returned →
    (returned ≡ Memory → (fault ≡ Memory) ⊎ IfSome left IsTooLong) → (fault ≡ Memory → after ≡ left) →
    IsReadTo returned after → IsReadOut {T = T} form text (Err returned) after
fault_out T form text left after fault returned err same memory still to =
    grind (arith, counted_out T form text left after returned)

-- nothing was written for it
pub fault_streams : {H I T : Type 0} (form : Form H I) (Answers : List ℕ → T → (List ℕ → Type 0) → Type 0)
    (text left held : Option (List ℕ)) (fault returned : StreamFault) → IsFaultOf form text left fault →
    IsToldFor fault returned → Streams form Answers text held held (Err returned)
fault_streams form Answers text left held fault returned err same = grind (arith, Keeps-refl held)

-- and no write of it failed
pub fault_unwritten : {H I : Type 0} (T : Type 0) (form : Form H I) (text left : Option (List ℕ))
    (fault returned : StreamFault) (failed : Bool) → IsFaultOf form text left fault → IsToldFor fault returned →
    failed ≡ false → IsErrOf {T = T} (Err returned) WriteFailed ↔ IsTrue failed
fault_unwritten T form text left fault returned failed err same still = grind arith

-- what was read of an answer, and the writes of it
pub read_still : {T U : Type 0} (x : T) (r : Result U StreamFault) (failed : Bool) →
    IsErrOf (Ok x) ReadFailed ↔ IsTrue failed → (IsErrOf r ReadFailed → ⊥) → IsErrOf r ReadFailed ↔ IsTrue failed
read_still x r failed was unread = grind arith

pub written_unread : (held after : Option (List ℕ)) (all : List ℕ) (r : Result (Unit {0}) StreamFault) →
    Writes held r after all → IsErrOf r ReadFailed → ⊥
written_unread held after all r w is = grind arith
