-- What is written for a steps text.
use Rattle.std.proofs.Common.{◌≡◌, ℕ, List, Option, None, Some, Result, Ok, Err, subst}
use Rattle.std.specs.Io.KnownBytes.{Appends}
use Rattle.driver.specs.Below.{StreamFault, Text, ReadFailed, WriteFailed, Memory, AppendsFront}
use Rattle.driver.specs.Prelude.{Form, AllAnswers, Writes, answers_text, Replayed, WritesReplay}
use Rattle.driver.specs.inner.ReplayStream.{AreAnswersTo}

-- what is written, said in another way
rewritten : (form : Form) (text all : List ℕ) (Written : List ℕ → Type 0) →
    Replayed form text (λ written. all ≡ written) → Written all → Replayed form text Written
rewritten form text all Written r w =
    record {
      header = r.header;
      acts = r.acts;
      is = r.is;
      lawful = r.lawful;
      written = subst Written r.written w;
    }

-- the answers are written
pub replays : (form : Form) (left old new : Option (List ℕ)) (answers : AllAnswers)
    (r : Result (Unit {0}) StreamFault) → AreAnswersTo left answers →
    Writes old r new (answers_text form answers) → WritesReplay form left old new r
replays form None old new answers (Ok done) are w = tt
replays form (Some text) old new answers (Ok done) are w =
    rewritten form text _ (Appends old new) (are form) w
replays form None old new answers (Err WriteFailed) are w = tt
replays form (Some text) old new answers (Err WriteFailed) are w =
    (tt, rewritten form text _ (AppendsFront old new) (are form) w)
replays form left old new answers (Err Memory) are w = w
replays form left old new answers (Err ReadFailed) are w = absurd w
replays form left old new answers (Err (Text fault)) are w = absurd w
