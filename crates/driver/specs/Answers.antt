-- The answers to the steps and trims of a text, and what is written of them.
use Rattle.std.specs.Prelude.{ℕ, ◌+◌, List, ◌++◌, Option, Result, Ok, Err, codes, length, reverse}
use Rattle.std.specs.Io.KnownBytes.{Appends, Keeps}
use Rattle.driver.specs.Below.{Entry, Base, based, calls, part_of, ended, counts_line, entry_lines, history_text, StepsHeader, StreamFault, WriteFailed, Memory, AppendsFront}
use Rattle.driver.specs.declared.form.Form.{Form}
use Rattle.driver.specs.declared.form.Form.TheVariants.{Replay, History}
use Rattle.driver.specs.ReplayText.{header_line}

-- The header; the base that trims left, and the entries after it, the newest first; and the lines of all answers.
pub record AllAnswers : Type 0 where
  pub header : StepsHeader
  pub base : Base
  pub entries : List Entry
  pub lines : List ℕ

-- the first line of the text that has the lines of answers, or of entries
abbrev pub first_line : Form → StepsHeader → List ℕ
first_line Replay h = header_line h
first_line History h = codes "aqs-history 1 " ++ part_of h.header

abbrev pub form_lines : Form → AllAnswers → List ℕ
form_lines Replay a = a.lines
form_lines History a = entry_lines 0 (reverse a.entries)

-- the end line counts the folded entries too
abbrev pub ended_line : AllAnswers → List ℕ
ended_line a = ended (counts_line (a.base.entries + length a.entries) (calls (based a.base) a.entries))

-- what follows the first line
abbrev pub text_behind : Form → AllAnswers → List ℕ
text_behind form a = form_lines form a ++ ended_line a

abbrev pub lines_text : Form → AllAnswers → List ℕ
lines_text form a = ended (first_line form a.header) ++ text_behind form a

-- what is written; a history text has the base in place of the folded entries
abbrev pub answers_text : Form → AllAnswers → List ℕ
answers_text Replay a = lines_text Replay a
answers_text History a = history_text a.base a.entries

-- what writing a text leaves in the sink: all of it, or its first bytes, or nothing if an allocation fails
abbrev pub Writes : Option (List ℕ) → Result (Unit {0}) StreamFault → Option (List ℕ) → List ℕ → Type 0
Writes held (Ok done) after text = Appends held after text
Writes held (Err WriteFailed) after text = AppendsFront held after text
Writes held (Err Memory) after text = Keeps held after
Writes held (Err fault) after text = ⊥
