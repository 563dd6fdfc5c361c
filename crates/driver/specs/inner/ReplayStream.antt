-- The answers to a whole text.
use Rattle.std.specs.Prelude.{◌≡◌, ℕ, List, Option, IfSome}
use Rattle.driver.specs.declared.form.Form.{Form}
use Rattle.driver.specs.Answers.{AllAnswers, answers_text}
use Rattle.driver.specs.ReplayStream.{Replayed}

-- this is what is written for the text, if the text is known
abbrev pub IsAnswerTo : Form → Option (List ℕ) → List ℕ → Type 0
IsAnswerTo form text answer = IfSome text (λ t. Replayed form t (λ written. answer ≡ written))

-- the same in each form, for what is written for these answers
abbrev pub AreAnswersTo : Option (List ℕ) → AllAnswers → Type 0
AreAnswersTo text answers = (form : Form) → IsAnswerTo form text (answers_text form answers)
