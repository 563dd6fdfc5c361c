-- What is written for what is read.
use Rattle.std.specs.Prelude.{◌≡◌, ℕ, Bool, List, Option, Result}
use Rattle.driver.specs.Below.{Act, Outcome, Entry, Base, based, IsLegal, AreSeated, IsInOrder, IsFairOrder, history_text, IsText, steps_form, StepsHeader, StreamFault, IsReadOut, Streams}
use Rattle.driver.specs.declared.form.Form.{Form}
use Rattle.driver.specs.declared.form.Form.TheVariants.{Replay, History}
use Rattle.driver.specs.Answers.{AllAnswers, answers_text}
use Rattle.driver.specs.ReplayText.{behind_acts, replay_text}
use Rattle.driver.specs.Streaming.{Streamed}
use Rattle.driver.specs.TextReader.{Progress, OfText}

-- the history text after these acts, with the base of the last trim
abbrev pub left_text : Outcome → List ℕ
left_text o = history_text o.base o.entries

abbrev pub answer_text : Form → StepsHeader → List Act → List ℕ
answer_text Replay h acts = replay_text h acts
answer_text History h acts = left_text (behind_acts h acts)

-- The entries are legal from their base. Nobody in the queue is overtaken by a waiter that joined later.
-- Nobody is overtaken by a new acquire that isn't reentrant in a fair or strict object, nor by such a try in
-- a strict one.
pub record IsLawful (b : Base) (h : List Entry) : Type 0 where
  pub legal : IsLegal (based b) h
  pub seated : AreSeated (based b) h
  pub in_order : IsInOrder (based b) h
  pub in_fair_order : IsFairOrder (based b) h

-- The text is a steps text, and this is written for it. The history after its acts is lawful.
pub record Replayed (form : Form) (text : List ℕ) (Written : List ℕ → Type 0) : Type 0 where
  pub header : StepsHeader
  pub acts : List Act
  pub is : IsText steps_form text header acts
  pub lawful : IsLawful (behind_acts header acts).base (behind_acts header acts).entries
  pub written : Written (answer_text form header acts)

-- this is what is written for each text whose header was read
abbrev pub IsAnswerBehind : Form → Progress StepsHeader Act → List ℕ → Type 0
IsAnswerBehind form p answer = OfText steps_form p (λ t. Replayed form t (λ written. answer ≡ written))

-- in each form, what is written for these answers is what must be written for the text
abbrev pub AreAnswersBehind : Progress StepsHeader Act → AllAnswers → Type 0
AreAnswersBehind p answers = (form : Form) → IsAnswerBehind form p (answers_text form answers)

-- what a replay writes
abbrev pub WritesReplay : Form → Option (List ℕ) → Option (List ℕ) → Option (List ℕ) →
    Result (Unit {0}) StreamFault → Type 0
WritesReplay form = Streams steps_form (λ text done Written. Replayed form text Written)

-- how far a replay reads
abbrev pub StepsReadOut : Option (List ℕ) → Result (Unit {0}) StreamFault → Option (List ℕ) → Type 0
StepsReadOut = IsReadOut steps_form

-- what a replay leaves
abbrev pub Replays : Form → Option (List ℕ) → Option (List ℕ) → Result (Unit {0}) StreamFault →
    Option (List ℕ) → Option (List ℕ) → Bool → Bool → Type 0
Replays form = Streamed steps_form (λ text done Written. Replayed form text Written)
