-- What a replay has answered, and what is left to answer.
use Rattle.std.specs.Prelude.{◌≡◌, List, ◌++◌}
use Rattle.driver.specs.Below.{Act, CoreView, outcome, StepsHeader}
use Rattle.driver.specs.Answers.{AllAnswers}
use Rattle.driver.specs.ReplayText.{Told, done_lines}
use Rattle.driver.specs.TextReader.{Progress}
use Rattle.driver.specs.inner.StepReader.{ReadMore}

-- the answers to these acts too, after what was told
unfoldable pub answers_with : StepsHeader → CoreView → Told → List Act → AllAnswers
answers_with header core told acts =
    let o = outcome core.base core.entries acts in
    record {
      header = header;
      base = o.base;
      entries = o.entries;
      lines = told.lines ++ done_lines told.count acts o.done;
    }

-- From one progress to the other these acts were read and answered. Whatever is left then, all answers are as
-- they were to be.
pub record Answered (old new : Progress StepsHeader Act) (core : CoreView) (told : Told) (core' : CoreView)
    (told' : Told) : Type 0 where
  pub acts : List Act
  pub read : ReadMore old acts new
  pub answers : (left : List Act) → answers_with old.so_far.header core told (acts ++ left)
      ≡ answers_with new.so_far.header core' told' left
  pub same : new.so_far.header ≡ old.so_far.header
  pub object : core'.header ≡ core.header
