-- Steps texts: their form, and what reading one returns.
use Rattle.std.specs.Prelude.{ℕ, ◌<◌, ◌^◌, List, length, Result, Ok}
use Rattle.steps.specs.Below.{Act, IsInRange, ReadFault, Form, IsReading, SoFar}
use Rattle.streams.specs.Reading as reading
use Rattle.steps.specs.declared.header.StepsHeader.{StepsHeader}
use Rattle.steps.specs.declared.steps_text.StepsText.{StepsText}
use Rattle.steps.specs.StepLines.{header_line, act_line, end_line, IsAct}

-- a header of any object, the steps of its seats and, in format 2, trims, all without numbers, and how many
-- there are, at most 4294967295
abbrev pub steps_form : Form StepsHeader Act
steps_form =
    record {
      IsHeader = λ h. IsInRange h.header;
      header_line = header_line;
      IsItem = λ h before act. IsAct h act;
      item_line = act_line;
      MayEnd = λ h acts. length acts < 2 ^ 32;
      end_line = λ acts. end_line (length acts);
    }

-- What a reader of steps knows of the acts that it has read: how many there are.
abbrev pub steps_so_far : StepsHeader → ℕ → SoFar StepsHeader Act
steps_so_far header count = record { header = header; count = count; known = λ acts. Unit {0} }

-- what a call returns: the reading of the text, or lack of memory
abbrev pub Reads : List ℕ → Result StepsText ReadFault → Type 0
Reads text = reading.Reads steps_form (λ t. IsReading steps_form text (Ok (t.header, t.acts.items))) text
