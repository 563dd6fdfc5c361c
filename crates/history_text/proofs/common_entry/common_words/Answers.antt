use Rattle.history_text.proofs.CommonLines.{asked_begins}
use Rattle.history_text.proofs.common_entry.common_words.Goals as goal

pub returns-in-Some-clause-begins : goal.returns-in-Some-clause-begins
returns-in-Some-clause-begins c =
    let asked = c.in-Some.ensures in
    rw c.once.ensures (asked_begins c.args.text.now _ c.args.seat c.in-Some.word (
      c.in_ok-mode.mode,
      c.in_ok-mode.left,
    ) asked.0 asked.1 c.in_ok-mode.ensures.found)
