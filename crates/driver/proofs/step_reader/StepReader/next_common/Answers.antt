use Rattle.steps.specs.StepsText.{steps_form, steps_so_far}
use Rattle.driver.specs.StepReader.{common_act}
use Rattle.driver.proofs.ReadingAhead.{item_ahead, line_within}
use Rattle.driver.proofs.StepsAhead.{common_behind}
use Rattle.driver.proofs.step_reader.StepReader.next_common.Goals as goal

pub advance-requires-clause-within : goal.advance-requires-clause-within
advance-requires-clause-within c =
    let held = c.self.inside in
    let is =
    common_behind held.header held.count held.window.bytes c.in_ok-found.found c.in_ok-found.left
    (rw c.bytes.ensures.bytes at c.in_ok-found.ensures) in
    rw (← c.self.view_is) (line_within steps_form (steps_so_far held.header held.count) held.window.bytes
    (common_act c.in_ok-found.found) c.in_ok-found.left is)

pub returns-clause-next : goal.returns-clause-next
returns-clause-next c = λ left text steps were.
    let held = c.self.inside in
    let so_far = steps_so_far held.header held.count in
    let is =
    common_behind held.header held.count held.window.bytes c.in_ok-found.found c.in_ok-found.left
    (rw c.bytes.ensures.bytes at c.in_ok-found.ensures) in
    let here = rw (← c.self.view_is) at were in
    rw (c.advance.ensures, ← c.self.view_is)
    (item_ahead steps_form text so_far so_far.known held.window.bytes left
    steps (common_act c.in_ok-found.found) c.in_ok-found.left is (λ known. tt) here)
