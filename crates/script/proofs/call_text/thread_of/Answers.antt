use Rattle.std.proofs.Common.{◌≡◌, Some, arith, ap, ◌∙◌}
use Rattle.std.proofs.lemmas.Option.{same_Some}
use Rattle.history.specs.Reading.{number_from}
use Rattle.history.proofs.Numbers.{number_again}
use Rattle.script.proofs.call_text.thread_of.Goals as goal

pub returns-else-thread-threads-clause-none : goal.returns-else-thread-threads-clause-none
returns-else-thread-threads-clause-none c = λ t few is.
    let read : Some c.in_ok-thread.thread ≡ Some t =
    c.in_ok-thread.ensures.is ∙ ap number_from is ∙ number_again t (omega (arith, few, c.requires)) in
    let one = same_Some c.in_ok-thread.thread t read in
    omega (arith, few, one, c.if-thread-threads.false)
