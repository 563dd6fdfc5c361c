use Rattle.std.specs.Prelude.{[]}
use Rattle.history.specs.Start.{opening}
use Rattle.history.proofs.Answering.{results_legal}
use Rattle.laws.proofs.results.results_are_legal.Goals as goal

pub returns : goal.returns
returns c = record { opened = λ k steps. results_legal (opening k) [] steps tt; kept = results_legal }
