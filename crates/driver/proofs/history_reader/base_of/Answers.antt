use Rattle.std.proofs.Common.{ap, arith, refl, sym}
use Rattle.history.specs.Start.{Start}
use Rattle.history.proofs.OpeningBase.{based_opening}
use Rattle.driver.proofs.history_reader.base_of.Goals as goal

pub returns-clause-place : goal.returns-clause-place
returns-clause-place g c =
    record {
      lines = omega arith;
      folded = refl;
      count = refl;
      calls = sym (ap (λ (s : Start). s.calls) (based_opening c.args.head.now.header));
    }
