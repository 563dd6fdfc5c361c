use Rattle.history.proofs.WideNumbers.{is_wide_from}
use Rattle.history.proofs.number.wide_of.Goals as goal

pub returns-clause-is : goal.returns-clause-is
returns-clause-is c =
    is_wide_from c.args.bytes.now c.wide_value.result c.wide_value.ensures.found
    c.wide_value.ensures.none
