use Rattle.history.proofs.Numbers.{is_number_from}
use Rattle.history.proofs.number.number_of.Goals as goal

pub returns-clause-is : goal.returns-clause-is
returns-clause-is c =
    is_number_from c.args.bytes.now c.decimal_value.result c.decimal_value.ensures.found
    c.decimal_value.ensures.none
