use Rattle.std.proofs.Common.{rules}
use Rattle.example_guards.proofs.history_in_parts.parts.print_part.Goals as goal

pub returns-clause-printed : goal.returns-clause-printed
returns-clause-printed g c = search rules
