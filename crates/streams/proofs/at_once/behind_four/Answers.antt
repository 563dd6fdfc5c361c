use Rattle.std.proofs.Common.{rules}
use Rattle.streams.proofs.at_once.behind_four.Goals as goal

pub returns-then-bytes-four : goal.returns-then-bytes-four
returns-then-bytes-four c = search rules

pub returns-else-bytes-four : goal.returns-else-bytes-four
returns-else-bytes-four c = search rules
