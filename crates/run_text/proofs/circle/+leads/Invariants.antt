use Rattle.std.proofs.Common.{length}
use Rattle.run_text.proofs.circle.+leads.Given as goal

abbrev pub decreases-leads : goal.decreases-leads
decreases-leads l = length l.links.now
