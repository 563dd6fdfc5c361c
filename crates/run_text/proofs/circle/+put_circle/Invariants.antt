use Rattle.std.proofs.Common.{length}
use Rattle.run_text.proofs.circle.+put_circle.Given as goal

abbrev pub decreases-put_circle : goal.decreases-put_circle
decreases-put_circle l = length l.links.now
