use Rattle.std.proofs.Common.{length}
use Rattle.run_text.proofs.thread_lines.+put_all_held.Given as goal

abbrev pub decreases-put_all_held : goal.decreases-put_all_held
decreases-put_all_held l = length l.held.now
