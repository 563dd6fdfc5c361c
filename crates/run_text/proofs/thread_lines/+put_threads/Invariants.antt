use Rattle.std.proofs.Common.{length}
use Rattle.run_text.proofs.thread_lines.+put_threads.Given as goal

abbrev pub decreases-put_threads : goal.decreases-put_threads
decreases-put_threads l = length l.workers.now
