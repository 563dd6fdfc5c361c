use Rattle.std.proofs.Common.{◌≡◌, vec_len}
use Rattle.workers.proofs.notes.Notes.standings.Given as goal

abbrev pub invariant-loop-row : goal.invariant-loop-row
invariant-loop-row l = vec_len l.all ≡ l.row-index
