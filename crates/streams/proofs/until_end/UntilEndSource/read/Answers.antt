use Rattle.std.proofs.Common.{rules}
use Rattle.streams.proofs.until_end.UntilEndSource.read.Goals as goal

pub invariant_of-self-2 : goal.invariant_of-self-2
invariant_of-self-2 g c = search rules

pub returns-then-self-clause-unread : goal.returns-then-self-clause-unread
returns-then-self-clause-unread g c = search rules

pub returns-then-self-clause-nothing : goal.returns-then-self-clause-nothing
returns-then-self-clause-nothing g c = search rules

pub returns-then-self-clause-buffer : goal.returns-then-self-clause-buffer
returns-then-self-clause-buffer g c = search rules

pub returns-clause-bytes : goal.returns-clause-bytes
returns-clause-bytes g c = search rules

pub returns-clause-failing : goal.returns-clause-failing
returns-clause-failing g c = search rules

pub returns-clause-once : goal.returns-clause-once
returns-clause-once g c = search rules

pub returns-clause-asked : goal.returns-clause-asked
returns-clause-asked g c = search rules

pub returns-clause-end : goal.returns-clause-end
returns-clause-end g c = search rules
