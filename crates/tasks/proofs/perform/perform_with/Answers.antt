use Rattle.std.proofs.Common.{rules}
use Rattle.tasks.proofs.perform.perform_with.Goals as goal

pub returns-in_err-replay_stream-in-Replay-clause-performs :
    goal.returns-in_err-replay_stream-in-Replay-clause-performs
returns-in_err-replay_stream-in-Replay-clause-performs g c = search rules
