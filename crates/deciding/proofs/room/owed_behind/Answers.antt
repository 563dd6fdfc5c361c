use Rattle.std.proofs.Common.{rules}
use Rattle.deciding.proofs.room.owed_behind.Goals as goal

pub returns-in-Got : goal.returns-in-Got
returns-in-Got c = search rules

pub returns-in-Gave : goal.returns-in-Gave
returns-in-Gave c = search rules
