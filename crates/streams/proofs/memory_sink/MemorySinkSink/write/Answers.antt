use Rattle.std.proofs.Common.{rules, arith}
use Rattle.streams.proofs.memory_sink.MemorySinkSink.write.Goals as goal

pub returns-clause-bytes : goal.returns-clause-bytes
returns-clause-bytes c = search rules

pub returns-clause-free : goal.returns-clause-free
returns-clause-free c = search rules

pub returns-clause-takes : goal.returns-clause-takes
returns-clause-takes c = grind (arith)
