use Rattle.std.proofs.Common.{rules}
use Rattle.streams.proofs.memory_sink.MemorySinkSink.has_failed.Goals as goal

pub returns : goal.returns
returns c = search rules
