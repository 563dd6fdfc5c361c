-- The exit statuses of a stream's faults.
use Rattle.std.specs.Prelude.{ℕ}
use Rattle.tasks.specs.Below.{StreamFault, Text, ReadFailed, WriteFailed, Memory}

-- 3 for a text, 4 for a device, 5 for memory
abbrev pub stream_status : StreamFault → ℕ
stream_status (Text fault) = 3
stream_status ReadFailed = 4
stream_status WriteFailed = 4
stream_status Memory = 5
