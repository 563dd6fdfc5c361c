-- What a stream reads, writes and returns.
use Rattle.std.specs.Prelude.{◌↔◌, ℕ, Bool, List, Option, Result, IsErrOf, IsTrue}
use Rattle.driver.specs.Below.{Form, StreamFault, ReadFailed, WriteFailed, Streams, IsReadOut}

-- What a source had left and has left, what a sink held and holds, and whether a read and a write have failed.
-- Nothing is written for a text that is refused. Otherwise the whole answer follows what was there, or its
-- beginning if writing failed. The source was read to its end before that.
pub record Streamed {H I T : Type 0} (form : Form H I)
    (Answers : List ℕ → T → (List ℕ → Type 0) → Type 0) (left held : Option (List ℕ))
    (result : Result T StreamFault) (left' held' : Option (List ℕ)) (read_failed write_failed : Bool) : Type 0 where
  pub streams : Streams form Answers left held held' result
  pub end : IsReadOut form left result left'
  pub read : IsErrOf result ReadFailed ↔ IsTrue read_failed
  pub write : IsErrOf result WriteFailed ↔ IsTrue write_failed
