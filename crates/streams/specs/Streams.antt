-- What a stream reads, writes and returns.
use Rattle.std.specs.Prelude.{◌≡◌, ◌⊎◌, ◌≤◌, ℕ, List, ◌++◌, length, Option, Result, Ok, Err, IfSome, IsSomeAnd}
use Rattle.std.specs.Io.KnownBytes.{IsAtEnd, Keeps, Appends}
use Rattle.streams.specs.Form.{Form}
use Rattle.streams.specs.Reading.{Begins, IsReading}
use Rattle.streams.specs.declared.stream_fault.StreamFault.{StreamFault}
use Rattle.streams.specs.declared.stream_fault.StreamFault.TheVariants.{Text, ReadFailed, WriteFailed, Memory}
use Rattle.streams.specs.ReadingOn.{IsTooLong}
use Rattle.streams.specs.Writing.{AppendsFront}
use Rattle.streams.specs.Window.{room}

-- The source's bytes, and what the sink held before and holds after. If the text has the form, a value is
-- returned and this is written.
abbrev pub Streams : {H I T : Type 0} → Form H I → (List ℕ → T → (List ℕ → Type 0) → Type 0) →
    Option (List ℕ) → Option (List ℕ) → Option (List ℕ) → Result T StreamFault → Type 0
Streams {H} {I} {T} form Answers left old new (Ok answer) =
    IfSome left (λ text. Answers text answer (Appends old new))
Streams {H} {I} {T} form Answers left old new (Err (Text fault)) =
    IfSome left (λ text. IsReading form text (Err fault)) × Keeps old new
Streams {H} {I} {T} form Answers left old new (Err ReadFailed) = Keeps old new
Streams {H} {I} {T} form Answers left old new (Err WriteFailed) =
    IfSome left (λ text. (answer : T) × Answers text answer (AppendsFront old new))
Streams {H} {I} {T} form Answers left old new (Err Memory) = Keeps old new

-- after a fault of the text nothing is left to read
abbrev pub IsReadTo : StreamFault → Option (List ℕ) → Type 0
IsReadTo (Text fault) left = IsAtEnd left
IsReadTo ReadFailed left = Unit {0}
IsReadTo WriteFailed left = Unit {0}
IsReadTo Memory left = Unit {0}

-- Only a header, the lines of some items and at most a window's bytes after them were read.
pub record AreReadAhead {H I : Type 0} (form : Form H I) (text left : List ℕ) : Type 0 where
  pub header : H
  pub items : List I
  pub window : List ℕ
  pub begins : Begins form text header items (window ++ left)
  pub few : length window ≤ room

-- only the lines of items and at most a window's bytes were read, unless the text has more bytes than reads
-- that can be counted
abbrev pub IsReadNoFurther : {H I : Type 0} → Form H I → Option (List ℕ) → Option (List ℕ) → Type 0
IsReadNoFurther form text left =
    IfSome text (λ t. IsTooLong t ⊎ IsSomeAnd left (λ rest. (rest ≡ t) ⊎ AreReadAhead form t rest))

-- the source was read to its end before anything was written, also after a fault of the text; after a failed
-- allocation nothing more is read
abbrev pub IsReadOut : {H I T : Type 0} → Form H I → Option (List ℕ) → Result T StreamFault →
    Option (List ℕ) →
    Type 0
IsReadOut form text (Ok answer) left = IsAtEnd left
IsReadOut form text (Err (Text fault)) left = IsAtEnd left
IsReadOut form text (Err ReadFailed) left = Unit {0}
IsReadOut form text (Err WriteFailed) left = IsAtEnd left
IsReadOut form text (Err Memory) left = IsReadNoFurther form text left
