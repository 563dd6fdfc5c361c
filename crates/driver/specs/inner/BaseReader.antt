-- Reading the lines of a base, one after another.
use Rattle.std.specs.Prelude.{◌≡◌, ℕ, ◌+◌, Bool, true, false, List, [], length, map, Option, Result, Ok, Err}
use Rattle.std.specs.Io.KnownBytes.{Keeps, prepend_known}
use Rattle.driver.specs.Below.{Base, or_opening, Head, Place, history_form, HasShortLine, LacksBaseLine, LinesRead, Based, Line, GoodHas, SoFar, StreamFault}
use Rattle.driver.specs.TextReader.{IsFaultOf, WereRead, reader_at}
use Rattle.driver.specs.BaseReader.{EntriesBehind}

-- what is known after these lines were read: exactly these
abbrev pub lines_known : Head → List Line → SoFar Head Line
lines_known h lines = record { header = h; count = length lines; known = λ all. all ≡ lines }

-- these lines of a text were read; the reader holds these bytes, and this is left in its source
abbrev pub AreLinesRead : Option (List ℕ) → Head → List Line → List ℕ → Option (List ℕ) → Type 0
AreLinesRead text h lines bytes left = WereRead history_form text (reader_at (lines_known h lines) bytes
    left) lines

-- only the first line was read
abbrev pub HeadRead : Option (List ℕ) → Head → List ℕ → Option (List ℕ) → Type 0
HeadRead text h bytes left = AreLinesRead text h [] bytes left

-- A line of a base was read. Or the base is complete, and the next line is whole in the window and isn't one
-- of a base. Or this is the fault, whatever the text.
abbrev pub IsLineTaken : LinesRead → List ℕ → Option (List ℕ) → Result Bool StreamFault → LinesRead → List ℕ →
    Option (List ℕ) → Type 0
IsLineTaken old bytes left (Ok true) new grown after =
    (length new.lines ≡ length old.lines + 1)
    × ((text : Option (List ℕ)) (h : Head) → h.is_based ≡ true → h.header ≡ old.header →
    AreLinesRead text h (map Based old.lines) bytes left → AreLinesRead text h (map Based new.lines) grown
    after)
IsLineTaken old bytes left (Ok false) new grown after =
    (new ≡ old) × GoodHas old.header old.lines × LacksBaseLine grown × HasShortLine grown
    × Keeps (prepend_known bytes left) (prepend_known grown after)
IsLineTaken old bytes left (Err fault) new grown after =
    (text : Option (List ℕ)) (h : Head) → h.is_based ≡ true → h.header ≡ old.header →
    AreLinesRead text h (map Based old.lines) bytes left → IsFaultOf history_form text after fault

-- what is read after the first line, whatever the text
abbrev pub IsBaseRead : Head → List ℕ → Option (List ℕ) → Result (Base × Place) StreamFault → List ℕ →
    Option (List ℕ) → Type 0
IsBaseRead h old left (Ok read) new after =
    (text : Option (List ℕ)) → HeadRead text h old left →
    EntriesBehind text h read.0 [] read.1 new after
IsBaseRead h old left (Err fault) new after =
    (text : Option (List ℕ)) → HeadRead text h old left → IsFaultOf history_form text after fault

-- the same if base lines may be missing
abbrev pub IsBeginningRead : Head → List ℕ → Option (List ℕ) → Result (Option Base × Place) StreamFault →
    List ℕ → Option (List ℕ) → Type 0
IsBeginningRead h old left (Ok read) new after =
    (text : Option (List ℕ)) → HeadRead text h old left →
    EntriesBehind text h (or_opening h.header read.0) [] read.1 new after
IsBeginningRead h old left (Err fault) new after =
    (text : Option (List ℕ)) → HeadRead text h old left → IsFaultOf history_form text after fault
