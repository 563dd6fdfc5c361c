-- Reading a text from a source, one item at a time.
use Rattle.std.specs.Prelude.{◌≤◌, ℕ, List, [], ◌∷◌, ◌++◌, length, Option, Some, None, Result, Ok, Err, IfSome, IsSomeAnd}
use Rattle.std.specs.Io.KnownBytes.{Keeps, prepend_known}
use Rattle.driver.specs.Below.{Form, IsText, IsReading, SoFar, AreRead, StreamFault, Text, ReadFailed, WriteFailed, Memory, IsReadNoFurther, StaysAhead}

-- The progress of reading a text: what is known of it so far, and all that follows the items that were read,
-- if that is known.
pub record Progress (H I : Type 0) : Type 1 where
  pub so_far : SoFar H I
  pub ahead : Option (List ℕ)

-- the progress of a reader that holds these bytes; `left` is what its source still has
abbrev pub reader_at : {H I : Type 0} → SoFar H I → List ℕ → Option (List ℕ) → Progress H I
reader_at so_far bytes left = record { so_far = so_far; ahead = prepend_known bytes left }

-- these items of the text were read, the oldest first, if the text is known
abbrev pub WereRead : {H I : Type 0} → Form H I → Option (List ℕ) → Progress H I → List I → Type 0
WereRead form text p items = IfSome text (λ t. IsSomeAnd p.ahead (AreRead form t p.so_far items))

-- P holds for each text whose header was read, and no item yet
abbrev pub OfText : {H I : Type 0} → Form H I → Progress H I → (List ℕ → Type 0) → Type 0
OfText form p P = (text : Option (List ℕ)) → WereRead form text p [] → IfSome text P

-- what is left of a text is no longer than the text
abbrev pub IsPartLeft : Option (List ℕ) → Option (List ℕ) → Type 0
IsPartLeft None left = Unit {0}
IsPartLeft (Some text) None = ⊥
IsPartLeft (Some text) (Some left) = length left ≤ length text

-- the faults of a text, if it is known, and of its source, which has this left then
abbrev pub IsFaultOf : {H I : Type 0} → Form H I → Option (List ℕ) → Option (List ℕ) → StreamFault → Type 0
IsFaultOf form text left (Text fault) = IfSome text (λ t. IsReading form t (Err fault)) × IsPartLeft text left
IsFaultOf form text left ReadFailed = Unit {0}
IsFaultOf form text left Memory = IsReadNoFurther form text left
IsFaultOf form text left WriteFailed = ⊥

-- the faults after whatever items were read
abbrev pub IsFaultOn : {H I : Type 0} → Form H I → Progress H I → Option (List ℕ) → StreamFault → Type 0
IsFaultOn {H} {I} form p left fault =
    (text : Option (List ℕ)) (items : List I) → WereRead form text p items → IsFaultOf form text left fault

-- there is no text of which these items were read
abbrev pub IsOfNoText : {H I : Type 0} → Form H I → Progress H I → Type 0
IsOfNoText {H} {I} form p = (text : List ℕ) (items : List I) → WereRead form (Some text) p items → ⊥

-- After whatever items: one more was read, or they are all, or this is the fault of the text or of its
-- source, which has this left.
abbrev pub IsNext : {H I : Type 0} → Form H I → Progress H I → Result (Option I) StreamFault →
    Progress H I → Option (List ℕ) → Type 0
IsNext {H} {I} form old (Ok (Some item)) new left =
    (text : Option (List ℕ)) (items : List I) → WereRead form text old items →
    WereRead form text new (items ++ item ∷ [])
IsNext {H} {I} form old (Ok None) new left =
    (text : Option (List ℕ)) (items : List I) → WereRead form text old items →
    IfSome text (λ t. IsText form t old.so_far.header items)
IsNext {H} {I} form old (Err fault) new left =
    (text : Option (List ℕ)) (items : List I) → WereRead form text old items → IsFaultOf form text left fault

-- The position of a reader that returned no item: it is as before. After a fault, bytes of a line that is
-- longer than any good one may be gone. The arguments are what the reader held and holds, and what its source
-- had left and has left.
abbrev pub KeepsPlace : {I : Type 0} → List ℕ → Option (List ℕ) → Result (Option I) StreamFault → List ℕ →
    Option (List ℕ) → Type 0
KeepsPlace old left (Ok (Some item)) new after = Unit {0}
KeepsPlace old left (Ok None) new after = Keeps (prepend_known old left) (prepend_known new after)
KeepsPlace old left (Err fault) new after = StaysAhead old left new after
