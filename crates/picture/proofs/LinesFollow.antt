-- What a text of names says, one line after another.
use Rattle.std.proofs.Common.{◌≡◌, ◌≢◌, ℕ, ◌+◌, ◌<◌, ◌==◌, false, List, [], ◌∷◌, ◌++◌, length, Option, Some, None, Result, Err, refl, sym, ap, ◌∙◌, arith, lt-ltb, ne_eqb, length-append}
use Rattle.std.specs.List.{All, AllByRecursion}
use Rattle.std.proofs.lemmas.List.Elements.{All-from_recursion, recursion_from_All}
use Rattle.std.proofs.lemmas.List.Splits.{length-slice_split, slice_split_at, slice_split_none}
use Rattle.history.specs.Text.{HasNoBreak}
use Rattle.picture.specs.Names.{Given}
use Rattle.picture.specs.Reading.{after_line, lines_in, or_wrong, reading_from}

-- no byte is a break, as a test tells it
passed : (bytes : List ℕ) → HasNoBreak bytes → All (λ b. (b == 10) ≡ false) bytes
passed bytes whole = All-from_recursion _ bytes (each bytes (recursion_from_All _ bytes whole))
  where
    each : (bs : List ℕ) → AllByRecursion (λ b. b ≢ 10) bs → AllByRecursion (λ b. (b == 10) ≡ false) bs
    each [] h = tt
    each (b ∷ bs) h = (ne_eqb b 10 h.0, each bs h.1)

one_line : (line : List ℕ) → HasNoBreak line → lines_in line ≡ line ∷ []
one_line line whole = slice_split_none _ line (passed line whole)

line_more : (text line rest : List ℕ) → text ≡ line ++ 10 ∷ rest → HasNoBreak line →
    lines_in text ≡ line ∷ lines_in rest
line_more text line rest parts whole = rw parts (slice_split_at _ line 10 rest (passed line whole) refl)

-- a text has a line
some_line : (text : List ℕ) → 0 < length (lines_in text)
some_line text = omega (arith, length-slice_split (λ b. b == 10) text)

-- one line, and those after it
reading_more : (given : Given) (number : ℕ) (line : List ℕ) (lines : List (List ℕ)) → 0 < length lines →
    reading_from given number (line ∷ lines)
    ≡ or_wrong number (after_line given line) (λ more. reading_from more (number + 1) lines)
reading_more given number line [] some = absurd (omega (arith, some))
reading_more given number line (next ∷ lines) some = refl

-- a whole line of a text, and the text behind it
line_read : (given : Given) (number : ℕ) (text line rest : List ℕ) → text ≡ line ++ 10 ∷ rest →
    HasNoBreak line →
    reading_from given number (lines_in text)
    ≡ or_wrong number (after_line given line) (λ more. reading_from more (number + 1) (lines_in rest))
line_read given number text line rest parts whole =
    ap (reading_from given number) (line_more text line rest parts whole)
    ∙ reading_more given number line (lines_in rest) (some_line rest)

-- behind a right line it says what it says behind the next
pub right_line : (given more : Given) (number : ℕ) (text line rest : List ℕ) (said : Result Given ℕ) →
    text ≡ line ++ 10 ∷ rest → HasNoBreak line → Some more ≡ after_line given line →
    reading_from given number (lines_in text) ≡ said → reading_from more (number + 1) (lines_in rest) ≡ said
right_line given more number text line rest said parts whole right was =
    ap (λ (o : Option Given). or_wrong number o (λ more. reading_from more (number + 1) (lines_in rest)))
    right
    ∙ sym (line_read given number text line rest parts whole) ∙ was

-- a wrong line is the first
pub wrong_line : (given : Given) (number : ℕ) (text line rest : List ℕ) (said : Result Given ℕ) →
    text ≡ line ++ 10 ∷ rest → HasNoBreak line → None ≡ after_line given line →
    reading_from given number (lines_in text) ≡ said → said ≡ Err number
wrong_line given number text line rest said parts whole wrong was =
    sym was ∙ line_read given number text line rest parts whole
    ∙ sym
    (ap (λ (o : Option Given). or_wrong number o (λ more. reading_from more (number + 1) (lines_in rest))) wrong)

-- a line without its break is left
pub line_left : (given : Given) (number : ℕ) (text : List ℕ) (said : Result Given ℕ) → HasNoBreak text →
    0 < length text → reading_from given number (lines_in text) ≡ said → said ≡ Err number
line_left given number text said whole some was =
    sym was ∙ ap (reading_from given number) (one_line text whole) ∙ rw (lt-ltb 0 (length text) some) refl

-- a line is shorter than its text
pub shorter : (text line rest : List ℕ) → text ≡ line ++ 10 ∷ rest → length rest < length text
shorter text line rest parts = omega (arith, ap length parts, length-append line (10 ∷ rest))
