-- What the readers of words return: what they read, and the words that are left.
use Rattle.std.specs.Prelude.{ℕ, ◌^◌, List, [], ◌∷◌, Option, None, Some, codes, decimal, bytes_eq, nat_lt, nat_le, ◌&&◌, if◌then◌else◌}
use Rattle.std.specs.Str.Parse.{digits_value}
use Rattle.history.specs.Types.{Mode, X, S}

abbrev pub Words : Type 0
Words = List (List ℕ)

infixl 10 ◌>>=◌
abbrev pub ◌>>=◌ : {A B : Type 0} → Option A → (A → Option B) → Option B
(Some x) >>= f = f x
None >>= f = None

-- what a reader returns, with the words that are left
abbrev pub with_rest : {A : Type 0} → Option A → Words → Option (A × Words)
with_rest None rest = None
with_rest (Some x) rest = Some (x, rest)

abbrev pub word_at : Words → Option (List ℕ × Words)
word_at [] = None
word_at (w ∷ ws) = Some (w, ws)

-- exactly this word
abbrev pub keyword_at : List ℕ → Words → Option (Unit {0} × Words)
keyword_at word [] = None
keyword_at word (w ∷ ws) = if bytes_eq w word then Some (tt, ws) else None

-- the number that a word spells
unfoldable pub number_from : List ℕ → Option ℕ
number_from w =
    if bytes_eq w (decimal (digits_value 10 w)) && nat_lt (digits_value 10 w) (2 ^ 64)
    then Some (digits_value 10 w) else None

-- the number of 128 bits that a word spells
unfoldable pub wide_from : List ℕ → Option ℕ
wide_from w =
    if bytes_eq w (decimal (digits_value 10 w)) && nat_lt (digits_value 10 w) (2 ^ 128)
    then Some (digits_value 10 w) else None

abbrev pub number_at : ℕ → ℕ → Words → Option (ℕ × Words)
number_at least most words = do
  w ← word_at words
  n ← number_from w.0
  if nat_le least n && nat_le n most then Some (n, w.1) else None

abbrev pub wide_at : ℕ → ℕ → Words → Option (ℕ × Words)
wide_at least most words = do
  w ← word_at words
  n ← wide_from w.0
  if nat_le least n && nat_le n most then Some (n, w.1) else None

abbrev pub mode_at : Words → Option (Mode × Words)
mode_at [] = None
mode_at (w ∷ ws) = if bytes_eq w (codes "x") then Some (X, ws)
    else if bytes_eq w (codes "s") then Some (S, ws) else None

-- a name and a number
abbrev pub named_at : List ℕ → ℕ → ℕ → Words → Option (ℕ × Words)
named_at name least most words = do
  k ← keyword_at name words
  number_at least most k.1
