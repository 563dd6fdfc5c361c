-- Lines of a few short words are short.
use Rattle.std.proofs.Common.{ℕ, suc, ℤ, pos, negsuc, ◌*◌, ◌<◌, ◌≤◌, ◌^◌, List, [], ◌∷◌, ◌++◌, length, arith, decimal, FitsSigned, length-append}
use Rattle.std.specs.Fmt.{signed_decimal}
use Rattle.std.specs.Int.{w32}
use Rattle.std.specs.List.{AllByRecursion}
use Rattle.std.proofs.lemmas.Fmt.{length-decimal-le}
use Rattle.std.proofs.lemmas.Int.{ints}
use Rattle.history.specs.declared.entry.Mode.{Mode}
use Rattle.history.specs.declared.header.Header.{Header}
use Rattle.history.specs.declared.header.Object.{Object}
use Rattle.history.specs.declared.header.Policy.{Policy}
use Rattle.history.specs.EntryWords.{mode_word}
use Rattle.history.specs.Header.{IsInRange, IsOpening}
use Rattle.history.specs.Spelling.{object_words, part_of, part_words, policy_word}
use Rattle.history.specs.Text.{line_of}

abbrev pub AreShort : List (List ℕ) → Type 0
AreShort = AllByRecursion (λ w. length w ≤ 20)

pub decimal_short : (n : ℕ) → n < 2 ^ 64 → length (decimal n) ≤ 20
decimal_short n lt = length-decimal-le 20 n (omega arith) (omega (arith, lt)) lt

-- each word, and a space behind it
pub line_length : (words : List (List ℕ)) → AreShort words → length (line_of words) ≤ 21 * length words
line_length [] short = omega arith
line_length (w ∷ []) short = omega (arith, short.0)
line_length (w ∷ v ∷ words) short =
    omega (
      arith,
      short.0,
      line_length (v ∷ words) short.1,
      length-append w (32 ∷ line_of (v ∷ words)),
    )

pub mode_short : (m : Mode) → length (mode_word m) ≤ 20
mode_short m = grind arith

-- ---- header lines

signed_short : (z : ℤ) → FitsSigned w32 z → length (signed_decimal z) ≤ 20
signed_short (pos n) fits = decimal_short n (omega (arith, ints, fits))
signed_short (negsuc n) fits =
    omega (arith, length-decimal-le 10 (suc n) (omega arith) (omega (arith, ints, fits)) (omega (arith, ints, fits)))

policy_short : (p : Policy) → length (policy_word p) ≤ 20
policy_short p = grind arith

part_short : (o : Object) (n c k : ℕ) → IsOpening o c → n ≤ 256 → k < 2 ^ 32 →
    AreShort (object_words o n c k) × (length (object_words o n c k) ≤ 8)
part_short o n c k r l m = grind (arith, policy_short, signed_short, decimal_short)

pub header_short : (name : List ℕ) (h : Header) → length name ≤ 20 → IsInRange h →
    length (name ++ part_of h) < 256
header_short name h few fits =
    let part = part_short h.object h.seats h.conditions h.cap fits.opening fits.seats fits.cap in
    omega (arith, few, part.1, line_length (part_words h) part.0, length-append name (part_of h))
