-- A text that begins with a seat is cut at its first space.
use Rattle.std.proofs.Common.{◌≡◌, ◌≢◌, ℕ, suc, ◌+◌, ◌<◌, true, List, [], ◌∷◌, ◌++◌, length, take, drop, Some, refl, sym, ap, ◌∙◌, add-one, arith, position, ◌==◌, eqb-true, lt-ltb, take-append-drop, take_at, length-append}
use Rattle.std.specs.List.{position_or_len}
use Rattle.std.proofs.lemmas.Bool.Decides.{nat_tests}
use Rattle.std.proofs.lemmas.List.Quantifiers.{position-Some}
use Rattle.std.proofs.lemmas.Option.{same_Some}
use Rattle.std.proofs.Math.Seq.{drop-cons}
use Rattle.history.proofs.Plain.{is_plain}

pub first_space : (xs : List ℕ) (i : ℕ) → position (λ b. b == 32) xs ≡ Some i →
    xs ≡ take i xs ++ 32 ∷ drop (i + 1) xs
first_space xs i found =
    let at = position-Some (λ b. b == 32) xs i 0 found in
    let tail : drop i xs ≡ 32 ∷ drop (i + 1) xs =
    rw add-one (drop-cons xs i 0 at.0 ∙ ap (λ (b : ℕ). b ∷ drop (suc i) xs) (eqb-true _ _ at.1)) in
    sym (take-append-drop i xs) ∙ ap (λ (x : List ℕ). take i xs ++ x) tail

-- ---- a text that begins with a plain word and a space

-- the first space stands behind it
space_behind : (w s : List ℕ) → is_plain w ≡ true → position_or_len (λ b. b == 32) (w ++ 32 ∷ s) ≡ length w
space_behind [] s plain = refl
space_behind (b ∷ w) s plain = grind (arith, nat_tests, space_behind w s)

pub word_length : (text w s : List ℕ) → is_plain w ≡ true → text ≡ w ++ 32 ∷ s →
    position (λ b. b == 32) text ≡ Some (length w)
word_length text w s plain is =
    rw (
      is,
      space_behind w s plain,
      lt-ltb (length w) (length (w ++ 32 ∷ s)) (omega (arith, length-append w (32 ∷ s))),
    ) refl

-- what stands before the first space is the word
pub word_before : (text w s : List ℕ) (at : ℕ) → is_plain w ≡ true → text ≡ w ++ 32 ∷ s →
    position (λ b. b == 32) text ≡ Some at → take at text ≡ w
word_before text w s at plain is found =
    rw is (take_at w (32 ∷ s) at (same_Some (length w) at (sym (word_length text w s plain is) ∙ found)))

pub one_before : (byte : ℕ) (rest w s : List ℕ) → is_plain w ≡ true → 0 < length w →
    byte ∷ 32 ∷ rest ≡ w ++ 32 ∷ s → byte ∷ [] ≡ w
one_before byte rest [] s plain some is = absurd (omega (arith, some))
one_before byte rest (x ∷ []) s plain some is = cc
one_before byte rest (x ∷ y ∷ w) s plain some is = grind (arith, nat_tests)

pub two_before : (first second : ℕ) (rest w s : List ℕ) → is_plain w ≡ true → 0 < length w
    → ((b : ℕ) (t : List ℕ) → first ∷ second ∷ 32 ∷ rest ≢ b ∷ 32 ∷ t) →
    first ∷ second ∷ 32 ∷ rest ≡ w ++ 32 ∷ s → first ∷ second ∷ [] ≡ w
two_before first second rest [] s plain some other is = absurd (omega (arith, some))
two_before first second rest (x ∷ []) s plain some other is = absurd (other x s is)
two_before first second rest (x ∷ y ∷ []) s plain some other is = cc
two_before first second rest (x ∷ y ∷ z ∷ w) s plain some other is = grind (arith, nat_tests)
