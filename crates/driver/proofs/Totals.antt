-- Names and numbers that are written one after the other.
use Rattle.std.proofs.Common.{◌≡◌, ℕ, List, [], ◌∷◌, ◌++◌, append_assoc, ◌∙◌}

pub four : (o p q r s a w b x c y d z : List ℕ) → p ≡ o ++ a ++ w → q ≡ p ++ b ++ x → r ≡ q ++ c ++ y →
    s ≡ r ++ d ++ z
    → s ≡ o ++ (a ++ w ++ b ++ x ++ c ++ y ++ d ++ z)
four o p q r s a w b x c y d z first second third fourth =
    fourth ∙ rw (third, second, first) (simp append_assoc)

pub five : (o p q r s t a w b x c y d z e v : List ℕ) → p ≡ o ++ a ++ w → q ≡ p ++ b ++ x →
    r ≡ q ++ c ++ y → s ≡ r ++ d ++ z → t ≡ s ++ e ++ v
    → t ≡ o ++ (a ++ w ++ b ++ x ++ c ++ y ++ d ++ z ++ e ++ v)
five o p q r s t a w b x c y d z e v first second third fourth fifth =
    fifth ∙ rw (four o p q r s a w b x c y d z first second third fourth) (simp append_assoc)

-- lines, of which the last is ended after its words
pub lines : (p o q r s t a b c d e : List ℕ) → p ≡ a → o ≡ p ++ b → q ≡ o ++ c → r ≡ q ++ d → s ≡ r ++ e →
    t ≡ s ++ 10 ∷ [] → t ≡ a ++ b ++ c ++ d ++ (e ++ 10 ∷ [])
lines p o q r s t a b c d e first second third fourth fifth sixth =
    sixth ∙ rw (fifth, fourth, third, second, first) (append_assoc (a ++ b ++ c ++ d) e (10 ∷ []))

-- pieces, of which the first is written to nothing
pub pieces : (n o p q r s t a b c d e f : List ℕ) → n ≡ [] → o ≡ n ++ a → p ≡ o ++ b → q ≡ p ++ c →
    r ≡ q ++ d → s ≡ r ++ e → t ≡ s ++ f → t ≡ a ++ b ++ c ++ d ++ e ++ f
pieces n o p q r s t a b c d e f none first second third fourth fifth sixth =
    sixth ∙ rw (fifth, fourth, third, second, first, none) (simp append_assoc)
