-- Readers of a whole line: what is spelt is read again, and nothing else is.
use Rattle.std.proofs.Common.{◌≡◌, ℕ, List, [], ◌∷◌, ◌++◌, Option, Some, None, sym, ap, ◌∙◌, append-nil}
use Rattle.std.proofs.lemmas.Option.{none-some, same_Some}
use Rattle.std.proofs.lemmas.List.Splits.{join_with_byte-slice_split}
use Rattle.history.specs.Prelude.{line_of, words_of, Words}

-- a spelling is read, all of it
pub unread : {A : Type 0} (read : Words → Option (A × Words)) (line spelling : List ℕ) (x : A) →
    read (words_of spelling) ≡ Some (x, []) → None ≡ read (words_of line) → line ≡ spelling → ⊥
unread read line spelling x again none is =
    none-some (x, []) (none ∙ ap (λ (l : List ℕ). read (words_of l)) is ∙ again)

pub not_all_read : {A : Type 0} (read : Words → Option (A × Words)) (line spelling : List ℕ) (x found : A)
    (w : List ℕ) (ws : Words) → read (words_of spelling) ≡ Some (x, []) →
    Some (found, w ∷ ws) ≡ read (words_of line) → line ≡ spelling → ⊥
not_all_read {A = A} read line spelling x found w ws again some is =
    let e : w ∷ ws ≡ [] =
    ap (λ (p : A × Words). p.1) (same_Some (found, w ∷ ws) (x, []) (some
    ∙ ap (λ (l : List ℕ). read (words_of l)) is ∙ again)) in cc

-- two values with one spelling are one
pub same_value : {A : Type 0} (read : Words → Option (A × Words)) (a b : List ℕ) (x y : A) →
    read (words_of a) ≡ Some (x, []) → read (words_of b) ≡ Some (y, []) → a ≡ b → x ≡ y
same_value {A = A} read a b x y first second is =
    ap (λ (p : A × Words). p.0) (same_Some (x, []) (y, []) (sym first
    ∙ ap (λ (l : List ℕ). read (words_of l)) is ∙ second))

-- a line that is cut into these words
pub is_line_of : (line : List ℕ) (ws : Words) → words_of line ≡ ws ++ [] → line ≡ line_of ws
is_line_of line ws e = sym (join_with_byte-slice_split 32 line) ∙ ap line_of (e ∙ append-nil ws)
