-- What is appended of one item after another.
use Rattle.std.proofs.Common.{◌≡◌, ℕ, ◌+◌, ◌<◌, List, ◌∷◌, ◌++◌, length, get_or, take, ap, ◌∙◌, sym}
use Rattle.std.specs.List.{flat_map}
use Rattle.std.proofs.lemmas.List.{flat_map_more, take_more}

-- what is appended of a list's items, one more at each step
pub one_more : {X : Type 0} (line : X → List ℕ) (xs : List X) (i : ℕ) (d : X) (start before after : List ℕ) →
    i < length xs → before ≡ start ++ flat_map line (take i xs) → after ≡ before ++ line (get_or xs i d) →
    after ≡ start ++ flat_map line (take (i + 1) xs)
one_more line xs i d start before after l was new =
    new ∙ ap (λ x. x ++ line (get_or xs i d)) was
    ∙ flat_map_more line start (take i xs) (get_or xs i d)
    ∙ ap (λ ys. start ++ flat_map line ys) (sym (take_more xs i d l))
