-- Texts that are written one after the other.
use Rattle.std.proofs.Common.{◌≡◌, ℕ, ◌+◌, ◌<◌, List, [], ◌∷◌, ◌++◌, Option, drop, get_or, length, ap, subst, sym, take, ◌∙◌, append_assoc, append-nil, take-append-drop}
use Rattle.std.specs.Io.KnownBytes.{Appends}
use Rattle.std.specs.List.{concat}
use Rattle.std.proofs.lemmas.List.{take_more}
use Rattle.std.proofs.lemmas.List.Folds.{concat-append}
use Rattle.run_text.specs.Below.{AppendsFront, IsGathered}
use Rattle.driver.proofs.Gathering.{front_longer, front_more}

pub concat_last : (xs : List (List ℕ)) (x : List ℕ) → concat (xs ++ x ∷ []) ≡ concat xs ++ x
concat_last xs x = concat-append xs (x ∷ []) ∙ ap (λ (t : List ℕ). concat xs ++ t) (append-nil x)

-- a front of some bytes after others is a front of both
pub front_behind : (a b c : Option (List ℕ)) (x y : List ℕ) → Appends a b x → AppendsFront b c y →
    AppendsFront a c (x ++ y)
front_behind a b c x y p q =
    let gathered : IsGathered a [] b [] x =
    record { written = x; appends = p; parts = sym (append-nil x) } in
    front_more a b c [] [] x y gathered q

-- the first texts, and one more
pub concat_more : (xs : List (List ℕ)) (i : ℕ) (x : List ℕ) → i < length xs → x ≡ get_or xs i x →
    concat (take (i + 1) xs) ≡ concat (take i xs) ++ x
concat_more xs i x within here =
    ap concat (take_more xs i x within ∙ ap (λ (y : List ℕ). take i xs ++ y ∷ []) (sym here))
    ∙ concat_last (take i xs) x

-- a front of the first texts is a front of all, and of what stands after them
pub front_of_all : (a b : Option (List ℕ)) (xs : List (List ℕ)) (i : ℕ) (more : List ℕ) →
    AppendsFront a b (concat (take i xs)) → AppendsFront a b (concat xs ++ more)
front_of_all a b xs i more front =
    let whole : concat (take i xs) ++ (concat (drop i xs) ++ more) ≡ concat xs ++ more =
    sym (append_assoc (concat (take i xs)) (concat (drop i xs)) more)
    ∙ ap (λ (t : List ℕ). t ++ more) (sym (concat-append (take i xs) (drop i xs)) ∙ ap concat
    (take-append-drop i xs)) in
    subst (AppendsFront a b) whole (front_longer a b (concat (take i xs)) (concat (drop i xs) ++ more) front)
