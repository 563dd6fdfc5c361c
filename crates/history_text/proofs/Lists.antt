-- What holds of each element of a list holds of each of its parts.
use Rattle.std.proofs.Common.{List, [], ◌∷◌, ◌++◌, reverse, sym, subst}
use Rattle.std.specs.List.{AllByRecursion}
use Rattle.std.proofs.lemmas.List.{reverse-append}
use Rattle.history.proofs.Times.{each-append}

pub each_front : {X : Type 0} (P : X → Type 0) (xs ys : List X) → AllByRecursion P (xs ++ ys) →
    AllByRecursion P xs
each_front P [] ys all = tt
each_front P (x ∷ xs) ys all = (all.0, each_front P xs ys all.1)

pub each_back : {X : Type 0} (P : X → Type 0) (xs ys : List X) → AllByRecursion P (xs ++ ys) →
    AllByRecursion P ys
each_back P [] ys all = all
each_back P (x ∷ xs) ys all = each_back P xs ys all.1

-- an element of a list
pub each_at : {X : Type 0} (P : X → Type 0) (xs : List X) (x : X) (ys : List X) →
    AllByRecursion P (xs ++ x ∷ ys) → P x
each_at P xs x ys all = (each_back P xs (x ∷ ys) all).0

pub each-reverse : {X : Type 0} (P : X → Type 0) (xs : List X) → AllByRecursion P xs →
    AllByRecursion P (reverse xs)
each-reverse P [] p = tt
each-reverse P (x ∷ xs) p = subst (AllByRecursion P) (sym (reverse-append (x ∷ []) xs))
    (each-append P (reverse xs) (x ∷ []) (each-reverse P xs p.1) (p.0, tt))
