-- That who waits on a base stands in line and sleeps, one after another.
use Rattle.std.proofs.Common.{◌≡◌, ℕ, ◌+◌, ◌<◌, ◌≤◌, Bool, true, false, cond, eqb, List, [], ◌∷◌, ◌++◌, length, map, take, drop, get_or, refl, ap, ◌∙◌, sym, arith, take-append-drop}
use Rattle.std.proofs.lemmas.Bool.{or_parts}
use Rattle.std.proofs.lemmas.List.{drop_more, map-append}
use Rattle.audit.specs.Below.{has, times}
use Rattle.history.proofs.Times.{once_has, once_same, times-append}

-- a list, by what is asked of each before a place, at it and behind it
map_rest : {A B : Type 0} (f : A → B) (xs : List A) (n : ℕ) (d : A) → n < length xs →
    map f xs ≡ map f (take n xs) ++ f (get_or xs n d) ∷ map f (drop (n + 1) xs)
map_rest f xs n d l =
    ap (map f) (sym (take-append-drop n xs) ∙ ap (λ ys. take n xs ++ ys) (drop_more xs n d l))
    ∙ map-append f (take n xs) (get_or xs n d ∷ drop (n + 1) xs)

-- one at a place is in the list, and where each is in it once, not before that place
pub stands_among : {A : Type 0} (f : A → ℕ) (xs : List A) (n : ℕ) (d : A) → n < length xs →
    has (f (get_or xs n d)) (map f xs) ≡ true
stands_among f xs n d l =
    let i = f (get_or xs n d) in
    let e = ap (times i) (map_rest f xs n d l)
    ∙ times-append i (map f (take n xs)) (i ∷ map f (drop (n + 1) xs)) in
    let o = once_same i i refl in
    once_has i (map f xs) (omega (arith, e, o))

pub not_before : {A : Type 0} (f : A → ℕ) (xs : List A) (n : ℕ) (d : A) → n < length xs →
    ((i : ℕ) → times i (map f xs) ≤ 1) → times (f (get_or xs n d)) (map f (take n xs)) ≡ 0
not_before f xs n d l once =
    let i = f (get_or xs n d) in
    let e = ap (times i) (map_rest f xs n d l)
    ∙ times-append i (map f (take n xs)) (i ∷ map f (drop (n + 1) xs)) in
    let o = once_same i i refl in
    let m = once i in
    omega (arith, e, o, m)

-- who is neither the last of a list nor before it
pub apart_from : (i j : ℕ) (xs : List ℕ) → has i (xs ++ j ∷ []) ≡ false →
    (has i xs ≡ false) × (eqb j i ≡ false)
apart_from i j [] f = let parts = or_parts (eqb j i) false f in (refl, parts.0)
apart_from i j (x ∷ xs) f =
    let parts = or_parts (eqb x i) (has i (xs ++ j ∷ [])) f in
    let rest = apart_from i j xs parts.1 in
    (rw parts.0 rest.0, rest.1)

-- a list of one condition that one more joins
pub joined_on : (b : Bool) (now old before after : List ℕ) (j : ℕ) → now ≡ cond b before old →
    after ≡ before ++ j ∷ [] → cond b (now ++ j ∷ []) now ≡ cond b after old
joined_on true now old before after j is more = ap (λ l. l ++ j ∷ []) is ∙ sym more
joined_on false now old before after j is more = is
