-- The base of an object as it is opened, part by part.
use Rattle.std.proofs.Common.{◌≡◌, ℕ, List, [], ◌∷◌, All, length, map, refl, ◌∙◌, sym, subst, arith, ext_get_or}
use Rattle.std.specs.List.{AllByRecursion}
use Rattle.std.proofs.lemmas.List.Elements.{All-from_get_or, All-from_recursion, All-get_or, All-map, recursion_from_All}
use Rattle.history_text.specs.Below.{Header, Base, each_below, nothing, opening_base}
use Rattle.history.proofs.Folding.{get_or-each, length-each}
use Rattle.history_text.specs.inner.BaseFollowing.{IsUnused}

-- a list of so many of the same
all_same : {A : Type 0} (n : ℕ) (x : A) → All (λ y. y ≡ x) (each_below n (λ i. x))
all_same n x =
    All-from_get_or (λ y. y ≡ x) (each_below n (λ i. x)) x
    (λ i l. get_or-each n (λ i. x) i x (let e = length-each n (λ (i : ℕ). x) in omega (arith, e, l)))

same_list : {A : Type 0} (n : ℕ) (x : A) (xs : List A) → length xs ≡ n → All (λ y. y ≡ x) xs →
    xs ≡ each_below n (λ i. x)
same_list n x xs len all =
    ext_get_or x xs (each_below n (λ i. x)) (len ∙ sym (length-each n (λ i. x)))
    (λ i l.
    All-get_or (λ y. y ≡ x) xs i x l all
    ∙ sym (get_or-each n (λ i. x) i x (omega (arith, len, l))))

pub unused_opening : (b : Base) → IsUnused b → b ≡ opening_base b.header
unused_opening b is =
    λ j. record {
      header = b.header;
      entries = is.entries j;
      seats = same_list b.header.seats nothing b.seats is.seats.0 is.seats.1 j;
      unheld = is.unheld j;
      count = is.count j;
      line = is.line j;
      sleepers = same_list b.header.conditions [] b.sleepers is.sleepers.0 is.sleepers.1 j;
    }

opening_unused : (k : Header) → IsUnused (opening_base k)
opening_unused k =
    record {
      entries = refl;
      unheld = refl;
      count = refl;
      line = refl;
      seats = (length-each k.seats (λ i. nothing), all_same k.seats nothing);
      sleepers = (length-each k.conditions (λ c. []), all_same k.conditions []);
    }

pub is_unused : (b : Base) → b ≡ opening_base b.header → IsUnused b
is_unused b is = subst IsUnused (sym is) (opening_unused b.header)

-- lists that are empty, by what they hold
pub each_empty : {A B : Type 0} (f : A → List B) (xs : List A) → All (λ x. f x ≡ []) xs →
    All (λ l. l ≡ []) (map f xs)
each_empty f xs all = All-map (λ l. l ≡ []) f xs all

behind_map : {A B : Type 0} (P : B → Type 0) (f : A → B) (xs : List A) → AllByRecursion P (map f xs) →
    AllByRecursion (λ x. P (f x)) xs
behind_map P f [] all = tt
behind_map P f (x ∷ xs) all = (all.0, behind_map P f xs all.1)

pub empty_each : {A B : Type 0} (f : A → List B) (xs : List A) → All (λ l. l ≡ []) (map f xs) →
    All (λ x. f x ≡ []) xs
empty_each f xs all =
    All-from_recursion (λ x. f x ≡ []) xs
    (behind_map (λ l. l ≡ []) f xs (recursion_from_All (λ l. l ≡ []) (map f xs) all))
