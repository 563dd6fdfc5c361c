-- Lists whose elements were found good one by one.
use Rattle.std.proofs.Common.{◌≡◌, ℕ, ◌+◌, ◌<◌, ◌≤◌, List, Some, All, length, take, map, slice_get, ap, sym, subst, ◌∙◌, arith, get_or, option_map, take_all, String, string_bytes}
use Rattle.std.proofs.lemmas.List.{length-map}
use Rattle.std.proofs.lemmas.List.Elements.{All-more}
use Rattle.std.proofs.lemmas.Option.{slice_get-map, slice_get_within, get_or_from_slice_get}
use Rattle.std.specs.declared.alloc.Global.{Global}
use Rattle.history.specs.declared.header.Header.{Header}
use Rattle.script.specs.Script.{Named, named}

pub one_more : {T : Type 0} (P : T → Type 0) (xs : List T) (i : ℕ) (x : T) → i < length xs →
    x ≡ get_or xs i x → All P (take i xs) → P x → All P (take (i + 1) xs)
one_more P xs i x below is h good = All-more P xs i x below h (subst P is good)

pub to_the_end : {T : Type 0} (P : T → Type 0) (xs : List T) (i : ℕ) → length xs ≤ i →
    All P (take i xs) → All P xs
to_the_end P xs i past h = subst (All P) (take_all i xs past) h

-- what is true of each is true of the one at a place
pub all_at : {T : Type 0} (P : T → Type 0) (xs : List T) (i : ℕ) (x : T) → All P xs →
    slice_get xs i ≡ Some x → P x
all_at P xs i x all is = subst P (get_or_from_slice_get xs i x x is) (all i x (slice_get_within xs i x is))

-- an entry of a map of objects, and what contracts see of it
abbrev pub Entry : Type 0
Entry = String Global × Header

abbrev pub shown_as : Entry → Named
shown_as e = (string_bytes e.0, e.1)

pub object_at : (es : List Entry) (i : ℕ) (e : Entry) → Some e ≡ slice_get es i →
    slice_get (named es) i ≡ Some (shown_as e)
object_at es i e at = slice_get-map shown_as es i ∙ ap (option_map shown_as) (sym at)

pub one_more_object : (P : Named → Type 0) (es : List Entry) (i : ℕ) (e : Entry) → Some e ≡ slice_get es i →
    All P (take i (named es)) → P (shown_as e) → All P (take (i + 1) (named es))
one_more_object P es i e at h good =
    let here = object_at es i e at in
    one_more P (named es) i (shown_as e) (slice_get_within (named es) i (shown_as e) here)
    (sym (get_or_from_slice_get (named es) i (shown_as e) (shown_as e) here)) h good

pub all_objects : (P : Named → Type 0) (es : List Entry) (i : ℕ) → length es ≤ i →
    All P (take i (named es)) → All P (named es)
all_objects P es i past h =
    let as_many : length (named es) ≡ length es = length-map es shown_as in
    to_the_end P (named es) i (omega (arith, past, as_many)) h
