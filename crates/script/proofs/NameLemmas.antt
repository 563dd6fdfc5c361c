-- The place of a name among the objects.
use Rattle.std.proofs.Common.{◌≡◌, ◌≢◌, ℕ, ◌<◌, Bool, true, false, List, [], ◌∷◌, Option, Some, None, All, length, get_or, position, slice_get, bytes_eq, refl, sym, ap, ◌∙◌, String, string_bytes, cond, true≢false, is_some, IfSome, IfNone}
use Rattle.std.specs.List.{AllByRecursion}
use Rattle.std.specs.Map.{keys_of, lookup}
use Rattle.std.specs.declared.alloc.Global.{Global}
use Rattle.std.proofs.lemmas.List.{get_or-map, length-map}
use Rattle.std.proofs.lemmas.List.Elements.{All-from_recursion}
use Rattle.std.proofs.lemmas.List.Quantifiers.{position-Some}
use Rattle.std.proofs.lemmas.Option.{slice_get-get_or}
use Rattle.std.proofs.lemmas.Slice.Eq.{bytes_eq-Decides}
use Rattle.history.specs.declared.header.Header.{Header}
use Rattle.script.specs.Script.{named}
use Rattle.script.proofs.Firsts.{Entry, object_at}

abbrev is_of : List ℕ → String Global → Bool
is_of name k = bytes_eq name (string_bytes k)

at_place : (name : List ℕ) (es : List Entry) (i : ℕ) (d : Entry) →
    position (is_of name) (keys_of es) ≡ Some i →
    (h : Header) × (slice_get (named es) i ≡ Some (name, h))
at_place name es i d found =
    let known = position-Some (is_of name) (keys_of es) i d.0 found in
    let within : i < length es = rw (← length-map es (λ (e : Entry). e.0)) known.0 in
    let e = get_or es i d in
    let key : get_or (keys_of es) i d.0 ≡ e.0 = get_or-map (λ (e : Entry). e.0) es i d d.0 within in
    let is : name ≡ string_bytes e.0 = (bytes_eq-Decides name (string_bytes e.0)).0 (ap (is_of name) (sym
    key) ∙ known.1) in (
      e.1,
      object_at es i e (sym (slice_get-get_or es i d within)) ∙ ap (λ (n : List ℕ). Some (n, e.1)) (sym is),
    )

at_position : (name : List ℕ) (es : List Entry) (i : ℕ) → position (is_of name) (keys_of es) ≡ Some i →
    (h : Header) × (slice_get (named es) i ≡ Some (name, h))
at_position name [] i found = absurd cc
at_position name (e ∷ es) i found = at_place name (e ∷ es) i e found

others : (name : List ℕ) (es : List Entry) → lookup (is_of name) es ≡ None →
    AllByRecursion (λ o. o.0 ≢ name) (named es)
others name [] none = tt
others name (e ∷ es) none = by (is_of name e.0) refl none (others name es)
  where
    by : (b : Bool) → is_of name e.0 ≡ b → cond b (Some e.1) (lookup (is_of name) es) ≡ None →
        (lookup (is_of name) es ≡ None → AllByRecursion (λ o. o.0 ≢ name) (named es)) →
        AllByRecursion (λ o. o.0 ≢ name) (named (e ∷ es))
    by true is none rest = absurd cc
    by false is none rest = (
      λ same. true≢false (sym ((bytes_eq-Decides name (string_bytes e.0)).1 (sym same)) ∙ is),
      rest none,
    )

pub placed : (name : List ℕ) (es : List Entry) (r : Option ℕ) → r ≡ position (is_of name) (keys_of es) →
    IfSome r (λ i. (h : Header) × (slice_get (named es) i ≡ Some (name, h)))
placed name es None e = tt
placed name es (Some i) e = at_position name es i (sym e)

none_from : {A : Type 0} (x : Option A) → false ≡ is_some x → x ≡ None
none_from None e = refl
none_from (Some x) e = absurd cc

pub unplaced : (name : List ℕ) (es : List Entry) (r : Option ℕ) →
    is_some r ≡ is_some (lookup (is_of name) es) →
    IfNone r (All (λ o. o.0 ≢ name) (named es))
unplaced name es None e = All-from_recursion _ (named es) (others name es (none_from _ e))
unplaced name es (Some i) e = tt
