-- A list of values, said one by one.
use Rattle.std.proofs.Common.{◌≡◌, ℕ, suc, ◌+◌, List, [], ◌∷◌, ◌++◌, Some, All, length, map, take, slice_get, option_map, refl, sym, ap, subst, ◌∙◌, append-nil, append_assoc}
use Rattle.std.specs.List.{AllByRecursion}
use Rattle.std.proofs.lemmas.List.{map-append, take-map, take_more}
use Rattle.std.proofs.lemmas.List.Elements.{All-from_recursion}
use Rattle.std.proofs.lemmas.Option.{slice_get-map, slice_get_within, get_or_from_slice_get}
use Rattle.serde_json.specs.Data.{Data}
use Rattle.serde_json.specs.View.{view}
use Rattle.serde_json.specs.declared.value.Value.{Value}
use Rattle.script.specs.Saying.{Say, StopsAt}

module _ {T : Type 0} (Says : List T → Data → T → Type 0) where
  more : (before : List T) (vs : List Data) (xs : List T) (v : Data) (x : T) → Say Says before vs xs →
      Says (before ++ xs) v x → Say Says before (vs ++ v ∷ []) (xs ++ x ∷ [])
  more before [] [] v x say next = (subst (λ (b : List T). Says b v x) (append-nil before) next, tt)
  more before [] (y ∷ ys) v x say next = absurd say
  more before (w ∷ ws) [] v x say next = absurd say
  more before (w ∷ ws) (y ∷ ys) v x say next = (
    say.0,
    more (before ++ y ∷ []) ws ys v x say.1 (subst (λ (b : List T). Says b v x) (sym (append_assoc before (y
        ∷ []) ys)) next),
  )

  pub say_next : (values : List Value) (i : ℕ) (v : Value) (xs : List T) (x : T) →
      slice_get values i ≡ Some v →
      Say Says [] (take i (map view values)) xs → Says xs (view v) x →
      Say Says [] (take (i + 1) (map view values)) (xs ++ x ∷ [])
  say_next values i v xs x here say next =
      let one : take (i + 1) values ≡ take i values ++ v ∷ [] =
      take_more values i v (slice_get_within values i v here)
      ∙ ap (λ (w : Value). take i values ++ w ∷ []) (get_or_from_slice_get values i v v here) in
      let whole : take (i + 1) (map view values) ≡ take i (map view values) ++ view v ∷ [] =
      take-map view (i + 1) values ∙ ap (map view) one ∙ map-append view (take i values) (v ∷ [])
      ∙ ap (λ (ds : List Data). ds ++ view v ∷ []) (sym (take-map view i values)) in
      subst (λ (ds : List Data). Say Says [] ds (xs ++ x ∷ [])) (sym whole)
      (more [] (take i (map view values)) xs (view v) x say next)

  pub stops_here : (IsBad : List T → Data → Type 0) (values : List Value) (i : ℕ) (v : Value) (xs : List T) →
      slice_get values i ≡ Some v → Say Says [] (take i (map view values)) xs → IsBad xs (view v) →
      StopsAt Says (map view values) i IsBad
  stops_here IsBad values i v xs here say bad = record {
    said = xs;
    value = view v;
    before = say;
    here = slice_get-map view values i ∙ ap (option_map view) here;
    bad = bad;
  }

  pub said_length : (before : List T) (vs : List Data) (xs : List T) → Say Says before vs xs →
      length vs ≡ length xs
  said_length before [] [] say = refl
  said_length before [] (x ∷ xs) say = absurd say
  said_length before (v ∷ vs) [] say = absurd say
  said_length before (v ∷ vs) (x ∷ xs) say = ap suc (said_length (before ++ x ∷ []) vs xs say.1)

  each : (P : T → Type 0) → ((before : List T) (v : Data) (x : T) → Says before v x → P x) → (before : List T)
      (vs : List Data) (xs : List T) → Say Says before vs xs → AllByRecursion P xs
  each P good before [] [] say = tt
  each P good before [] (x ∷ xs) say = absurd say
  each P good before (v ∷ vs) [] say = absurd say
  each P good before (v ∷ vs) (x ∷ xs) say =
      (good before v x say.0, each P good (before ++ x ∷ []) vs xs say.1)

  pub said_all : (P : T → Type 0) → ((before : List T) (v : Data) (x : T) → Says before v x → P x) →
      (vs : List Data) (xs : List T) → Say Says [] vs xs → All P xs
  said_all P good vs xs say = All-from_recursion P xs (each P good [] vs xs say)
