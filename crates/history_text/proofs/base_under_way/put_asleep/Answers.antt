use Rattle.std.proofs.Common.{◌≡◌, ℕ, ◌<◌, ◌∷◌, ◌++◌, List, [], length, map, get_or, set, Vec, Global, ap, sym, ◌∙◌}
use Rattle.std.proofs.lemmas.List.{get_or-map, map-set}
use Rattle.history.specs.declared.base.Sleeper.{Sleeper}
use Rattle.history_text.proofs.base_under_way.put_asleep.Goals as goal

-- one list among many, changed
changed : {A B : Type 0} (f : A → B) (g : B → B) (xs : List A) (i : ℕ) (x y : A) (d : B) → i < length xs →
    x ≡ get_or xs i x → f y ≡ g (f x) → map f (set xs i y) ≡ set (map f xs) i (g (get_or (map f xs) i d))
changed f g xs i x y d l is new =
    map-set f xs i y
    ∙ ap (set (map f xs) i) (new ∙ ap g (ap f is ∙ sym (get_or-map f xs i x d l)))

pub returns-clause-lists : goal.returns-clause-lists
returns-clause-lists c =
    changed (λ (list : Vec Sleeper Global). list.items) (λ (l : List Sleeper). l ++ c.args.sleeper ∷ [])
    c.args.sleepers.now.items c.args.condition c.index_mut.result.now c.push_reserved.new.self []
    c.requires.condition c.index_mut.ensures.value c.push_reserved.ensures.items
