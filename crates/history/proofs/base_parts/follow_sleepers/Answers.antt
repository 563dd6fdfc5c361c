use Rattle.std.proofs.Common.{arith, ◌≡◌, ℕ, ◌<◌, List, [], length, map, get_or, set, Vec, Global, ap, sym, ◌∙◌}
use Rattle.std.proofs.lemmas.List.{get_or-map, map-set}
use Rattle.history.specs.Prelude.{Sleeper, sleepers_then}
use Rattle.history.proofs.base_parts.follow_sleepers.Goals as goal

-- one list among many, changed
changed : {A B : Type 0} (f : A → B) (g : B → B) (xs : List A) (i : ℕ) (x y : A) (d : B) → i < length xs →
    x ≡ get_or xs i x → f y ≡ g (f x) → map f (set xs i y) ≡ set (map f xs) i (g (get_or (map f xs) i d))
changed f g xs i x y d l is new =
    map-set f xs i y
    ∙ ap (set (map f xs) i) (new ∙ ap g (ap f is ∙ sym (get_or-map f xs i x d l)))

pub returns-then-at-len-clause-items : goal.returns-then-at-len-clause-items
returns-then-at-len-clause-items c =
    changed (λ (list : Vec Sleeper Global). list.items) (sleepers_then c.args.entry.word c.args.entry)
    c.args.sleepers.now.items c.args.entry.at c.index_mut.result.now c.follow_asleep.new.asleep []
    (omega (arith, c.args.sleepers.now.ok.0)) c.index_mut.ensures.value c.follow_asleep.ensures.items
