-- A split keeps the rule: the logs of the view `id` from `k` on stay, those before it go to the fresh view.
use Rattle.std.proofs.Common.{◌≡◌, ◌≢◌, ℕ, ◌+◌, ◌-◌, ◌<◌, true, false, cond, ltb, List, [], ◌∷◌, ◌++◌, length, set, refl, ap, sym, ◌∙◌, subst, arith, eqb, eq-eqb, ne_eqb, lt-ltb, le-ltb}
use Rattle.std.specs.declared.option.Option.{Option as Maybe}
use mathlib.Core.Option.{some}
use lib.ListN.{get_elem?}
use Rattle.atomic_table.specs.Table.{Splits}
use Rattle.atomic_table.proofs.Lists.{set_else, at_longer}
use Rattle.std.proofs.lemmas.Bool.{cond-true, cond-false}
use Rattle.std.proofs.Math.ListN.{length-set}
use Rattle.history.specs.declared.point.Point.{Point}
use Rattle.word_lock.specs.Prelude.{View, rest_of_view, front_of_view, IsKnownBy, RuleHolds}
use Rattle.word_lock.proofs.Lists.{stays_set, one_at, stays_end, at_drop, at_take}
use Rattle.word_lock.proofs.Rules.{word_stays}

-- where the log at p stands after the split
place_after : ℕ → ℕ → ℕ → ℕ × ℕ → ℕ × ℕ
place_after fresh id k p = cond (eqb p.0 id) (cond (ltb p.1 k) (fresh, p.1) (id, p.1 - k)) p

place_behind : (fresh id k q : ℕ) → place_after fresh id k (id, k + q) ≡ (id, q)
unfolding place_after
place_behind fresh id k q =
    cond-true (eqb id id) (cond (ltb (k + q) k) (fresh, k + q) (id, (k + q) - k)) (id, k + q)
    (eq-eqb id id refl)
    ∙ (cond-false (ltb (k + q) k) (fresh, k + q) (id, (k + q) - k) (le-ltb (k + q) k (omega arith))
    ∙ (let e : (k + q) - k ≡ q = omega arith in ap (λ (z : ℕ). (id, z)) e))

place_before : (fresh id k q : ℕ) → q < k → place_after fresh id k (id, q) ≡ (fresh, q)
unfolding place_after
place_before fresh id k q lt =
    cond-true (eqb id id) (cond (ltb q k) (fresh, q) (id, q - k)) (id, q) (eq-eqb id id refl)
    ∙ cond-true (ltb q k) (fresh, q) (id, q - k) (lt-ltb q k lt)

place_else : (fresh id k j q : ℕ) → j ≢ id → place_after fresh id k (j, q) ≡ (j, q)
unfolding place_after
place_else fresh id k j q ne =
    cond-false (eqb j id) (cond (ltb q k) (fresh, q) (id, q - k)) (j, q) (ne_eqb j id ne)

module _ {T : Type 0} (point : T → Point) (fact : T → Type 0) (sound : Point → Type 0) (start : Point) where
  pub splits : (id : ℕ) (v : View) → v.holds ≡ false →
      Splits {S = Maybe T} (RuleHolds point fact sound start) id v (rest_of_view v) (front_of_view v)
  splits id v free s r at =
      let k : ℕ = v.split_at in let fresh : ℕ = length s.views in let l : View = rest_of_view v in
      let w : View = front_of_view v in let mine = r.known id v at in
      let vs : List View = set s.views id l in
      let long : length vs ≡ fresh = length-set s.views id l in
      let place : ℕ → ℕ × ℕ = λ n. place_after fresh id k (r.place n) in
      let K : ℕ → View → Type 0 = λ j u. IsKnownBy place r.now j u in record {
        now = r.now;
        place = place;
        begun = r.begun;
        is_sound = r.is_sound;
        known = stays_end K vs w
            (subst (λ (z : ℕ). K z w) (sym long) record {
              seen = mine.seen;
              joined = mine.joined;
              placed = λ q m e. let t = at_take k v.logs q m e in
                  ap (place_after fresh id k) (mine.placed q m t.1) ∙ place_before fresh id k q t.0;
              agrees = λ q m e. mine.agrees q m (at_take k v.logs q m e).1;
            })
            (stays_set K s.views id l
            record {
              seen = mine.seen;
              joined = mine.joined;
              placed = λ q m e. ap (place_after fresh id k) (mine.placed (k + q) m (at_drop k v.logs q m e))
                  ∙ place_behind fresh id k q;
              agrees = λ q m e. mine.agrees (k + q) m (at_drop k v.logs q m e);
            }
            (λ j u other e. let old = r.known j u e in record {
              seen = old.seen;
              joined = old.joined;
              placed = λ q m there. ap (place_after fresh id k) (old.placed q m there)
                  ∙ place_else fresh id k j q other;
              agrees = old.agrees;
            }));
        word = word_stays point fact r.now s (vs ++ w ∷ [])
            (stays_end (λ j u. u.holds ≡ true → get_elem? s.views j ≡ some u) vs w (λ t. absurd cc)
            (stays_set (λ j u. u.holds ≡ true → get_elem? s.views j ≡ some u) s.views id l (λ t. absurd cc)
            (λ j u _ e _. e)))
            (λ j u e t. at_longer vs (w ∷ []) j u
            (set_else s.views id j l
            (λ is. let same : u ≡ v = one_at s.views id u v
            (subst (λ (z : ℕ). get_elem? s.views z ≡ some u) is e) at in absurd cc) ∙ e))
            r.word;
      }
