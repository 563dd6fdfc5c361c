-- A join keeps the rule: the logs of the view `other` are put behind the `n` logs of the view `id`.
use Rattle.std.proofs.Common.{◌≡◌, ◌≢◌, ℕ, zero, suc, ◌+◌, true, false, cond, List, ◌∷◌, length, set, refl, ap, sym, ◌∙◌, subst, ⊎_elim, eqb, eq-eqb, ne_eqb}
use Rattle.std.specs.declared.option.Option.{Option as Maybe}
use mathlib.Core.Option.{some, some-injective, some-ne-none}
use lib.ListN.{get_elem?}
use Rattle.atomic_table.specs.Table.{Joins}
use Rattle.atomic_table.proofs.Lists.{set_else}
use Rattle.std.proofs.lemmas.Bool.{cond-true, cond-false}
use Rattle.history.specs.declared.point.Point.{Point}
use Rattle.word_lock.specs.Prelude.{View, Before, joined_view, spent_view, AllBefore, IsKnownBy, RuleHolds}
use Rattle.word_lock.proofs.Lists.{stays_set, one_at, at_join}
use Rattle.word_lock.proofs.Rules.{word_stays}

-- where the log at p stands after the join
place_after : ℕ → ℕ → ℕ → ℕ × ℕ → ℕ × ℕ
place_after other id n p = cond (eqb p.0 other) (id, n + p.1) p

place_there : (other id n q : ℕ) → place_after other id n (other, q) ≡ (id, n + q)
unfolding place_after
place_there other id n q = cond-true (eqb other other) (id, n + q) (other, q) (eq-eqb other other refl)

place_else : (other id n j q : ℕ) → j ≢ other → place_after other id n (j, q) ≡ (j, q)
unfolding place_after
place_else other id n j q ne = cond-false (eqb j other) (id, n + q) (j, q) (ne_eqb j other ne)

-- a point and those behind it come before one
all_before : (p : Point) (ps : List Point) (q : Point) → Before p q → AllBefore ps q → AllBefore (p ∷ ps) q
all_before p ps q a b zero x e = subst (λ (z : Point). Before z q) (some-injective p x e) a
all_before p ps q a b (suc k) x e = b k x e

module _ {T : Type 0} (point : T → Point) (fact : T → Type 0) (sound : Point → Type 0) (start : Point) where
  pub joins : (id : ℕ) (v : View) (other : ℕ) (w : View) → v.holds ≡ false → w.holds ≡ false →
      v.live ≡ true → w.live ≡ true
      → Joins {S = Maybe T} (RuleHolds point fact sound start) id v other w (joined_view v w) spent_view
  joins id v other w free free' live live' s r at apart set_at =
      let n : ℕ = length v.logs in let b : View = joined_view v w in
      let there : get_elem? s.views other ≡ some w = sym (set_else s.views id other b apart) ∙ set_at in
      let mine = r.known id v at in let theirs = r.known other w there in
      let vs : List View = set s.views id b in
      let place : ℕ → ℕ × ℕ = λ x. place_after other id n (r.place x) in
      let K : ℕ → View → Type 0 = λ j u. IsKnownBy place r.now j u in record {
        now = r.now;
        place = place;
        begun = r.begun;
        is_sound = r.is_sound;
        known = stays_set K vs other spent_view
            record {
              seen = λ l. absurd cc;
              joined = λ l. absurd cc;
              placed = λ q m e. absurd (some-ne-none m (sym e));
              agrees =
                  λ q m e. absurd (some-ne-none m (sym e));
            }
            (λ j u not_other e. stays_set (λ i z. i ≢ other → K i z) s.views id b
            (λ ne. record {
              seen = mine.seen;
              joined = λ _ k p e. ⊎_elim
                  (λ t. mine.joined live k p t)
                  (λ t. all_before w.seen w.joined r.now (theirs.seen live') (theirs.joined live') t.0 p t.2)
                  (at_join v.joined (w.seen ∷ w.joined) k p e);
              placed = λ q m e. ⊎_elim
                  (λ t. ap (place_after other id n) (mine.placed q m t) ∙ place_else other id n id q ne)
                  (λ t. ap (place_after other id n) (theirs.placed t.0 m t.2)
                  ∙ (place_there other id n t.0 ∙ ap (λ (z : ℕ). (id, z)) t.1))
                  (at_join v.logs w.logs q m e);
              agrees = λ q m e. ⊎_elim (λ t. mine.agrees q m t) (λ t. theirs.agrees t.0 m t.2)
                  (at_join v.logs w.logs q m e);
            })
            (λ i z _ f ne. let old = r.known i z f in record {
              seen = old.seen;
              joined = old.joined;
              placed = λ q m g. ap (place_after other id n) (old.placed q m g) ∙ place_else other id n i q ne;
              agrees = old.agrees;
            }) j u e not_other);
        word = word_stays point fact r.now s (set vs other spent_view)
            (stays_set (λ j u. u.holds ≡ true → get_elem? s.views j ≡ some u) vs other spent_view
            (λ t. absurd cc)
            (λ j u _ e. stays_set (λ j u. u.holds ≡ true →
            get_elem? s.views j ≡ some u) s.views id b (λ t. absurd cc) (λ j u _ e _. e) j u e))
            (λ j u e t. set_else vs other j spent_view
            (λ is. let same : u ≡ w = one_at s.views other u w
            (subst (λ (z : ℕ). get_elem? s.views z ≡ some u) is e) there in absurd cc)
            ∙ (set_else s.views id j b
            (λ is. let same : u ≡ v = one_at s.views id u v
            (subst (λ (z : ℕ). get_elem? s.views z ≡ some u) is e) at in absurd cc) ∙ e))
            r.word;
      }
