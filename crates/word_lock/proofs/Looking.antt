-- A load that looks keeps the rule, and tells what the list is.
use Rattle.std.proofs.Common.{◌≡◌, ℕ, true, false, List, [], ◌∷◌, set, get_or, refl, sym, ◌∙◌, subst}
use Rattle.std.specs.declared.option.Option.{Option as Maybe}
use mathlib.Core.Option.{none, some, some-ne-none}
use lib.ListN.{get_elem?}
use Rattle.atomic_table.specs.Table.{Me, step, keeps, Allows}
use Rattle.atomic_table.proofs.Lists.{set_else}
use Rattle.history.specs.declared.point.Point.{Point}
use Rattle.word_lock.specs.Prelude.{View, view_after_look, IsKnownBy, RuleHolds, TellsLook}
use Rattle.word_lock.proofs.Lists.{stays_set, one_at}
use Rattle.word_lock.proofs.PointLaws.{before_refl}
use Rattle.word_lock.proofs.Rules.{IsWord, word_stays}

set_found : (l : List ℕ) → set l 0 (get_or l 0 0) ≡ l
set_found [] = refl
set_found (x ∷ xs) = refl

module _ {T : Type 0} (point : T → Point) (fact : T → Type 0) (sound : Point → Type 0) (start : Point) where
  pub looks : (slots id : ℕ) (me : Me (Maybe T) View) → me.0.holds ≡ false → me.0.live ≡ true
      → Allows (RuleHolds point fact sound start) slots id me 0 (λ n. n)
      (TellsLook sound (step slots 0 0 0 none) me)
  looks slots id me free live s r _ at _ =
      let w : View = view_after_look me.0 r.now in let mine = r.known id me.0 at in
      let vs : List View = set s.views id w in (
        w,
        keeps,
        tt,
        record {
          now = r.now;
          place = r.place;
          begun = r.begun;
          is_sound = r.is_sound;
          known = stays_set (λ j v. IsKnownBy r.place r.now j v) s.views id w
              record {
                seen = λ _. before_refl r.now;
                joined = λ _ k p e. absurd (some-ne-none p (sym e));
                placed = mine.placed;
                agrees = mine.agrees;
              }
              (λ j v _ e. r.known j v e);
          word = subst (λ (ws : List ℕ). IsWord point fact r.now record {
            words = ws;
            homes = s.homes;
            views = vs;
          }) (sym (set_found s.words))
              (word_stays point fact r.now s vs
              (stays_set (λ j u. u.holds ≡ true → get_elem? s.views j ≡ some u) s.views id w
              (λ t. absurd cc) (λ j u _ e _. e))
              (λ j u e t. set_else s.views id j w
              (λ is. let one : u ≡ me.0 = one_at s.views id u me.0
              (subst (λ (z : ℕ). get_elem? s.views z ≡ some u) is e) at in absurd cc) ∙ e)
              r.word);
        },
        (
          r.now,
          refl,
          record {
            is_sound = r.is_sound;
            seen = mine.seen live;
            joined = mine.joined live;
            agrees = mine.agrees;
          },
        ),
      )
