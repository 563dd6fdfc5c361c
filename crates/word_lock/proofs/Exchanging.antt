-- The exchange of 0 to 1 keeps the rule, whether it wins or loses.
use Rattle.std.proofs.Common.{◌≡◌, ◌≢◌, ℕ, true, List, set, get_or, refl, ap, sym, ◌∙◌, subst, inr, ⊎_elim, arith, eqb, eq-eqb, ne_eqb, Some}
use Rattle.std.specs.declared.option.Option.{Option as Maybe}
use mathlib.Core.Option.{Option, none, some}
use lib.ListN.{get_elem?}
use prog.Atomic.{either}
use Rattle.atomic_table.specs.Table.{State, Me, step, keeps, takes, stepped, Allows}
use Rattle.atomic_table.proofs.Lists.{set_again}
use Rattle.history.specs.declared.point.Point.{Point}
use Rattle.word_lock.specs.Prelude.{View, Before, view_after_take, AllAgree, IsKnownBy, IsFree, RuleHolds, TellsTake}
use Rattle.word_lock.proofs.Lists.{stays_set, set_there}
use Rattle.word_lock.proofs.PointLaws.{before_refl, before_header}

module _ {T : Type 0} (point : T → Point) (fact : T → Type 0) (sound : Point → Type 0) (start : Point) where
  abbrev M : Type 0
  M = Me (Maybe T) View

  abbrev Rule : State (Maybe T) View → Type 0
  Rule s = RuleHolds point fact sound start s

  -- it finds 0
  wins : (s : State (Maybe T) View) (r : Rule s) (id : ℕ) (me : M) → get_elem? s.views id ≡ some me.0 →
      (h : IsFree point fact r.now s)
      → Rule (stepped s 0 1 id me.1 (view_after_take me.0 (point h.value)) (takes 0 (Some h.value)))
  wins s r id me at h =
      let w : View = view_after_take me.0 (point h.value) in let mine = r.known id me.0 at in record {
        now = r.now;
        place = r.place;
        begun = r.begun;
        is_sound = r.is_sound;
        known = stays_set (λ j v. IsKnownBy r.place r.now j v) s.views id w
            record {
              seen = λ _. subst (λ (z : Point). Before z r.now) (sym h.shows) (before_refl r.now);
              joined = mine.joined;
              placed = mine.placed;
              agrees = mine.agrees;
            }
            (λ j v _ e. r.known j v e);
        word = inr record {
          word = ap (λ (ws : List ℕ). set ws 0 1) h.word;
          home = ap (λ (hs : List (Option (Maybe T))). set hs 0 none) h.home;
          held = record {
            id = id;
            view = w;
            is = set_there s.views id me.0 w at;
            holds = refl;
            took = h.shows;
            alone = stays_set (λ j v. v.holds ≡ true → j ≡ id) s.views id w (λ _. refl)
                (λ j v _ e t. absurd (let f = h.free j v e in cc));
          };
        };
      }

  -- it finds another number, and the word and the view are as before
  loses : (s : State (Maybe T) View) (r : Rule s) (id n : ℕ) (me : M) → get_elem? s.views id ≡ some me.0 →
      set s.words 0 n ≡ s.words
      → Rule (stepped s 0 n id me.1 me.0 keeps)
  loses s r id n me at same =
      let views : set s.views id me.0 ≡ s.views = set_again s.views id me.0 at in
      subst Rule (λ d. record { words = sym same d; homes = s.homes; views = sym views d }) r

  pub exchanges : (slots id : ℕ) (me : M) → me.0.live ≡ true →
      Allows Rule slots id me 0 (λ n. either (eqb n 0) 1 n) (TellsTake point fact (step slots 0 0 1 none) me)
  exchanges slots id me live s r _ at _ = ⊎_elim
      (λ h. let zero_there : get_or s.words 0 0 ≡ 0 = ap (λ (ws : List ℕ). get_or ws 0 0) h.word in
      let mine = r.known id me.0 at in
      let begins : Before me.0.seen (point h.value) =
      subst (λ (z : Point). Before me.0.seen z) (sym h.shows) (mine.seen live) in (
        view_after_take me.0 (point h.value),
        takes 0 (Some h.value),
        ap (λ (hs : List (Option (Maybe T))). get_elem? hs 0) h.home,
        subst (λ b.
            Rule (stepped s 0 (either b 1 (get_or s.words 0 0)) id me.1
            (view_after_take me.0 (point h.value)) (takes 0 (Some h.value)))) (sym (eq-eqb _ 0 zero_there))
            (wins s r id me at h),
        (
          (λ _. (
            h.value,
            refl,
            record {
              meets = h.meets;
              header = sym (before_header me.0.seen (point h.value) begins);
              seen = begins;
              agrees = subst (λ (z : Point). AllAgree z me.0.logs) (sym h.shows) mine.agrees;
              distinct =
                  λ j k l m e f same. ap (λ (z : ℕ × ℕ). z.1) (sym (mine.placed j l e)
                  ∙ (ap r.place same ∙ mine.placed k m f));
            },
          )),
          λ other. absurd (other zero_there),
        ),
      ))
      (λ o. let one_there : get_or s.words 0 0 ≡ 1 = ap (λ (ws : List ℕ). get_or ws 0 0) o.word in
      let not_zero : get_or s.words 0 0 ≢ 0 = λ e. omega arith in (
        me.0,
        keeps,
        tt,
        subst (λ b. Rule (stepped s 0 (either b 1 (get_or s.words 0 0)) id me.1 me.0 keeps))
            (sym (ne_eqb _ 0 not_zero))
            (loses s r id (get_or s.words 0 0) me
            at (subst (λ (ws : List ℕ). set ws 0 (get_or ws 0 0) ≡ ws) (sym o.word) refl)),
        ((λ e. absurd (not_zero e)), λ _. refl),
      ))
      r.word
