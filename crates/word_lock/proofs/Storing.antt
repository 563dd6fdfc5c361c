-- The store of 0, by the token that holds, keeps the rule.
use Rattle.std.proofs.Common.{◌≡◌, ◌≢◌, ℕ, true, false, List, [], ◌∷◌, ◌++◌, map, set, refl, ap, sym, ◌∙◌, subst, inl, ⊎_elim, Some, None}
use Rattle.std.specs.declared.option.Option.{Option as Maybe}
use mathlib.Core.Option.{none, some}
use lib.ListN.{get_elem?}
use Rattle.atomic_table.specs.Table.{State, Me, step, gives, Allows, put_back, rest}
use Rattle.std.proofs.lemmas.Bool.{false_from_ne_true}
use Rattle.history.specs.declared.entry.Entry.{Entry}
use Rattle.history.specs.declared.point.Point.{Point}
use Rattle.word_lock.specs.Prelude.{SeatLog, View, Before, Agrees, added, Follows, with_added, view_after_give, IsKnownBy, RuleHolds, TellsGive}
use Rattle.word_lock.proofs.Lists.{stays_set, one_only, one_at}
use Rattle.word_lock.proofs.PointLaws.{before_refl, before_trans, follows_before, follows_own, follows_other}

-- the value of the slot that was taken last
abbrev value_or : {A : Type 0} → A → List (ℕ × A) → A
value_or d [] = d
value_or d (x ∷ xs) = x.1

module _ {T : Type 0} (point : T → Point) (fact : T → Type 0) (sound : Point → Type 0)
    (is_sound : (x : T) → fact x → sound (point x)) (start : Point) where
  abbrev M : Type 0
  M = Me (Maybe T) View

  abbrev Rule : State (Maybe T) View → Type 0
  Rule s = RuleHolds point fact sound start s

  -- what the token with the one log knows after the store, where p was taken and q is given back
  knows_own : (place : ℕ → ℕ × ℕ) (p q : Point) (id : ℕ) (v : View) (l : SeatLog) → v.logs ≡ l ∷ [] →
      v.seen ≡ p → Follows l.seat p q → v.live ≡ true
      → IsKnownBy place p id v → IsKnownBy place q id (view_after_give v q)
  knows_own place p q id v l one took follows live mine =
      let on : Before p q = follows_before l.seat p q follows in
      let es : List Entry = added v.seen q in
      let first : get_elem? v.logs 0 ≡ some l = ap (λ (ls : List SeatLog). get_elem? ls 0) one in
      let agreed : Agrees q l.seat (es ++ l.entries) =
      subst (λ (z : Point). Agrees q l.seat (added z q ++ l.entries)) (sym took)
      (follows_own l.seat p q l.entries follows (mine.agrees 0 l first)) in
      let logs : map (with_added es) v.logs ≡ with_added es l ∷ [] = ap (map (with_added es)) one in
      let only : (k : ℕ) (m : SeatLog) → get_elem? (map (with_added es) v.logs) k ≡ some m → (k ≡ 0)
      × (with_added es l ≡ m) =
      λ k m e. one_only (with_added es l) m k
      (subst (λ (z : List SeatLog). get_elem? z k ≡ some m) logs e) in record {
        seen = λ _. before_refl q;
        joined = λ _ k x e. before_trans x p q (mine.joined live k x e) on;
        placed = λ k m e. let t = only k m e in
            ap (λ (z : SeatLog). place z.seat) (sym t.1)
            ∙ (mine.placed 0 l first ∙ ap (λ (z : ℕ). (id, z)) (sym t.0));
        agrees = λ k m e. let t = only k m e in subst (λ (z : SeatLog). Agrees q z.seat z.entries) t.1 agreed;
      }

  -- what another token knows then
  knows_other : (place : ℕ → ℕ × ℕ) (p q : Point) (seat id j : ℕ) (v : View) → Follows seat p q →
      place seat ≡ (id, 0) → j ≢ id → IsKnownBy place p j v → IsKnownBy place q j v
  knows_other place p q seat id j v follows here other theirs =
      let on : Before p q = follows_before seat p q follows in record {
        seen = λ live. before_trans v.seen p q (theirs.seen live) on;
        joined = λ live k x e. before_trans x p q (theirs.joined live k x e) on;
        placed = theirs.placed;
        agrees = λ k m e. follows_other seat m.seat p q m.entries follows
            (λ is. other (ap (λ (z : ℕ × ℕ). z.0) (sym (theirs.placed k m e) ∙ (ap place is ∙ here))))
            (theirs.agrees k m e);
      }

  pub gives_back : (slots id : ℕ) (me : M) (l : SeatLog) (x : T) → me.0.live ≡ true → me.0.holds ≡ true →
      me.0.logs ≡ l ∷ [] → me.1 ≡ (0, Some x) ∷ []
      → fact x → Follows l.seat me.0.seen (point x) →
      Allows Rule slots id me 0 (λ _. 0) (λ _. TellsGive point (step slots 0 0 0 none) me 0)
  gives_back slots id me l x live holds one carries meets follows s r _ at _ = ⊎_elim
      (λ h. absurd (let f = h.free id me.0 at in cc))
      (λ o.
      let h = o.held in
      let here : id ≡ h.id = h.alone id me.0 at holds in
      let same_view : me.0 ≡ h.view =
      one_at s.views id me.0 h.view
      at (subst (λ (z : ℕ). get_elem? s.views z ≡ some h.view) (sym here) h.is) in
      let took : me.0.seen ≡ r.now = ap (λ (v : View). v.seen) same_view ∙ h.took in
      let on_now : Follows l.seat r.now (point x) =
      subst (λ (z : Point). Follows l.seat z (point x)) took follows in
      let mine = r.known id me.0 at in
      let first : get_elem? me.0.logs 0 ≡ some l = ap (λ (ls : List SeatLog). get_elem? ls 0) one in
      let w : View = view_after_give me.0 (point x) in (
        w,
        gives,
        tt,
        record {
          now = point x;
          place = r.place;
          begun = before_trans start r.now (point x) r.begun (follows_before l.seat r.now (point x) on_now);
          is_sound = is_sound x meets;
          known = stays_set (λ j v. IsKnownBy r.place (point x) j v) s.views id w
              (knows_own r.place r.now (point x) id me.0 l one took on_now live mine)
              (λ j v other e. knows_other r.place r.now (point x) l.seat id j v on_now
              (mine.placed 0 l first) other (r.known j v e));
          word = inl record {
            word = ap (λ (ws : List ℕ). set ws 0 0) o.word;
            value = x;
            home = λ d. put_back (o.home d) (carries d);
            meets = meets;
            shows = refl;
            free = stays_set (λ j v. v.holds ≡ false) s.views id w refl
                (λ j v other e. false_from_ne_true v.holds (λ t. other (h.alone j v e t ∙ sym here)));
          };
        },
        λ y is. let both : Some x ≡ Some y = ap (value_or None) (sym carries ∙ is) in
            let same : x ≡ y = cc both in λ d. (view_after_give me.0 (point (same d)), rest (carries d)),
      ))
      r.word
