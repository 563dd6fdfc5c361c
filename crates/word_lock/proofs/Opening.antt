-- The rule holds at the opening, and the tokens are dealt from the first view, one at each split.
use Rattle.std.proofs.Common.{◌≡◌, ℕ, zero, suc, ◌+◌, false, List, [], ◌∷◌, ◌++◌, refl, ap, sym, subst, inl, arith, Some}
use mathlib.Core.Option.{some-injective, some-ne-none, some}
use lib.ListN.{get_elem?}
use Rattle.atomic_table.specs.Table.{opening}
use Rattle.history.specs.declared.entry.Entry.{Entry}
use Rattle.history.specs.declared.point.Point.{Point}
use Rattle.word_lock.specs.Prelude.{SeatLog, View, Agrees, empty_logs, first_view, dealing_view, front_of_view, rest_of_view, IsKnownBy, RuleHolds, LockId, Ticket, opening_ticket, opening_tickets}
use Rattle.word_lock.proofs.Lists.{one_only}
use Rattle.word_lock.proofs.PointLaws.{before_refl}

empty_log_at : (k n q : ℕ) (l : SeatLog) → get_elem? (empty_logs k n) q ≡ some l → (l.seat ≡ k + q)
    × (l.entries ≡ [])
empty_log_at k zero q l e = absurd (some-ne-none l (sym e))
empty_log_at k (suc n) zero l e =
    let is = some-injective record { seat = k; entries = [] } l e in
    let same : k ≡ l.seat = ap (λ (z : SeatLog). z.seat) is in
    (omega arith, sym (ap (λ (z : SeatLog). z.entries) is))
empty_log_at k (suc n) (suc q) l e =
    let t = empty_log_at (suc k) n q l e in let h : l.seat ≡ suc k + q = t.0 in (omega arith, t.1)

module _ {T : Type 0} (point : T → Point) (fact : T → Type 0) (sound : Point → Type 0)
    (is_sound : (x : T) → fact x → sound (point x)) (start : Point) where
  pub opens : (value : T) (n : ℕ) → fact value → start ≡ point value → ((seat : ℕ) → Agrees start seat [])
      → RuleHolds point fact sound start (opening (0 ∷ []) (Some value ∷ []) (first_view start n))
  opens value n meets is empty = record {
    now = start;
    place = λ x. (0, x);
    begun = before_refl start;
    is_sound = subst sound (sym is) (is_sound value meets);
    known = λ j v e. let t = one_only (first_view start n) v j e in
        subst (λ (z : ℕ × View). IsKnownBy (λ x. (0, x)) start z.0 z.1) (λ d. (sym (t.0) d, t.1 d)) record {
          seen = λ _. before_refl start;
          joined = λ _ k p e. absurd (some-ne-none p (sym e));
          placed = λ q l e. let h = empty_log_at 0 n q l e in
              let same : l.seat ≡ q = (let a : l.seat ≡ 0 + q = h.0 in omega arith) in
              ap (λ (z : ℕ). (0, z)) same;
          agrees = λ q l e. subst (λ (z : List Entry). Agrees start l.seat z)
              (sym (empty_log_at 0 n q l e).1) (empty l.seat);
        };
    word = inl record {
      word = refl;
      value = value;
      home = refl;
      meets = meets;
      shows = sym is;
      free = λ j v e. subst (λ (z : View). z.holds ≡ false) (one_only (first_view start n) v j e).1 refl;
    };
  }

pub deal_one : (k m : ℕ) (p : Point) → front_of_view (dealing_view k (suc m) p) ≡ dealing_view k 1 p
deal_one k m p = refl

pub deal_rest : (k m : ℕ) (p : Point) → rest_of_view (dealing_view k (suc m) p) ≡ dealing_view (suc k) m p
deal_rest k m p = refl

-- one ticket more
pub opening_tickets_more : (lock : LockId) (p : Point) (k n m : ℕ) → m ≡ k + n
    → opening_tickets lock p k n ++ opening_ticket lock m p ∷ [] ≡ opening_tickets lock p k (suc n)
opening_tickets_more lock p k zero m e =
    let same : m ≡ k = omega arith in ap (λ (z : ℕ). opening_ticket lock z p ∷ []) same
opening_tickets_more lock p k (suc n) m e =
    let next : m ≡ suc k + n =
    omega arith in ap (λ (l : List Ticket). opening_ticket lock k p ∷ l)
    (opening_tickets_more lock p (suc k) n m next)
