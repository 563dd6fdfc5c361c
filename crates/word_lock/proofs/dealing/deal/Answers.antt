use Rattle.std.proofs.Common.{◌≡◌, ℕ, suc, ◌+◌, ◌-◌, true, List, [], ◌∷◌, ◌++◌, ap, ◌∙◌, subst, arith, vec_len}
use Rattle.std.specs.declared.option.Option.{Option as Maybe}
use Rattle.atomic_table.specs.Seated.{TableId}
use Rattle.atomic_table.specs.Table.{Me}
use Rattle.history.specs.declared.point.Point.{Point}
use Rattle.word_lock.specs.Prelude.{View, dealing_view, rest_of_view, front_of_view, Ticket, ticket, lock_id, opening_ticket, opening_tickets}
use Rattle.word_lock.proofs.Opening.{deal_one, deal_rest, opening_tickets_more}
use Rattle.word_lock.proofs.dealing.deal.Goals as goal

-- one token more
more : (table table' : TableId) (p : Point) (k : ℕ) (v : View) (xs ys : List Ticket) (t : Ticket) →
    table' ≡ table → v ≡ dealing_view k 1 p → t ≡ ticket table' true v
    → xs ≡ opening_tickets (lock_id table p) p 0 k → ys ≡ xs ++ t ∷ [] →
    ys ≡ opening_tickets (lock_id table p) p 0 (suc k)
more table table' p k v xs ys t same is made old new =
    let t' : t ≡ opening_ticket (lock_id table p) k p = made ∙ ((λ d. ticket (same d) true (is d))) in
    let here : k ≡ 0 + k = omega arith in
    new ∙ ((λ d. old d ++ t' d ∷ []) ∙ opening_tickets_more (lock_id table p) p 0 k k here)

pub loop-number-preserved : goal.loop-number-preserved
loop-number-preserved g c =
    let i = c.loop-number.invariant in let old = c.loop-number.tokens in
    let M : Type 0 = Me (Maybe g.row.T.Denot) View in
    let k : ℕ = vec_len old in let n : ℕ = i.4.0 in let m : ℕ = n - 1 in
    let p : Point = c.args.first.me.0.seen in let table : TableId = c.args.shared.now.table_id in
    let left : k + n ≡ c.args.seats = i.4.1 in
    let some_left : n ≡ suc m = omega arith in
    let me : c.loop-number.last.me ≡ (dealing_view k (suc m) p, []) =
    subst (λ (z : ℕ). c.loop-number.last.me ≡ (dealing_view k z p, [])) some_left i.4.2 in
    let view : c.loop-number.last.me.0 ≡ dealing_view k (suc m) p = ap (λ (x : M). x.0) me in
    let one : c.split_token-seat.result.me.0 ≡ dealing_view k 1 p =
    ap (λ (x : M). x.0) c.split_token-seat.ensures.given.1 ∙ (ap front_of_view view ∙ deal_one k m p) in
    let rest : c.split_token-seat.new.seat.me ≡ (dealing_view (suc k) m p, []) =
    c.split_token-seat.ensures.kept.1
    ∙ ((λ d. (rest_of_view (view d), (me d).1)) ∙ ap (λ (v : View). (v, [])) (deal_rest k m p)) in
    let longer : suc k ≡ vec_len c.push_reserved.new.self = omega arith in (
      omega arith,
      more table c.split_token-seat.result.table_id p k c.split_token-seat.result.me.0 old.items
          c.push_reserved.new.self.items c.of.result c.split_token-seat.ensures.given.0 one c.of.ensures i.1
          c.push_reserved.ensures.items
          ∙ ap (λ (z : ℕ). opening_tickets (lock_id table p) p 0 z) longer,
      omega arith,
      c.split_token-seat.ensures.kept.0,
      (m, omega arith, rest ∙ ap (λ (z : ℕ). (dealing_view z m p, [])) longer),
    )

pub returns : goal.returns
returns g c =
    let i = c.loop-number.invariant in let old = c.loop-number.tokens in let last = c.loop-number.last in
    let M : Type 0 = Me (Maybe g.row.T.Denot) View in
    let k : ℕ = vec_len old in let n : ℕ = i.4.0 in let p : Point = c.args.first.me.0.seen in
    let table : TableId = c.args.shared.now.table_id in
    let left : k + n ≡ c.args.seats = i.4.1 in
    let one : n ≡ 1 = omega arith in
    let view : last.me.0 ≡ dealing_view k 1 p =
    ap (λ (x : M). x.0) (subst (λ (z : ℕ). last.me ≡ (dealing_view k z p, [])) one i.4.2) in
    let all : suc k ≡ c.args.seats = omega arith in
    more table last.table_id p k last.me.0 old.items c.push_reserved-2.new.self.items c.of-2.result i.3 view
    c.of-2.ensures i.1 c.push_reserved-2.ensures.items
    ∙ ap (λ (z : ℕ). opening_tickets (lock_id table p) p 0 z) all
