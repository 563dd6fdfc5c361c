-- What a token has after it took the value at the point p and gave it back at the point q.
use Rattle.std.proofs.Common.{◌≡◌, ℕ, true, List, ◌++◌, length, refl, sym, ap, ◌∙◌, subst}
use mathlib.Core.Option.{some}
use lib.ListN.{get_elem?}
use Rattle.history.specs.declared.point.Point.{Point}
use Rattle.word_lock.specs.Prelude.{SeatLog, Before, Agrees, Follows, added, AllAgree, Ticket, first_seat, first_entries, after_lock, after_unlock}
use Rattle.word_lock.proofs.PointLaws.{before_trans, follows_before, follows_own}
use Rattle.word_lock.proofs.Tokens.{one_log}

-- what the token of one seat has gained by a section, from the ticket t to the ticket n
pub record IsSection (t n : Ticket) (p q : Point) (seat : ℕ) : Type 0 where
  pub lock : n.lock ≡ t.lock
  pub free : n.free ≡ true
  pub one : length n.logs ≡ 1
  pub seat_is : first_seat n.logs ≡ seat
  pub seen : n.seen ≡ q
  pub begins : Before t.seen n.seen
  pub agrees : Agrees n.seen seat (first_entries n.logs)
  pub grown : first_entries n.logs ≡ added p q ++ first_entries t.logs

pub section : (t o n : Ticket) (p q : Point) (seat : ℕ) → o ≡ after_lock t p → n ≡ after_unlock o q →
    length t.logs ≡ 1 → first_seat t.logs ≡ seat
    → Before t.seen p → AllAgree p t.logs → Follows seat p q → IsSection t n p q seat
section t o n p q seat out back one own begins agree follows =
    let first : get_elem? t.logs 0 ≡ some record {
      seat = first_seat t.logs;
      entries = first_entries t.logs;
    } = ap (λ (l : List SeatLog). get_elem? l 0) (one_log t.logs one) in
    let had : Agrees p seat (first_entries t.logs) =
    subst (λ (k : ℕ). Agrees p k (first_entries t.logs)) own (agree 0 _ first) in
    let is : n ≡ after_unlock (after_lock t p) q = back ∙ ap (λ (z : Ticket). after_unlock z q) out in
    subst (λ (z : Ticket). IsSection t z p q seat) (sym is) record {
      lock = refl;
      free = refl;
      one = refl;
      seat_is = own;
      seen = refl;
      begins = before_trans t.seen p q begins (follows_before seat p q follows);
      agrees = follows_own seat p q (first_entries t.logs) follows had;
      grown = refl;
    }

-- what the token of the seat took at p, as the ticket o says, it may give back at q
pub follows_taken : (o t : Ticket) (p q : Point) (seat : ℕ) → o ≡ after_lock t p →
    first_seat t.logs ≡ seat → Follows seat p q → Follows (first_seat o.logs) o.seen q
follows_taken o t p q seat is own f =
    subst (λ (z : Ticket). Follows (first_seat z.logs) z.seen q) (sym is)
    (subst (λ (k : ℕ). Follows k p q) (sym own) f)
