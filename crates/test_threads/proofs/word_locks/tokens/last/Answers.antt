use Rattle.std.proofs.Common.{◌≡◌, ℕ, suc, ◌+◌, List, [], ◌∷◌, ◌++◌, sym, ap, ◌∙◌, subst, refl, arith}
use Rattle.history.specs.declared.point.Point.{Point}
use Rattle.word_lock.specs.Ready.{IsReady}
use Rattle.word_lock.specs.Ticket.{LockId, Ticket, opening_ticket, opening_tickets}
use Rattle.word_lock.proofs.Tokens.{last_opening_ticket}
use Rattle.test_threads.proofs.word_locks.tokens.last.Goals as goal

parts : (lock : LockId) (p : Point) (n m : ℕ) (all l : List Ticket) (t : Ticket) → m ≡ suc n →
    all ≡ opening_tickets lock p 0 m → all ≡ l ++ t ∷ []
    → (l ≡ opening_tickets lock p 0 n) × (t ≡ opening_ticket lock n p)
parts lock p n m all l t up is cut =
    last_opening_ticket lock p n l t (ap (λ (z : ℕ). opening_tickets lock p 0 z) (sym up) ∙ (sym is ∙ cut))

pub returns-clause-rest : goal.returns-clause-rest
returns-clause-rest c =
    let up : c.args.left + 1 ≡ suc c.args.left = omega arith in (
      c.requires.tokens.0,
      (parts c.args.lock.now c.requires.tokens.0 c.args.left (c.args.left + 1) c.args.tokens.now.items
          c.pop.new.self.items c.in-Some.token up c.requires.tokens.1 c.in-Some.ensures.items).0,
    )

pub returns-clause-last : goal.returns-clause-last
returns-clause-last c =
    let up : c.args.left + 1 ≡ suc c.args.left = omega arith in
    let is = (parts c.args.lock.now c.requires.tokens.0 c.args.left (c.args.left + 1)
    c.args.tokens.now.items c.pop.new.self.items c.in-Some.token up c.requires.tokens.1
    c.in-Some.ensures.items).1 in
    subst (IsReady c.args.lock.now c.args.left) (sym is) record {
      own = refl;
      free = refl;
      one = refl;
      seat_is = refl;
    }
