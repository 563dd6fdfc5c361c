use Rattle.std.proofs.Common.{◌≡◌, ◌<◌, ◌^◌, length, refl, subst, arith}
use Rattle.deciding.specs.ObjectState.{IsHistory}
use Rattle.frame.specs.Core.{CoreView, StandsFor, start_of}
use Rattle.frame.proofs.Stepping.{history_of}
use Rattle.frame.proofs.machine.Core.balance.Goals as goal
use Rattle.frame.proofs.machine.Core.balance.Goals.{After-self}

-- the core stands for its history
stands : (g : _) (c : After-self g) →
    StandsFor (start_of c.args.self.now) c.args.self.now.entries c.args.self.now
stands g c =
    let s = c.self.invariant in
    let P : CoreView → Type 0 = λ w. IsHistory (start_of w) w.entries in
    record {
      start = refl;
      header = subst (λ (w : CoreView). w.base.header ≡ w.header) c.self.view_is s.based;
      entries = refl;
      past = subst P c.self.view_is (history_of s);
    }

pub balance_of-requires : goal.balance_of-requires
balance_of-requires g c =
    let s = c.self.invariant in
    let P : CoreView → Type 0 = λ w. length w.entries < 2 ^ 32 in
    let short = subst P c.self.view_is (let r = s.room in let k = s.range.cap in omega (arith, r, k)) in
    let known = stands g (goal.at.balance_of-requires g c).After-self in
    (start_of c.args.self.now, c.args.self.now.entries, known, short)

pub returns-clause-balance : goal.returns-clause-balance
returns-clause-balance g c =
    c.balance_of.ensures.balance _ _ (stands g (goal.at.returns-clause-balance g c).After-self)
