use mir.Syntax.{w64}
use mir.Val.{SFits}
use Rattle.std.proofs.Common.{◌≡◌, ℕ, ◌∙◌, Result, rules, sym, ap, subst}
use Rattle.std.proofs.lemmas.Int.{to_z-of_z}
use Rattle.monitor.specs.Below.{Answer, Fault, Step, counts_of}
use Rattle.monitor.specs.Prelude.{IsLawfulCore, IsTurn, Brings, LetsGo, Moves, given_by, holds_in}
use Rattle.monitor.specs.inner.AtOnce.{reply_of}
use Rattle.monitor.proofs.Loads.{free_stays, holds_stay, told_free, turn, turn_step}
use Rattle.monitor.proofs.under_lock.step_laden.Goals as goal

abbrev reply : (g : _) (c : goal.After-trade g) → Result Answer Fault
reply g c = reply_of c.args.seat c.args.step c.step_into-named.result c.step_into-named.new.answer

turned : (g : _) (c : goal.After-trade g) → (t : IsTurn c.args.seat (counts_of c.args.laden.now.core)
    (counts_of c.step_into-named.new.core)) × (t.step ≡ c.args.step)
turned g c =
    let kept : IsLawfulCore c.step_into-named.new.core = search rules in
    let v = c.args.laden.now.core in let w = c.step_into-named.new.core in
    let answered = c.step_into-named.ensures.answered in (
      turn v w c.args.seat c.args.step (reply g c) c.requires.kept kept c.requires.seat answered,
      turn_step v w c.args.seat c.args.step (reply g c) c.requires.kept kept c.requires.seat answered,
    )

traded : (g : _) (c : goal.After-trade g) → g.L.Load.rests c.trade.new.self (counts_of c.step_into-named.new.core)
    × g.L.Load.carries c.trade.new.there (holds_in c.step_into-named.new.core c.args.seat)
    × Moves g.L.Load.fit g.L.Load.is_counted g.L.Load.amount c.args.there.now (counts_of c.args.laden.now.core).free
    c.trade.new.there (counts_of c.step_into-named.new.core).free
traded g c =
    let fits : SFits w64 c.available-free.result = search rules in
    let t = turned g c in
    c.trade.ensures.moves c.args.seat (counts_of c.args.laden.now.core) (counts_of c.step_into-named.new.core) t.0
    c.holds_of-before.ensures c.holds_of-after.ensures
    (told_free c.step_into-named.new.core _
    (to_z-of_z w64 c.available-free.result fits ∙ c.available-free.ensures.permits))
    c.requires.rests c.requires.carries
    (subst (λ (n : ℕ). Brings g.L.Load.is_counted (g.L.Load.amount c.args.there.now) n)
    (ap given_by (sym t.1)) c.requires.brings)
    (λ go. c.requires.fit (subst (λ (z : Step). LetsGo z (holds_in c.args.laden.now.core c.args.seat)) t.1 go))

pub returns-clause-rests : goal.returns-clause-rests
returns-clause-rests g c = (traded g c).0

pub returns-clause-carries : goal.returns-clause-carries
returns-clause-carries g c = (traded g c).1

pub returns-clause-moves : goal.returns-clause-moves
returns-clause-moves g c = (traded g c).2

pub returns-clause-stays : goal.returns-clause-stays
returns-clause-stays g c = λ same free_same.
    let fits : SFits w64 c.available-free.result = search rules in
    (c.trade.ensures.stays (counts_of c.args.laden.now.core) c.requires.rests
    (free_stays c.args.seat _ _ (turned g c).0 _
    (told_free c.step_into-named.new.core _
    (to_z-of_z w64 c.available-free.result fits ∙ c.available-free.ensures.permits)) free_same)
    (holds_stay _ _ _ _ c.holds_of-before.ensures c.holds_of-after.ensures same)).1
