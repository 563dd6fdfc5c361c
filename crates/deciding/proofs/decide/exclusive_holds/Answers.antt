use Rattle.std.proofs.Common.{◌≡◌, ◌<◌, ltb, arith, ◌∙◌, sym, ap, subst}
use Rattle.history.specs.declared.header.Header.{Header}
use Rattle.deciding.proofs.Bounds.{exclusive_fits, owner_holds_any}
use Rattle.deciding.proofs.decide.exclusive_holds.Goals as goal

pub overflow_cast-result : goal.overflow_cast-result
overflow_cast-result g c =
    let r = c.requires.seat in
    let past = g.met.T.ObjectState.is_history r.0 r.1 c.args.state.now r.2 in
    let is = c.held.ensures r.0 r.1 r.2 in
    let small = exclusive_fits r.0 r.1 c.args.seat past (c.requires.lock r.0 r.1 r.2) in
    omega (arith, is, small)

pub returns-clause-owns : goal.returns-clause-owns
returns-clause-owns g c s h st =
    let r = c.requires.seat in
    let past = g.met.T.ObjectState.is_history s h c.args.state.now st in
    let same : r.0.header ≡ s.header =
    sym (c.header-header.ensures r.0 r.1 r.2) ∙ c.header-header.ensures s h st in
    owner_holds_any s h c.args.seat past (c.requires.lock s h st)
    (subst (λ (k : Header). c.args.seat < k.seats) same r.3)
    ∙ ap (ltb 0) (sym (c.held.ensures s h st))
