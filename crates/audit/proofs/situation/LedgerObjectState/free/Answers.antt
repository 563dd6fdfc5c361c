use Rattle.std.proofs.Common.{◌≡◌, ◌∙◌, sym, subst, FitsSigned}
use Rattle.std.specs.Int.{w64, w128}
use mir.Val.{to_z, of_z}
use Rattle.std.proofs.lemmas.Int.{to_z-of_z}
use Rattle.deciding.proofs.Bounds.{free_wide}
use Rattle.audit.proofs.situation.LedgerObjectState.free.Goals as goal

pub overflow_cast-result : goal.overflow_cast-result
overflow_cast-result c =
    let r = c.requires in
    let z = c.args.self.now.amounts.free in
    let is = to_z-of_z w128 z r.2.numbers.free_fits ∙ r.2.numbers.is_free in
    subst (FitsSigned w64) (sym is) (free_wide r.0 r.1 r.2.past r.3)

pub returns : goal.returns
returns c s h st =
    let r = c.requires in
    let z = c.args.self.now.amounts.free in
    let read : to_z w128 (of_z w128 z) ≡ z = to_z-of_z w128 z r.2.numbers.free_fits in
    let wide = free_wide r.0 r.1 r.2.past r.3 in
    let fits = subst (FitsSigned w64) (sym (read ∙ r.2.numbers.is_free)) wide in
    to_z-of_z w64 (to_z w128 (of_z w128 z)) fits ∙ read ∙ st.numbers.is_free
