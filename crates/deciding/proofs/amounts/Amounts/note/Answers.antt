use Rattle.std.proofs.Common.{◌≡◌, ℤ, refl, ap, sym, ◌∙◌, subst, arith, FitsSigned}
use Rattle.std.specs.Int.{w128}
use mir.Val.{to_z, of_z}
use Rattle.std.proofs.lemmas.Int.{to_z-of_z}
use Rattle.history.specs.Counts.{free_after}
use Rattle.deciding.proofs.AmountsFollow.{amounts_follow}
use Rattle.deciding.proofs.amounts.Amounts.note.Goals as goal

pub returns : goal.returns
returns c s h st =
    let e = c.args.entry in
    let read : to_z w128 (of_z w128 c.args.self.now.free) ≡ c.args.self.now.free =
    to_z-of_z w128 c.args.self.now.free st.free_fits in
    let written : to_z w128 (of_z w128 c.free_after-self.result) ≡ c.free_after-self.result =
    to_z-of_z w128 c.free_after-self.result c.free_after-self.ensures.fits in
    let P : ℤ → Type 0 = λ z. FitsSigned w128 z in
    amounts_follow s e h c.args.self.now _ c.counted_by.result st (omega arith)
    (written ∙ c.free_after-self.ensures.is ∙ ap (free_after e.word e.n) read)
    (subst P (sym written) c.free_after-self.ensures.fits)
    refl c.counted_by.ensures.is c.counted_by.ensures.bound
