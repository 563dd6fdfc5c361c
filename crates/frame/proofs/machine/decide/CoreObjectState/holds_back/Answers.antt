use Rattle.std.proofs.Common.{◌≡◌, List, ap, ◌∙◌, subst, sym}
use Rattle.frame.specs.Below.{Entry, held_back, counts, first_mode, Start}
use Rattle.frame.specs.Prelude.{CoreView, counts_of, start_of, line_mode}
use Rattle.frame.proofs.machine.decide.CoreObjectState.holds_back.Goals as goal

pub returns : goal.returns
returns g c s h st =
    let v = c.args.self.now in
    let i = c.args.seat in
    let m = c.args.mode in
    let P : CoreView → Type 0 =
    λ w. c.holds_back.result ≡ held_back (counts (start_of w) w.entries) (line_mode c.line.result) i m in
    subst P c.self.view_is (c.holds_back.ensures _ c.self.invariant.hooks)
    ∙ ap (λ first. held_back (counts_of v) first i m) c.line.ensures
    ∙ ap (λ (x : Start). held_back (counts x v.entries) (first_mode x v.entries) i m) (sym st.start)
    ∙ ap (λ (x : List Entry). held_back (counts s x) (first_mode s x) i m) (sym st.entries)
