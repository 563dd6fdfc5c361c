use Rattle.std.proofs.Common.{rules, sym, subst, ap}
use Rattle.frame.specs.Core.{CoreView}
use Rattle.history.specs.Base.{Base}
use Rattle.example_guards.specs.Parts.{Prints}
use Rattle.example_guards.proofs.Printing.{prints_nothing, prints_part}
use Rattle.example_guards.proofs.history_in_parts.parts.play_step.Goals as goal

pub returns-then-len-entries-clause-printed : goal.returns-then-len-entries-clause-printed
returns-then-len-entries-clause-printed g c =
    let held = g.W.Write.contents c.args.out.now in
    subst (λ (b : Base). Prints c.args.core.now.base held b held) (sym c.step.ensures.base)
    (prints_nothing c.args.core.now.base held)

pub returns-clause-printed : goal.returns-clause-printed
returns-clause-printed g c =
    let held = g.W.Write.contents c.args.out.now in
    let then_held = g.W.Write.contents c.print_part.new.out in
    let after = c.print_part.new.core.base in
    let ensures = c.in_ok-print_part.ensures in
    let is = ap (λ (v : CoreView). v.base) ensures.folded in
    let played = c.step.new.self in
    subst (λ (b : Base). Prints b held after then_held) c.step.ensures.base
    (prints_part played.base after played.entries held then_held ensures.legal is ensures.printed)

pub returns-then-len-entries-clause-few : goal.returns-then-len-entries-clause-few
returns-then-len-entries-clause-few g c = search rules
