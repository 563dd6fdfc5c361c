use Rattle.std.proofs.Common.{◌+◌, length, refl, sym, ap, subst, ◌∙◌, arith}
use Rattle.frame.specs.Core.{CoreView, header_of}
use Rattle.history.specs.Base.{Base, opening_base}
use Rattle.history.specs.declared.header.Object.TheVariants.{Lock}
use Rattle.history.specs.declared.header.Policy.TheVariants.{Fair}
use Rattle.example_guards.specs.Parts.{Prints}
use Rattle.example_guards.proofs.Printing.{plays, prints_more, prints_nothing, prints_part}
use Rattle.example_guards.proofs.history_in_parts.parts.play_rounds.Goals as goal

pub loop-init : goal.loop-init
loop-init g c =
    let k = header_of (Lock Fair) 2 0 (c.args.entries + 8) in
    let held = g.W.Write.contents c.args.out.now in
    let header = c.requires.header in
    let none = ap (λ (b : Base). b.entries) c.requires.base in
    let empty = ap length c.requires.empty in
    record {
      header = header;
      made = omega (arith, none, empty);
      printed =
          subst (λ (b : Base). Prints (opening_base k) held b held)
          (sym (c.requires.base ∙ ap opening_base header)) (prints_nothing (opening_base k) held);
    }

pub loop-preserved : goal.loop-preserved
loop-preserved g c =
    let contents = g.W.Write.contents in
    let so_far = c.loop.invariant in
    let ensures = c.in_ok-play_round.ensures in
    let more = ensures.made in
    let was = so_far.made in
    record {
      header = ensures.header ∙ so_far.header;
      made = omega (arith, more, was);
      printed =
          prints_more (opening_base (header_of (Lock Fair) 2 0 (c.args.entries + 8)))
          (contents c.args.out.now) c.loop.core.base (contents c.loop.out) c.play_round.new.core.base
          (contents c.play_round.new.out) so_far.printed ensures.printed;
    }

pub returns : goal.returns
returns g c =
    let k = header_of (Lock Fair) 2 0 (c.args.entries + 8) in
    let before = g.W.Write.contents c.args.out.now in
    let between = g.W.Write.contents c.loop.out in
    let behind = g.W.Write.contents c.print_part.new.out in
    let first = opening_base k in
    let last = c.print_part.new.core.base in
    let ensures = c.in_ok-print_part.ensures in
    let so_far = c.loop.invariant in
    let is = ap (λ (v : CoreView). v.base) ensures.folded in
    let end = c.loop.auto.counter-end in
    let no_more = c.loop-test.false in
    let was = so_far.made in
    let part = prints_part c.loop.core.base last c.loop.core.entries between behind ensures.legal is
    ensures.printed in
    plays k c.args.rounds first last before behind refl
    (ap (λ (b : Base). b.entries) is ∙ omega (arith, was, end, no_more))
    (prints_more first before c.loop.core.base between last behind so_far.printed part)
