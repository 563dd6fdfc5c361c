use Rattle.std.proofs.Common.{◌∙◌, arith}
use Rattle.example_guards.proofs.Printing.{prints_more}
use Rattle.example_guards.proofs.history_in_parts.parts.play_round.Goals as goal

pub loop-seat-preserved : goal.loop-seat-preserved
loop-seat-preserved g c =
    let contents = g.W.Write.contents in
    let so_far = c.loop-seat.invariant in
    let ensures = c.in_ok-play_step.ensures in
    let i = c.loop-seat.seat-index in
    let more = ensures.made in
    let was = so_far.made in
    let test = c.loop-seat-test.true in
    record {
      header = ensures.header ∙ so_far.header;
      within = omega (arith, test);
      made = omega (arith, more, was);
      printed =
          prints_more c.args.core.now.base (contents c.args.out.now) c.loop-seat.core.base
          (contents c.loop-seat.out) c.play_step.new.core.base (contents c.play_step.new.out) so_far.printed
          ensures.printed;
    }
