use Rattle.std.proofs.Common.{◌-◌, length, drop, arith, length-take, length-drop}
use Rattle.std.proofs.lemmas.Grind.{common_steps}
use Rattle.streams.proofs.Written.{one_more, not_true}
use Rattle.streams.proofs.writing.write_all.Goals as goal

pub loop-at-preserved : goal.loop-at-preserved
loop-at-preserved g c = record {
  known = one_more _ _ _ c.args.bytes.now c.loop-at.at c.in_ok-at.field-0 c.loop-at.invariant.known
      c.in_ok-at.ensures.bytes;
  inside = omega (
    arith,
    c.in_ok-at.ensures.bound,
    c.loop-at-test.true,
    c.loop-at.invariant.inside,
    length-drop c.loop-at.at c.args.bytes.now,
    length-take (length c.args.bytes.now - c.loop-at.at) (drop c.loop-at.at c.args.bytes.now),
  );
  going = not_true (g.W.Sink.failed c.write.new.self) (λ t. c.in_ok-at.ensures.failing.0 t);
}

pub returns-clause-ok : goal.returns-clause-ok
returns-clause-ok g c = grind (arith, common_steps)
