use Rattle.std.proofs.Common.{rules, arith}
use Rattle.streams.proofs.Pieces.{none_read, one_read, many_read}
use Rattle.streams.proofs.Written.{not_true}
use Rattle.streams.proofs.reading_on.read_on.Goals as goal

pub loop-init : goal.loop-init
loop-init g c = record { going = c.requires; read = none_read (g.R.Source.left c.args.reader.now) }

pub loop-preserved : goal.loop-preserved
loop-preserved g c = record {
  going = not_true (g.R.Source.failed c.read.new.self) (λ t. c.in-Ok.ensures.failing.0 t);
  read = one_read (g.R.Source.left c.args.reader.now) (g.R.Source.left c.loop.reader)
      (g.R.Source.left c.read.new.self) c.read.new.buf c.in-Ok.field-0 c.loop.counter c.loop.invariant.read
      c.in-Ok.ensures.bytes.0 c.in-Ok.ensures.bound c.in-Ok.field-0-test.1;
}

pub returns-clause-memory : goal.returns-clause-memory
returns-clause-memory g c = λ is.
    many_read (g.R.Source.left c.args.reader.now) (g.R.Source.left c.loop.reader) c.loop.counter
    c.loop.invariant.read (omega (arith, c.loop-test.false))

pub returns-in-Ok-eq0-clause-end : goal.returns-in-Ok-eq0-clause-end
returns-in-Ok-eq0-clause-end g c = search rules

pub returns-in-Err-clause-failing : goal.returns-in-Err-clause-failing
returns-in-Err-clause-failing g c = search rules

pub returns-in-Err-clause-end : goal.returns-in-Err-clause-end
returns-in-Err-clause-end g c = search rules
