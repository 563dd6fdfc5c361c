use Rattle.std.proofs.Common.{ap, arith}
use Rattle.std.specs.Io.KnownBytes.{Appends}
use Rattle.driver.specs.Below.{Verdict, history_form, AppendsFront}
use Rattle.driver.specs.Prelude.{IsToldOf}
use Rattle.driver.proofs.Audits.{rewritten, some_verdict}
use Rattle.driver.proofs.Ending.{fault_out, fault_streams, fault_unwritten}
use Rattle.driver.proofs.tell_stream.tell_stream.Goals as goal

-- all was written
pub returns-in-Ok-write_all : goal.returns-in-Ok-write_all
returns-in-Ok-write_all g c =
    record {
      streams = rewritten c.args.telling (g.R.Source.left c.args.reader.now) c.in-Ok.told.verdict _
          (Appends (g.W.Sink.held c.args.writer.now) (g.W.Sink.held c.write_all.new.writer))
          c.in-Ok.ensures.ok (rw c.deref.ensures.value at c.in-Ok-write_all.ensures.ok);
      end = c.in-Ok.ensures.ended;
      read = grind (arith, c.in-Ok.ensures.failing);
      write = grind (arith, c.in-Ok-write_all.ensures.failing);
    }

-- writing failed
pub returns-in-Ok : goal.returns-in-Ok
returns-in-Ok g c =
    record {
      streams = some_verdict c.args.telling (g.R.Source.left c.args.reader.now) c.in-Ok.told.verdict _
          (rewritten c.args.telling (g.R.Source.left c.args.reader.now) c.in-Ok.told.verdict _
          (AppendsFront (g.W.Sink.held c.args.writer.now) (g.W.Sink.held c.write_all.new.writer))
          c.in-Ok.ensures.ok (rw c.deref.ensures.value at c.in-Err-write_all.ensures.err));
      end = c.in-Ok.ensures.ended;
      read = grind (arith, c.in-Ok.ensures.failing);
      write = grind (arith, c.in-Err-write_all.ensures.failing);
    }

-- the text or its source has a fault
pub returns : goal.returns
returns g c =
    let told = c.told_at_the_end in
    record {
      streams = fault_streams history_form (IsToldOf c.args.telling) (g.R.Source.left c.args.reader.now)
          (g.R.Source.left c.told_of.new.reader) (g.W.Sink.held c.args.writer.now) c.in-Err.fault told.result
          c.in-Err.ensures.err told.ensures.told;
      end = fault_out Verdict history_form (g.R.Source.left c.args.reader.now)
          (g.R.Source.left c.told_of.new.reader) (g.R.Source.left told.new.reader) c.in-Err.fault told.result
          c.in-Err.ensures.err told.ensures.told told.ensures.memory
          (λ e. ap g.R.Source.left (told.ensures.untouched e)) told.ensures.end;
      read = grind (arith, told.ensures.failing);
      write = fault_unwritten Verdict history_form (g.R.Source.left c.args.reader.now)
          (g.R.Source.left c.told_of.new.reader) c.in-Err.fault told.result _ c.in-Err.ensures.err
          told.ensures.told c.requires.writer;
    }
