use Rattle.std.proofs.Common.{ap, arith}
use Rattle.steps.specs.StepsText.{steps_form}
use Rattle.driver.specs.ReplayStream.{Replayed}
use Rattle.driver.proofs.WrittenAnswers.{replays}
use Rattle.driver.proofs.Ending.{fault_out, fault_streams, fault_unwritten, read_still, written_out, written_unread}
use Rattle.driver.proofs.replay_stream.replay_stream.Goals as goal

pub returns-in-Ok : goal.returns-in-Ok
returns-in-Ok g c =
    record {
      streams = replays c.args.form _ _ _ c.in-Ok.answers c.write.result c.in-Ok.ensures.ok c.write.ensures.writes;
      end = written_out steps_form (g.R.Source.left c.args.reader.now) (g.R.Source.left c.answers_to.new.reader)
          (g.W.Sink.held c.args.writer.now) (g.W.Sink.held c.write.new.writer) _ c.write.result
          c.write.ensures.writes c.in-Ok.ensures.ended c.in-Ok.ensures.memory;
      read = read_still c.in-Ok.answers c.write.result _ c.in-Ok.ensures.failing
          (written_unread _ _ _ c.write.result c.write.ensures.writes);
      write = c.write.ensures.failing;
    }

pub returns-in-Err : goal.returns-in-Err
returns-in-Err g c =
    let returned = c.told_at_the_end in
    record {
      streams = fault_streams steps_form (λ text done Written. Replayed c.args.form text Written)
          (g.R.Source.left c.args.reader.now) (g.R.Source.left c.answers_to.new.reader)
          (g.W.Sink.held c.args.writer.now) c.in-Err.fault returned.result c.in-Err.ensures.err
          returned.ensures.told;
      end = fault_out (Unit {0}) steps_form (g.R.Source.left c.args.reader.now)
          (g.R.Source.left c.answers_to.new.reader)
          (g.R.Source.left returned.new.reader) c.in-Err.fault returned.result c.in-Err.ensures.err
          returned.ensures.told
          returned.ensures.memory (λ e. ap g.R.Source.left (returned.ensures.untouched e)) returned.ensures.end;
      read = grind (arith, returned.ensures.failing);
      write = fault_unwritten (Unit {0}) steps_form (g.R.Source.left c.args.reader.now)
          (g.R.Source.left c.answers_to.new.reader) c.in-Err.fault returned.result _ c.in-Err.ensures.err
          returned.ensures.told c.requires.writer;
    }
