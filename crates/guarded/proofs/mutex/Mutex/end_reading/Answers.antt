use Rattle.monitor_fronts.proofs.Owning.{read_takes}
use Rattle.guarded.proofs.Calling.{is_of_lock}
use Rattle.guarded.proofs.mutex.Mutex.end_reading.Goals as goal

pub returns : goal.returns
returns g c =
    record {
      ends = record {
        called = c.enter.ensures.called;
        given = (c.enter.result, c.enter.ensures.entered, c.done.ensures);
        takes =
            read_takes (g.P.Parking.did c.args.parking.now) c.args.pass.now c.enter.new.pass c.enter.result _
            (is_of_lock c.self.view_is c.self.invariant c.requires.can.can.is_of)
            c.enter.ensures.called.same c.enter.ensures.called.shows c.enter.ensures.entered c.requires.has
            c.done.ensures;
      };
    }
