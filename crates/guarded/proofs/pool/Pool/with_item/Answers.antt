use Rattle.std.proofs.Common.{refl, sym}
use Rattle.monitor.proofs.Sections.{called_unless}
use Rattle.guarded.proofs.pool.Pool.with_item.Goals as goal

pub release_one-requires-clause-kept : goal.release_one-requires-clause-kept
release_one-requires-clause-kept g c =
    c.requires.kept c.in-Ok.item c.work-answer.result c.work-answer.new.arg2 c.in-Ok.ensures.kept
    record { shown = _; shows = refl; left = _; met = c.work-answer.ensures; leaves = refl }

pub returns-in-Ok-release_one-clause-called : goal.returns-in-Ok-release_one-clause-called
returns-in-Ok-release_one-clause-called g c =
    called_unless c.args.pass.now c.acquire_one.new.pass c.release_one.new.pass c.acquire_one.ensures.called
    c.release_one.ensures.called

pub returns-in-Ok-release_one-clause-lent : goal.returns-in-Ok-release_one-clause-lent
returns-in-Ok-release_one-clause-lent g c =
    record {
      between = c.acquire_one.new.pass;
      acquired = c.in-Ok.ensures.returned;
      before = c.in-Ok.item;
      after = c.work-answer.new.arg2;
      worked = (
        c.in-Ok.ensures.kept,
        record { shown = _; shows = refl; left = _; met = c.work-answer.ensures; leaves = refl },
      );
      released = c.in-Ok-release_one.ensures.returned;
    }

pub returns-in-Err-release_one-clause-called : goal.returns-in-Err-release_one-clause-called
returns-in-Err-release_one-clause-called g c =
    called_unless c.args.pass.now c.acquire_one.new.pass c.release_one.new.pass c.acquire_one.ensures.called
    c.release_one.ensures.called

pub returns-in-Err-release_one-clause-lent : goal.returns-in-Err-release_one-clause-lent
returns-in-Err-release_one-clause-lent g c =
    record {
      between = c.acquire_one.new.pass;
      acquired = c.in-Ok.ensures.returned;
      before = c.in-Ok.item;
      after = c.work-answer.new.arg2;
      worked = (
        (
          c.in-Ok.ensures.kept,
          record { shown = _; shows = refl; left = _; met = c.work-answer.ensures; leaves = refl },
        ),
        sym c.in-Err-release_one.ensures.back,
      );
      released = c.in-Err-release_one.ensures.returned;
    }
