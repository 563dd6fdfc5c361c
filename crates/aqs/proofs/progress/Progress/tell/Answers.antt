use Rattle.std.proofs.Common.{rules, inr, IsTrue, ◌∙◌}
use Rattle.aqs.proofs.Telling.{shown}
use Rattle.aqs.proofs.progress.Progress.tell.Goals as goal

pub returns-in-Ok : goal.returns-in-Ok
returns-in-Ok g c =
    let old = c.args.self.now in
    let on_terminal : IsTrue old.is_shown = search rules in
    inr (
      on_terminal,
      shown g.E.Write.contents old c.wipe.new.self c.put.new.error c.deref.result.now c.len-self.result c.wipe.ensures
          c.put.ensures (c.deref.ensures.value ∙ c.in-Ok.ensures) (search rules),
    )
