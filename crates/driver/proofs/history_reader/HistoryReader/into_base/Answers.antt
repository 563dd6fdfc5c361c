use Rattle.history_text.proofs.Heads.{based_well}
use Rattle.driver.proofs.history_reader.HistoryReader.into_base.Goals as goal

pub returns-clause-well : goal.returns-clause-well
returns-clause-well c =
    let held = c.self.inside in
    rw (← c.self.view_is) (based_well held.header held.base c.self.invariant.4 c.self.invariant.5)
