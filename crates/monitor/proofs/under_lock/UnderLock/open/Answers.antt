use Rattle.std.proofs.Common.{sym, subst}
use Rattle.monitor.specs.Below.{CoreView, counts_of, Header}
use Rattle.monitor.specs.Load.{opened_counts}
use Rattle.monitor.specs.declared.under_lock.Laden.{Laden}
use Rattle.monitor.proofs.Loads.{rests_opened}
use Rattle.monitor.proofs.under_lock.UnderLock.open.Goals as goal

pub returns-in-Ok-new-clause-rests : goal.returns-in-Ok-new-clause-rests
returns-in-Ok-new-clause-rests g c =
    let v : CoreView = c.in-Ok.core in
    let e = c.in-Ok.ensures in
    subst (λ (z : Laden g.row.H.Denot g.row.L.Denot). g.L.Load.rests z.load (counts_of z.core))
    (sym c.in-Ok-new.ensures.ok)
    (rests_opened (g.L.Load.rests c.args.load) v v.header e.base e.empty
    (subst (λ (k : Header). g.L.Load.rests c.args.load (opened_counts k)) (sym e.header) c.requires.rests))
