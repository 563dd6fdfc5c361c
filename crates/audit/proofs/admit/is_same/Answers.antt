use Rattle.std.proofs.Common.{◌∙◌, ap, sym}
use Rattle.history.specs.contracts.entry.EntryPartialEq.TheImpl as entries
use Rattle.audit.proofs.SameEntries.{itself, same_entries}
use Rattle.audit.proofs.admit.is_same.Goals as goal

pub returns : goal.returns
returns c = (
  λ t. same_entries c.args.one c.args.other (sym c.eq.ensures ∙ t),
  λ q. c.eq.ensures ∙ ap (entries.ghosts.eq c.args.one) (sym q) ∙ itself c.args.one,
)
