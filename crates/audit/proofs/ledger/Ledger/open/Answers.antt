use Rattle.std.proofs.Common.{refl}
use Rattle.audit.proofs.Beginnings.{begins_at_opening}
use Rattle.audit.proofs.ledger.Ledger.open.Goals as goal

pub returns-clause-stand : goal.returns-clause-stand
returns-clause-stand c =
    record {
      header = refl;
      holding = c.in_ok-holds.ensures.stand c.args.header refl;
      waits = c.in_ok-waiting.ensures.stand;
      numbers = c.open-3.ensures c.args.header refl;
      past = begins_at_opening c.args.header c.requires;
    }
