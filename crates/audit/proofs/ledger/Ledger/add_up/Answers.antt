use Rattle.std.proofs.Common.{ap, sym}
use Rattle.history.specs.declared.header.Header.{Header}
use Rattle.audit.proofs.ledger.Ledger.add_up.Goals as goal

pub balance_of-requires : goal.balance_of-requires
balance_of-requires c = let r = c.requires in (r.start, r.front, r.stand, r.room)

pub returns : goal.returns
returns c s h st =
    c.of.ensures.adds s h st.past (ap (λ (k : Header). k.object) (sym st.header))
    (c.balance_of.ensures.balance s h st)
