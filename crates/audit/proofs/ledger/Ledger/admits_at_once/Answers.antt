use Rattle.audit.proofs.AtOnce.{acquire_next, release_next}
use Rattle.audit.proofs.ledger.Ledger.admits_at_once.Goals as goal

pub returns-then-begins : goal.returns-then-begins
returns-then-begins c s h st takes =
    acquire_next s h c.args.entry _ (c.is_plain.ensures c.if-not-is_plain.false) c.in-Got.is
    (c.begins.ensures s h st c.if-begins.true) (c.takes.ensures s h st takes)

pub returns-then-begins-2 : goal.returns-then-begins-2
returns-then-begins-2 c s h st queues =
    acquire_next s h c.args.entry _ (c.is_plain.ensures c.if-not-is_plain.false) c.in-Queued.is
    (c.begins-in-Queued.ensures s h st c.if-begins-2.true) (c.queues.ensures s h st queues)

pub returns-then-begins-3 : goal.returns-then-begins-3
returns-then-begins-3 c s h st gives =
    release_next s h c.args.entry _ (c.is_plain.ensures c.if-not-is_plain.false) c.in-Gave.is
    (c.begins-in-Gave.ensures s h st c.if-begins-3.true) (c.gives.ensures s h st gives)
