use Rattle.std.proofs.Common.{List}
use Rattle.drawing.specs.Below.{Entry, LedgerStand, Start}
use Rattle.drawing.specs.inner.Stretches.{ending, going_on}
use Rattle.drawing.proofs.Walks.{IsWalked}
use Rattle.drawing.proofs.stretches.go_on_seat.Given as goal

abbrev pub invariant-loop-place : goal.invariant-loop-place
invariant-loop-place l =
    (s : Start) (h : List Entry) → LedgerStand s h l.ledger →
    IsWalked (going_on s h l.number) (ending s h l.number) l.initial.stretches.items l.stretches.items
    l.initial.bars.items l.bars.items l.place
