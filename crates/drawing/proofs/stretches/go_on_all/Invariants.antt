use Rattle.std.proofs.Common.{◌≡◌, ◌∷◌, List, length, map}
use Rattle.drawing.specs.Below.{Entry, LedgerStand, Start}
use Rattle.drawing.specs.Prelude.{AreStretches}
use Rattle.drawing.proofs.Walks.{AreWalked}
use Rattle.drawing.proofs.stretches.go_on_all.Given as goal

abbrev pub invariant-loop-seat : goal.invariant-loop-seat
invariant-loop-seat l =
    (s : Start) (h : List Entry) → LedgerStand s (l.entry ∷ h) l.ledger → l.number ≡ length h →
    AreStretches s l.from h (map (λ list. list.items) l.initial.stretches.items) →
    AreWalked s l.from l.entry h (map (λ list. list.items) l.initial.stretches.items)
    (map (λ list. list.items) l.stretches.items) l.initial.bars.items l.bars.items l.seat
