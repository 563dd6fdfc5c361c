use Rattle.std.proofs.Common.{◌≡◌, ◌≤◌, length, reverse, take}
use Rattle.explaining.proofs.state.fill.Given as goal

abbrev pub invariant-loop-entry : goal.invariant-loop-entry
invariant-loop-entry l =
    (l.history.base ≡ l.fn.history.base)
    × (l.history.entries ≡ reverse (take l.entry-index l.entries))
    × (length l.entries ≤ l.history.places)
    × (length l.entries ≤ l.history.cap)
