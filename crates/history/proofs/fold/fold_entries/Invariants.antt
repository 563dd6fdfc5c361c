use Rattle.std.proofs.Common.{◌≡◌, reverse, take}
use Rattle.history.specs.Base.{folded}
use Rattle.history.proofs.fold.fold_entries.Given as goal

abbrev pub invariant-loop-entry : goal.invariant-loop-entry
invariant-loop-entry l = l.base ≡ folded l.initial.base (reverse (take l.entry-index l.entries))
