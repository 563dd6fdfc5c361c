use Rattle.std.proofs.Common.{◌≡◌, ℕ, ◌<◌, Some, reverse}
use Rattle.std.specs.List.{slice_get}
use Rattle.history.specs.declared.entry.Entry.{Entry}
use Rattle.history_text.specs.EntryLines.{HasLine}
use Rattle.history_text.proofs.fitting.fits.Given as goal

abbrev pub invariant-loop-number : goal.invariant-loop-number
invariant-loop-number l = (k : ℕ) (e : Entry) → k < l.number →
    slice_get (reverse l.history.entries) k ≡ Some e → HasLine l.header e
