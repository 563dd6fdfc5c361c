use Rattle.std.proofs.Common.{reverse, take}
use Rattle.history.specs.Base.{based}
use Rattle.drawing.specs.Drawing.{HasDrawn}
use Rattle.drawing.proofs.drawn_entries.drawn_of.Given as goal

-- the entries so far were followed
abbrev pub invariant-loop-entry : goal.invariant-loop-entry
invariant-loop-entry l = HasDrawn (based l.base) l.from (reverse (take l.entry-index l.entries)) l.drawing
