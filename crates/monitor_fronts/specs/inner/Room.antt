-- One round of a call that makes room.
use Rattle.std.specs.Prelude.{◌≡◌, ◌⊎◌, ℕ, Bool, true, false, Option, Some, Result, Ok, Err}
use Rattle.monitor_fronts.specs.Below.{Entry, Fault, HistoryFull, Shown, IsTrim}
use Rattle.monitor_fronts.specs.declared.room.WhenFull.{WhenFull}
use Rattle.monitor_fronts.specs.declared.room.WhenFull.TheVariants.{Refuse, Trim}

-- the reply says that there was no room
abbrev pub is_full : Result Entry Fault → Bool
is_full (Err HistoryFull) = true
is_full _ = false

-- a call that returned this makes room
abbrev pub is_to_trim : WhenFull → Result Entry Fault → Bool
is_to_trim Refuse reply = false
is_to_trim Trim reply = is_full reply

-- A trim, after which so many entries are folded in all. A fault says that there were too many, or that as many were
-- folded before.
abbrev pub IsTrimmedFrom : Option ℕ → Shown → Result ℕ Fault → Shown → Type 0
IsTrimmedFrom before old (Ok folded) new =
    (count : ℕ) × IsTrim old (Ok count) new × (folded ≡ new.seen.base.entries)
IsTrimmedFrom before old (Err fault) new =
    ((count : ℕ) × IsTrim old (Ok count) new × (before ≡ Some new.seen.base.entries) × (fault ≡ HistoryFull))
    ⊎ IsTrim old (Err fault) new
