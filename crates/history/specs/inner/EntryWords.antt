-- The words that spell an entry, after its seat.
use Rattle.history.specs.declared.entry.Word.{Word}
use Rattle.history.specs.declared.entry.Word.TheVariants as word

-- the words with a mode and an amount, and nothing else
abbrev pub IsAsked : Word → Type 0
IsAsked word.Got = Unit {0}
IsAsked word.TryGot = Unit {0}
IsAsked word.Queued = Unit {0}
IsAsked word.Granted = Unit {0}
IsAsked word.Missed = Unit {0}
IsAsked word.Gave = Unit {0}
IsAsked _ = ⊥

-- the words with a condition and an amount
abbrev pub IsOfCondition : Word → Type 0
IsOfCondition word.Await = Unit {0}
IsOfCondition word.Lapse = Unit {0}
IsOfCondition word.Signal = Unit {0}
IsOfCondition word.SignalAll = Unit {0}
IsOfCondition word.Back = Unit {0}
IsOfCondition _ = ⊥
