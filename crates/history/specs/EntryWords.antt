-- The words that spell an entry, after its seat.
use Rattle.std.specs.Prelude.{◌≡◌, ◌≤◌, ℕ, List, [], ◌∷◌, codes, decimal}
use Rattle.history.specs.Types.{LAST_CONDITION, MOST_AMOUNT, Entry, Mode, X, S, End, Word}
use Rattle.history.specs.declared.entry.End.TheVariants as end
use Rattle.history.specs.declared.entry.Word.TheVariants as word
use Rattle.history.specs.Fault.{fault_name, IsRecorded}

abbrev pub mode_word : Mode → List ℕ
mode_word X = codes "x"
mode_word S = codes "s"

-- an end that is None has no word in any line
abbrev pub end_word : End → List ℕ
end_word end.None = []
end_word end.Timeout = codes "timeout"
end_word end.Interrupt = codes "interrupt"
end_word end.Signalled = codes "signalled"

abbrev pub spelt : Word → Mode → ℕ → ℕ → End → List (List ℕ)
spelt word.Got m n at e = codes "got" ∷ mode_word m ∷ decimal n ∷ []
spelt word.TryGot m n at e = codes "trygot" ∷ mode_word m ∷ decimal n ∷ []
spelt word.Queued m n at e = codes "queued" ∷ mode_word m ∷ decimal n ∷ []
spelt word.Granted m n at e = codes "granted" ∷ mode_word m ∷ decimal n ∷ []
spelt word.Missed m n at e = codes "missed" ∷ mode_word m ∷ decimal n ∷ []
spelt word.Left m n at e = codes "left" ∷ mode_word m ∷ decimal n ∷ end_word e ∷ []
spelt word.Gave m n at e = codes "gave" ∷ mode_word m ∷ decimal n ∷ []
spelt (word.Refused f) m n at e = codes "refused" ∷ mode_word m ∷ decimal n ∷ fault_name f ∷ []
spelt word.Await m n at e = codes "await" ∷ decimal at ∷ decimal n ∷ []
spelt word.Lapse m n at e = codes "lapse" ∷ decimal at ∷ end_word e ∷ []
spelt word.Signal m n at e = codes "signal" ∷ decimal at ∷ decimal n ∷ []
spelt word.SignalAll m n at e = codes "signalall" ∷ decimal at ∷ decimal n ∷ []
spelt word.Back m n at e = codes "back" ∷ decimal at ∷ decimal n ∷ end_word e ∷ []
spelt word.Counted m n at e = codes "counted" ∷ mode_word m ∷ decimal n ∷ []
spelt word.Drained m n at e = codes "drained" ∷ mode_word m ∷ decimal n ∷ []

abbrev pub entry_words : Entry → List (List ℕ)
entry_words e = spelt e.word e.mode e.n e.at e.end

-- the ways in which a waiting acquire can give up
abbrev pub GaveUp : End → Type 0
GaveUp end.None = ⊥
GaveUp end.Timeout = Unit {0}
GaveUp end.Interrupt = Unit {0}
GaveUp end.Signalled = ⊥

abbrev pub CameBack : End → Type 0
CameBack end.None = ⊥
CameBack end.Timeout = Unit {0}
CameBack end.Interrupt = Unit {0}
CameBack end.Signalled = Unit {0}

-- which entries have a spelling: each field that the words leave out has one fixed value
abbrev pub HasWords : Word → Mode → ℕ → ℕ → End → Type 0
HasWords word.Left m n at e = (at ≡ 0) × GaveUp e
HasWords (word.Refused f) m n at e = (at ≡ 0) × (e ≡ end.None) × IsRecorded f
HasWords word.Await m n at e = (m ≡ X) × (e ≡ end.None)
HasWords word.Lapse m n at e = (m ≡ X) × (n ≡ 0) × GaveUp e
HasWords word.Signal m n at e = (m ≡ X) × (e ≡ end.None)
HasWords word.SignalAll m n at e = (m ≡ X) × (e ≡ end.None)
HasWords word.Back m n at e = (m ≡ X) × CameBack e
HasWords word.Counted m n at e = (m ≡ S) × (n ≡ 1) × (at ≡ 0) × (e ≡ end.None)
HasWords word.Drained m n at e = (m ≡ S) × (at ≡ 0) × (e ≡ end.None)
HasWords w m n at e = (at ≡ 0) × (e ≡ end.None)

abbrev pub IsSpelt : Entry → Type 0
IsSpelt e = HasWords e.word e.mode e.n e.at e.end

-- an entry that a history text may have
pub record IsWritten (e : Entry) : Type 0 where
  pub words : IsSpelt e
  pub amount : e.n ≤ MOST_AMOUNT
  pub condition : e.at ≤ LAST_CONDITION
