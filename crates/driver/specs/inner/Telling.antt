-- What is kept of a history, and what is told of it, by the verdict.
use Rattle.std.specs.Prelude.{◌≡◌, ℕ, ◌+◌, ◌-◌, ◌^◌, Bool, true, false, min, List, Option, Some, None, take, IfSome}
use Rattle.driver.specs.Below.{Verdict, Legal, NotLegal, Entry}
use Rattle.driver.specs.Telling.{IsToldOf}
use Rattle.driver.specs.inner.Choice.{kept_of}
use Rattle.driver.specs.declared.tell_stream.Told.{Told}
use Rattle.driver.specs.declared.telling.Telling.{Telling}
use Rattle.driver.specs.declared.telling.Telling.TheVariants.{Audit, Draw, Page, Explain, Summary}

-- the entries before the first illegal one, of entries that are oldest first
abbrev pub legal_front : Verdict → List Entry → List Entry
legal_front Legal entries = entries
legal_front (NotLegal number) entries = take number entries

-- the number of the first illegal entry, if `folded` entries were folded
abbrev pub wrong_of : ℕ → Verdict → Option ℕ
wrong_of folded Legal = None
wrong_of folded (NotLegal number) = Some (folded + number)

-- how many entries are kept to explain one
abbrev pub kept_for : Option ℕ → ℕ → ℕ
kept_for None folded = 2 ^ 64 - 1
kept_for (Some number) folded = min ((number - folded) + 1) (2 ^ 64 - 1)

-- how many entries precede the one that is explained, of those before the first illegal one
abbrev pub place_before : Option ℕ → ℕ → ℕ → ℕ
place_before None folded front = front
place_before (Some number) folded front = min (number - folded) front

-- how many entries are kept to tell of a history
abbrev pub kept_to_tell : Telling → ℕ → ℕ
kept_to_tell (Audit notation) folded = 0
kept_to_tell (Draw choice) folded = kept_of choice folded
kept_to_tell (Page choice) folded = kept_of choice folded
kept_to_tell (Explain at notation) folded = kept_for at folded
kept_to_tell (Summary notation) folded = 0

abbrev pub is_summed : Telling → Bool
is_summed (Summary notation) = true
is_summed _ = false

-- if what is left of a text is known, this is told of it
abbrev pub IsToldFor : Telling → Option (List ℕ) → Told → Type 0
IsToldFor telling left t = IfSome left (λ text. IsToldOf telling text t.verdict (λ told. t.text.items ≡ told))
