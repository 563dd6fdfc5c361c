-- No waiter in the queue is overtaken, stated of arrivals and their endings alone.
use Rattle.std.specs.Prelude.{◌≡◌, ◌<◌, ℕ, Bool, true, false, List, [], ◌∷◌, ◌++◌, length, Some}
use Rattle.std.specs.List.{AllByRecursion}
use Rattle.history.specs.Types.{Entry, Word, Got, TryGot, Granted, Back, Object}
use Rattle.history.specs.Could.{is_reentrant}
use Rattle.history.specs.Counts.{counts}
use Rattle.history.specs.Line.{Arrived, arrivals, Ending, ending}
use Rattle.history.specs.Object.{is_fair, is_strict}
use Rattle.history.specs.Start.{Start}

-- an arrival that was granted, or came back
abbrev pub is_passage : Word → Bool
is_passage Granted = true
is_passage Back = true
is_passage _ = false

-- a wait that ended before an entry's number
pub record EndedBefore (h : List Entry) (place : ℕ) (a : Arrived) : Type 0 where
  pub end : Ending
  pub is : ending h a.who.seat a.place ≡ Some end
  pub before : end.place < place

-- a waiter is granted or comes back only after all who arrived before it have ended
abbrev pub IsInOrder : Start → List Entry → Type 0
IsInOrder s h =
    (before after : List Arrived) (b : Arrived) (x : Ending) →
    arrivals s h ≡ before ++ b ∷ after → ending h b.who.seat b.place ≡ Some x → is_passage x.word ≡ true →
    AllByRecursion (EndedBefore h x.place) before

-- The words by which a new call acquires without barging: those of an acquire, timed or not, in a fair or
-- strict object, and those of a try in a strict one.
abbrev pub takes_in_turn : Object → Word → Bool
takes_in_turn o Got = is_fair o
takes_in_turn o TryGot = is_strict o
takes_in_turn o _ = false

-- such a call, unless it is reentrant, succeeds only after all who arrived before have ended
abbrev pub IsFairOrder : Start → List Entry → Type 0
IsFairOrder s [] = Unit {0}
IsFairOrder s (e ∷ h) =
    (takes_in_turn s.header.object e.word ≡ true → is_reentrant (counts s h) e.seat e.mode ≡ false →
    AllByRecursion (EndedBefore h (length h)) (arrivals s h))
    × IsFairOrder s h
