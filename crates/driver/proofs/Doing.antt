-- What is kept of an act, and of all.
use Rattle.std.proofs.Common.{ℕ, List, All, reverse, Result, Ok, Err, subst}
use Rattle.std.specs.List.{AllByRecursion}
use Rattle.std.proofs.lemmas.List.Elements.{All-from_recursion}
use Rattle.driver.specs.Below.{Act, Do, Trim, IsOfSeats, CoreView, IsStepped, Entry, Fault, Answer, Recorded, Sleep, Step, Base, based, IsSpelt, CanFold, StepsHeader, IsAct}
use Rattle.driver.specs.ReplayText.{HasLine}
use Rattle.history.proofs.GoodBases.{good_waits}
use Rattle.history_text.proofs.Lists.{each-reverse}
use Rattle.history_text.proofs.Spelt.{all_spelt_on}

-- an act under a header is of one of its seats
pub of_seats : (h : StepsHeader) (a : Act) → IsAct h a → IsOfSeats h.header.seats a
of_seats h (Do i step) is = is.0
of_seats h Trim is = tt

pub line_of_step : (old new : CoreView) (i : ℕ) (step : Step) (r : Result Answer Fault) →
    IsStepped old i step r new → AllByRecursion IsSpelt new.entries → HasLine r
line_of_step old new i step (Ok (Recorded e named)) is all = (subst (AllByRecursion IsSpelt) is.grown all).0
line_of_step old new i step (Ok Sleep) is all = tt
line_of_step old new i step (Err fault) is all = tt

pub spelt_each : (b : Base) (h : List Entry) → CanFold b h → AllByRecursion IsSpelt h
spelt_each b h can = all_spelt_on (based b) h (good_waits b can.good) can.legal

pub spelt_on : (b : Base) (h : List Entry) → CanFold b h → All IsSpelt (reverse h)
spelt_on b h can = All-from_recursion IsSpelt (reverse h) (each-reverse IsSpelt h (spelt_each b h can))
