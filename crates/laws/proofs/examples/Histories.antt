-- A history that is legal, and the same without its release, which isn't.
use Rattle.std.proofs.Common.{◌≡◌, List, [], ◌∷◌, refl}
use Rattle.std.proofs.lemmas.Option.{none-some}
use Rattle.laws.specs.Below.{Entry, Header, Fair, IsLegal, calls, line, opening}
use Rattle.history.specs.declared.entry.Word.TheVariants as word
use Rattle.history.proofs.Entering.{Known, known}
use Rattle.laws.specs.OutOfTurn.{of}
use Rattle.laws.proofs.Replies.{lock, acquire, give, look}

abbrev two_seats : Header
two_seats = lock Fair 2 0 64

abbrev handed_over : List Entry
handed_over = of 1 word.Gave ∷ of 1 word.Granted ∷ of 0 word.Gave ∷ of 1 word.Queued ∷ of 0 word.Got ∷ []

-- Each entry is its step's, from the last back to the first.
handed_over_is_legal : IsLegal (opening two_seats) handed_over
handed_over_is_legal =
    ((give, refl), ((look, refl), ((give, refl), ((acquire, refl), ((acquire, refl), tt)))))

handed_over_calls : calls (opening two_seats) handed_over ≡ 4
handed_over_calls = refl

handed_over_line : line (opening two_seats) handed_over ≡ []
handed_over_line = refl

-- Without the release seat 1 is granted what seat 0 holds.
abbrev without_its_release : List Entry
without_its_release = of 1 word.Gave ∷ of 1 word.Granted ∷ of 1 word.Queued ∷ of 0 word.Got ∷ []

without_its_release_is_not_legal : IsLegal (opening two_seats) without_its_release → ⊥
without_its_release_is_not_legal l =
    let h : List Entry = of 1 word.Queued ∷ of 0 word.Got ∷ [] in
    let k : Known (opening two_seats) h (of 1 word.Granted) =
    known (opening two_seats) h l.1.0.0 (of 1 word.Granted) l.1.0.1 in
    none-some 1 k.2
