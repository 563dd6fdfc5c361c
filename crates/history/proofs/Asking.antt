-- What those in line ask for is few enough for 32 bits.
use Rattle.std.proofs.Common.{◌≡◌, ℕ, ◌≤◌, false, not, ◌&&◌, eqb, ltb, ltb-false, List, [], ◌∷◌, map, take, subst, sym, arith}
use Rattle.std.specs.List.{AllByRecursion}
use Rattle.std.proofs.lemmas.Bool.{or_parts}
use Rattle.history.specs.Prelude.{MOST_AMOUNT, Arrival, Entry, Word, Object, is_bad_number, IsLegal, line, arrivals_by, coming_back, is_semaphore, sleepers, Start}
use Rattle.history.specs.declared.entry.Word.TheVariants as word
use Rattle.history.proofs.Entering.{KnownBy, known}
use Rattle.history.proofs.LineLemmas.{line_after, line_at_first, stays}
use Rattle.history.proofs.Times.{each-append, each-filter}

-- what is asked for
pub asked_few : (o : Object) (n : ℕ) → is_bad_number o n ≡ false → n ≤ MOST_AMOUNT
asked_few o n q =
    ltb-false MOST_AMOUNT n (or_parts (ltb MOST_AMOUNT n) (not (is_semaphore o) && not (eqb n 1)) q).0

-- what those in line ask for
abbrev pub AsksFew : Arrival → Type 0
AsksFew a = a.n ≤ MOST_AMOUNT

back_few : (xs : List ℕ) → AllByRecursion AsksFew (map coming_back xs)
back_few [] = tt
back_few (x ∷ xs) = (omega arith, back_few xs)

arriving_few : (s : Start) (h : List Entry) (e : Entry) (w : Word) → KnownBy s h e w →
    AllByRecursion AsksFew (arrivals_by s w e h)
arriving_few s h e word.Queued k = (asked_few s.header.object e.n k.amount, tt)
arriving_few s h e word.Lapse k = (omega arith, tt)
arriving_few s h e word.Signal k = back_few (take e.n (sleepers s h e.at))
arriving_few s h e word.SignalAll k = back_few (sleepers s h e.at)
arriving_few s h e _ k = tt

pub line_few_on : (s : Start) (h : List Entry) → AllByRecursion AsksFew s.line → IsLegal s h →
    AllByRecursion AsksFew (line s h)
line_few_on s [] few legal = subst (AllByRecursion AsksFew) (sym (line_at_first s)) few
line_few_on s (e ∷ h) few legal =
    subst (AllByRecursion AsksFew) (sym (line_after s e h))
    (each-append AsksFew _ _ (each-filter AsksFew (stays e.word e.seat) (line s h) (line_few_on s h few
    legal.1))
    (arriving_few s h e e.word (known s h legal.0.0 e legal.0.1)))
