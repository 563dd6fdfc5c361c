-- Worked examples of bases: what entries leave when they are folded, and how steps go on after the fold.
use Rattle.std.specs.Prelude.{◌≡◌, ℕ, ◌++◌, false, List, [], ◌∷◌, Result, pos, negsuc, refl}
use Rattle.laws.specs.Below.{Arrival, SeatBase, LinePlace, X, Fault, HistoryFull, Header, Fair, NonFair, Answer, Step, results, Base, based, folded, opening_base, free, calls, coming_back}
use Rattle.history.specs.declared.entry.End.TheVariants as end
use Rattle.laws.proofs.Replies.{acquire, acquire_shared, await, comes_back, fault, gave, give, give_shared, got, interrupt, latch, lock, look, read_write, semaphore, signal, signalled, signals, ◌wakes◌}
use Rattle.laws.proofs.examples.Pairs.{pairs}

-- a list of steps after a base: the answers, and the base that is left when its entries are folded
abbrev answers : Base → List (ℕ × Step) → List (Result Answer Fault)
answers b steps = (results (based b) [] steps).0

abbrev left_by : Base → List (ℕ × Step) → Base
left_by b steps = folded b (results (based b) [] steps).1

-- a seat with the calls that it ended, its exclusive holds and its shared ones
abbrev seat : ℕ → ℕ → ℕ → SeatBase
seat calls exclusive shared = record { calls = calls; exclusive = exclusive; shared = shared }

abbrev asks : Arrival → LinePlace
asks a = record { who = a; condition = 0; holds = 0; how = end.None }

-- An owner sleeps with two holds, and another owns: four entries are folded.
abbrev two_seats : Header
two_seats = lock Fair 2 1 16

abbrev one_sleeps : Base
one_sleeps = left_by (opening_base two_seats) ((0, acquire) ∷ (0, acquire) ∷ (0, await 0) ∷ (1, acquire) ∷ [])

one_sleeps_is :
    one_sleeps
    ≡ record {
      header = two_seats;
      entries = 4;
      seats = seat 2 0 0 ∷ seat 1 1 0 ∷ [];
      unheld = 0;
      count = 0;
      line = [];
      sleepers = (record { seat = 0; holds = 2 } ∷ []) ∷ [];
    }
one_sleeps_is = refl

-- After it the sleeper is signalled and comes back with its two holds. All in all there are six calls.
abbrev it_comes_back : List (ℕ × Step)
it_comes_back = (1, signal 0) ∷ (1, give) ∷ (0, look) ∷ []

it_comes_back_answers :
    answers one_sleeps it_comes_back ≡ signals 1 0 1 ∷ gave 1 wakes 0 ∷ comes_back 0 0 2 signalled ∷ []
it_comes_back_answers = refl

it_comes_back_calls : calls (based (left_by one_sleeps it_comes_back)) [] ≡ 6
it_comes_back_calls = refl

it_comes_back_entries : (left_by one_sleeps it_comes_back).entries ≡ 7
it_comes_back_entries = refl

-- One that was interrupted stands in line on its way back, with what it saved, behind an acquire.
abbrev two_wait : Base
two_wait =
    left_by (opening_base (lock Fair 3 1 64))
    ((0, acquire) ∷ (0, await 0) ∷ (1, acquire) ∷ (2, acquire) ∷ (0, interrupt) ∷ [])

two_wait_in_line :
    two_wait.line
    ≡ asks (record { seat = 2; mode = X; n = 1; back = false }) ∷ record {
      who = coming_back 0;
      condition = 0;
      holds = 1;
      how = end.Interrupt;
    } ∷ []
two_wait_in_line = refl

-- A full history has room again when it is folded, and the numbers go on.
abbrev one_seat : Base
one_seat = opening_base (lock NonFair 1 0 16)

full : answers one_seat (pairs 8 ++ (0, acquire) ∷ []) ≡ answers one_seat (pairs 8) ++ fault HistoryFull ∷ []
full = refl

room_again : answers (left_by one_seat (pairs 8)) ((0, acquire) ∷ []) ≡ got 0 ∷ []
room_again = refl

folded_twice :
    left_by (left_by one_seat (pairs 8)) ((0, acquire) ∷ [])
    ≡ record {
      header = lock NonFair 1 0 16;
      entries = 17;
      seats = seat 17 1 0 ∷ [];
      unheld = 0;
      count = 0;
      line = [];
      sleepers = [];
    }
folded_twice = refl

-- Two readers, and a reader that asks to write waits with its read hold.
two_readers :
    (left_by (opening_base (read_write Fair 2 0 64))
    ((0, acquire_shared 1) ∷ (1, acquire_shared 1) ∷ (0, acquire) ∷ [])).seats
    ≡ seat 1 0 1 ∷ seat 1 0 1 ∷ []
two_readers = refl

-- A semaphore made with fewer permits than none: three are released unheld, one is taken and none is free.
abbrev debt : Base
debt =
    left_by (opening_base (semaphore Fair (negsuc 1) 2 64))
    ((0, acquire_shared 1) ∷ (1, give_shared 1) ∷ (1, give_shared 1) ∷ (1, give_shared 1) ∷ (0, look) ∷ [])

debt_seats : debt.seats ≡ seat 1 0 1 ∷ seat 3 0 0 ∷ []
debt_seats = refl

debt_unheld : debt.unheld ≡ 3
debt_unheld = refl

debt_free : free (based debt) [] ≡ pos 0
debt_free = refl

-- A latch of 2, counted down once.
one_left : (left_by (opening_base (latch 2 2 16)) ((1, give_shared 1) ∷ [])).count ≡ 1
one_left = refl
