-- Histories in which somebody is overtaken, waits twice or releases what it lacks. None of them is legal.
use Rattle.std.specs.Prelude.{ℕ, List, [], ◌∷◌}
use Rattle.laws.specs.Below.{Entry, X, Word, Header, Lock, Fair, Strict, plain}
use Rattle.history.specs.declared.entry.Word.TheVariants as word

-- a fair lock of three seats
abbrev pub fair_lock : Header
fair_lock = record { object = Lock Fair; seats = 3; conditions = 0; cap = 64 }

abbrev pub of : ℕ → Word → Entry
of seat w = plain seat w X 1

-- seats 1 and 2 are in the queue, and 2 is granted before 1
abbrev pub granted_out_of_turn : List Entry
granted_out_of_turn = of 2 word.Granted ∷ of 0 word.Gave ∷ of 2 word.Queued ∷ of 1 word.Queued ∷ of 0
    word.Got ∷ []

-- seat 1 is in the queue, and a new call of 2 succeeds
abbrev pub got_past_the_line : List Entry
got_past_the_line = of 2 word.Got ∷ of 0 word.Gave ∷ of 1 word.Queued ∷ of 0 word.Got ∷ []

-- a strict lock of three seats
abbrev pub strict_lock : Header
strict_lock = record { object = Lock Strict; seats = 3; conditions = 0; cap = 64 }

-- seat 1 is in the queue, and a try of 2 succeeds
abbrev pub tried_past_the_line : List Entry
tried_past_the_line = of 2 word.TryGot ∷ of 0 word.Gave ∷ of 1 word.Queued ∷ of 0 word.Got ∷ []

-- seat 1 is in the queue and joins it again
abbrev pub queued_twice : List Entry
queued_twice = of 1 word.Queued ∷ of 1 word.Queued ∷ of 0 word.Got ∷ []

-- a seat releases what it never acquired
abbrev pub gave_first : List Entry
gave_first = of 0 word.Gave ∷ []

-- a seat acquires
abbrev pub taken : List Entry
taken = of 0 word.Got ∷ []

-- seat 1 waits, and could go since 0 released
abbrev pub given_to_a_waiter : List Entry
given_to_a_waiter = of 0 word.Gave ∷ of 1 word.Queued ∷ of 0 word.Got ∷ []
