-- Worked examples of marks: a seat is marked when an entry names it or it lapses, until its step returns Sleep
-- or it leaves the queue.
use Rattle.std.specs.Prelude.{◌≡◌, ℕ, zero, suc, ◌++◌, Bool, if◌then◌else◌, List, [], ◌∷◌, pos, refl}
use Rattle.laws.specs.Below.{Header, Fair, NonFair, Step, results, based, folded, opening_base, opening, marks, unmarked}
use Rattle.laws.proofs.Replies.{lock, read_write, semaphore, acquire, acquire_shared, await, expire, give, interrupt, look, signal}

-- the marked seats, of so many
abbrev those_marked : ℕ → (ℕ → Bool) → List ℕ
those_marked zero m = []
those_marked (suc n) m = those_marked n m ++ (if m n then n ∷ [] else [])

abbrev marked : Header → List (ℕ × Step) → List ℕ
marked k steps = those_marked k.seats (marks (opening k) [] unmarked steps)

-- The writer is first and leaves: the reader behind it is marked, and by its grant the next reader.
abbrev two_readers_behind_a_writer : List (ℕ × Step)
two_readers_behind_a_writer =
    (0, acquire_shared 1) ∷ (1, acquire) ∷ (2, acquire_shared 1) ∷ (3, acquire_shared 1) ∷ (1, expire) ∷ []

first_leaves : marked (read_write Fair 4 0 64) two_readers_behind_a_writer ≡ 2 ∷ []
first_leaves = refl

shared_grants : marked (read_write Fair 4 0 64) (two_readers_behind_a_writer ++ (2, look) ∷ []) ≡ 3 ∷ []
shared_grants = refl

all_went : marked (read_write Fair 4 0 64) (two_readers_behind_a_writer ++ (2, look) ∷ (3, look) ∷ []) ≡ []
all_went = refl

-- A marked seat finds that another barged in: it is no longer marked, until the next release.
abbrev barged_past : List (ℕ × Step)
barged_past = (0, acquire) ∷ (1, acquire) ∷ (0, give) ∷ (2, acquire) ∷ []

marked_while_another_holds : marked (lock NonFair 3 0 64) barged_past ≡ 1 ∷ []
marked_while_another_holds = refl

a_sleep_clears_the_mark : marked (lock NonFair 3 0 64) (barged_past ++ (1, look) ∷ []) ≡ []
a_sleep_clears_the_mark = refl

marked_again : marked (lock NonFair 3 0 64) (barged_past ++ (1, look) ∷ (2, give) ∷ []) ≡ 1 ∷ []
marked_again = refl

-- One that is interrupted while it waits on a condition is marked by its own entry.
a_lapse_marks_its_own_seat :
    marked (lock Fair 2 1 64) ((0, acquire) ∷ (0, await 0) ∷ (0, interrupt) ∷ []) ≡ 0 ∷ []
a_lapse_marks_its_own_seat = refl

-- A signal moves a waiter into the queue and marks nobody; the release marks the waiter.
abbrev signalled_by_an_owner : List (ℕ × Step)
signalled_by_an_owner = (0, acquire) ∷ (0, await 0) ∷ (1, acquire) ∷ (1, signal 0) ∷ []

a_transfer_marks_nobody : marked (lock Fair 2 1 64) signalled_by_an_owner ≡ []
a_transfer_marks_nobody = refl

a_release_marks_the_moved : marked (lock Fair 2 1 64) (signalled_by_an_owner ++ (1, give) ∷ []) ≡ 0 ∷ []
a_release_marks_the_moved = refl

-- A request of 0 waits behind one of 1, and can go as soon as that leaves.
a_request_of_nothing :
    marked (semaphore Fair (pos 0) 2 64) ((0, acquire_shared 1) ∷ (1, acquire_shared 0) ∷ (0, expire) ∷ [])
    ≡ 1 ∷ []
a_request_of_nothing = refl

-- The same with the history folded before the release: a fold leaves the marks as they are.
abbrev folded_marks : Header → List (ℕ × Step) → List (ℕ × Step) → List ℕ
folded_marks k steps more =
    let h = (results (opening k) [] steps).1 in
    those_marked k.seats
    (marks (based (folded (opening_base k) h)) [] (marks (opening k) [] unmarked steps) more)

a_fold_clears_no_mark : folded_marks (lock NonFair 3 0 64) barged_past [] ≡ 1 ∷ []
a_fold_clears_no_mark = refl

a_sleep_after_a_fold : folded_marks (lock NonFair 3 0 64) barged_past ((1, look) ∷ []) ≡ []
a_sleep_after_a_fold = refl

a_release_after_a_fold :
    folded_marks (lock NonFair 3 0 64) barged_past ((1, look) ∷ (2, give) ∷ []) ≡ 1 ∷ []
a_release_after_a_fold = refl

a_transfer_after_a_fold :
    folded_marks (lock Fair 2 1 64) ((0, acquire) ∷ (0, await 0) ∷ (1, acquire) ∷ [])
    ((1, signal 0) ∷ (1, give) ∷ [])
    ≡ 0 ∷ []
a_transfer_after_a_fold = refl
