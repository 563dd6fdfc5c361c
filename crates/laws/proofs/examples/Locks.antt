-- Worked examples of locks.
use Rattle.std.specs.Prelude.{◌≡◌, [], ◌∷◌, refl}
use Rattle.laws.specs.Below.{HistoryFull, Fair, NonFair, Strict}
use Rattle.laws.proofs.Replies.{replies, lock, acquire, try, try_fair, give, look, expire, interrupt, timeout, interrupted, got, try_got, queued, granted, missed, gave, left, sleeps, fault, ◌wakes◌}

-- A lock is taken and given back.
taken_and_given_back :
    replies (lock Fair 1 0 16)
    ((0, acquire) ∷ (0, give) ∷ [])
    ≡ (got 0 ∷ gave 0 ∷ [], 2, 2)
taken_and_given_back = refl

-- Where nothing is asked nothing is recorded.
nothing_asked : replies (lock Fair 1 0 16) [] ≡ ([], 0, 0)
nothing_asked = refl

-- The barge: seat 2 comes between the release and the look of seat 1, and takes. Seat 1 sleeps on, and is
-- named again.
barging :
    replies (lock NonFair 3 0 64)
    ((0, acquire) ∷ (1, acquire) ∷ (0, give) ∷ (2, acquire) ∷ (1, look) ∷ (2, give) ∷ (1, look) ∷ [])
    ≡ (got 0 ∷ queued 1 ∷ gave 0 wakes 1 ∷ got 2 ∷ sleeps ∷ gave 2 wakes 1 ∷ granted 1 ∷ [], 6, 5)
barging = refl

-- In a fair lock a try with no time to wait misses behind the line, and an untimed try passes it.
a_try_passes_a_fair_line :
    replies (lock Fair 3 0 64)
    ((0, acquire) ∷ (1, acquire) ∷ (0, give) ∷ (2, try_fair) ∷ (2, try) ∷ (1, look) ∷ [])
    ≡ (got 0 ∷ queued 1 ∷ gave 0 wakes 1 ∷ missed 2 ∷ try_got 2 ∷ sleeps ∷ [], 5, 4)
a_try_passes_a_fair_line = refl

-- In a strict lock the untimed try misses too, and the owner's own try takes past the line.
a_try_waits_behind_a_strict_line :
    replies (lock Strict 3 0 64)
    ((0, acquire) ∷ (1, acquire) ∷ (0, give) ∷ (2, try_fair) ∷ (2, try) ∷ (1, look) ∷ (2, acquire) ∷
    (1, try) ∷ [])
    ≡ (
      got 0 ∷ queued 1 ∷ gave 0 wakes 1 ∷ missed 2 ∷ missed 2 ∷ granted 1 ∷ queued 2 ∷ try_got 1 ∷ [],
      8,
      6,
    )
a_try_waits_behind_a_strict_line = refl

-- One whose time is up takes all the same where it could go; the next leaves.
times_up_for_one_that_could_go :
    replies (lock NonFair 3 0 64)
    ((0, acquire) ∷ (1, acquire) ∷ (2, acquire) ∷ (0, give) ∷ (1, expire) ∷ (2, expire) ∷ [])
    ≡ (got 0 ∷ queued 1 ∷ queued 2 ∷ gave 0 wakes 1 ∷ granted 1 ∷ left 2 timeout ∷ [], 6, 4)
times_up_for_one_that_could_go = refl

-- One that is interrupted leaves even where it could go, and the next is named.
interrupt_of_one_that_could_go :
    replies (lock NonFair 3 0 64)
    ((0, acquire) ∷ (1, acquire) ∷ (2, acquire) ∷ (0, give) ∷ (1, interrupt) ∷ (2, look) ∷ [])
    ≡ (got 0 ∷ queued 1 ∷ queued 2 ∷ gave 0 wakes 1 ∷ left 1 interrupted wakes 2 ∷ granted 2 ∷ [], 6, 4)
interrupt_of_one_that_could_go = refl

-- Waiters leave from the middle of the line and from its head; one of them comes again, to its end.
leaving_in_the_middle :
    replies (lock Fair 4 0 64)
    ((0, acquire) ∷ (1, acquire) ∷ (2, acquire) ∷ (3, acquire) ∷ (2, interrupt) ∷ (2, acquire) ∷
    (1, interrupt) ∷ (3, look) ∷ (0, give) ∷ (2, look) ∷ (3, look) ∷ (3, give) ∷ (2, look) ∷ [])
    ≡ (
      got 0 ∷ queued 1 ∷ queued 2 ∷ queued 3 ∷ left 2 interrupted ∷ queued 2 ∷ left 1 interrupted ∷ sleeps ∷
          gave 0 wakes 3 ∷ sleeps ∷ granted 3 ∷ gave 3 wakes 2 ∷ granted 2 ∷ [],
      11,
      7,
    )
leaving_in_the_middle = refl

-- A full history: the last places stay reserved for the gives of those who hold, and for who waits in line.
full_history :
    replies (lock Fair 3 0 16)
    ((0, acquire) ∷ (1, acquire) ∷ (0, acquire) ∷ (0, acquire) ∷ (0, acquire) ∷ (0, acquire) ∷
    (0, acquire) ∷ (0, acquire) ∷ (2, try) ∷ (2, try) ∷ (0, give) ∷ (0, give) ∷ (0, give) ∷ (0, give) ∷
    (0, give) ∷ (0, give) ∷ (1, look) ∷ (1, give) ∷ (1, give) ∷ [])
    ≡ (
      got 0 ∷ queued 1 ∷ got 0 ∷ got 0 ∷ got 0 ∷ got 0 ∷ got 0 ∷ fault HistoryFull ∷ missed 2 ∷
          fault HistoryFull ∷ gave 0 ∷ gave 0 ∷ gave 0 ∷ gave 0 ∷ gave 0 ∷ gave 0 wakes 1 ∷
          granted 1 ∷ gave 1 ∷
          fault HistoryFull ∷ [],
      16,
      15,
    )
full_history = refl
