-- Worked examples of semaphores.
use Rattle.std.specs.Prelude.{◌≡◌, [], ◌∷◌, pos, negsuc, refl}
use Rattle.laws.specs.Below.{BadAmount, TooManyPermits, Fair, NonFair, Strict}
use Rattle.laws.proofs.Replies.{replies, permits, semaphore, acquire_shared, try_shared, try_fair_shared, give_shared, look, drain, got_shared, try_got_shared, queued_shared, granted_shared, missed_shared, gave_shared, refused_shared, drained, fault, ◌wakes◌}

-- A semaphore made with fewer permits than none: three releases by one that holds nothing, and one acquire.
debt :
    replies (semaphore Fair (negsuc 1) 2 64)
    ((0, acquire_shared 1) ∷ (1, give_shared 1) ∷ (1, give_shared 1) ∷ (1, give_shared 1) ∷ (0, look) ∷ [])
    ≡ (
      queued_shared 0 1 ∷ gave_shared 1 1 ∷ gave_shared 1 1 ∷ gave_shared 1 1 wakes 0 ∷ granted_shared 0 1 ∷
          [],
      5,
      4,
    )
debt = refl

-- Held, free, created and unheld at its end.
debt_in_permits :
    permits (semaphore Fair (negsuc 1) 2 64)
    ((0, acquire_shared 1) ∷ (1, give_shared 1) ∷ (1, give_shared 1) ∷ (1, give_shared 1) ∷ (0, look) ∷ [])
    ≡ record { held = 1; free = pos 0; created = negsuc 1; unheld = 3 }
debt_in_permits = refl

-- In a fair semaphore a large request in line holds back a small one, and a try passes both.
a_large_request_waits :
    replies (semaphore Fair (pos 5) 3 64)
    ((0, acquire_shared 9) ∷ (1, acquire_shared 1) ∷ (2, try_shared 1) ∷ [])
    ≡ (queued_shared 0 9 ∷ queued_shared 1 1 ∷ try_got_shared 2 1 ∷ [], 3, 1)
a_large_request_waits = refl

-- In a non-fair semaphore the small request passes.
a_small_request_passes :
    replies (semaphore NonFair (pos 5) 3 64)
    ((0, acquire_shared 9) ∷ (1, acquire_shared 1) ∷ (2, try_shared 1) ∷ [])
    ≡ (queued_shared 0 9 ∷ got_shared 1 1 ∷ try_got_shared 2 1 ∷ [], 3, 2)
a_small_request_passes = refl

-- In a strict semaphore the small request waits, and the try misses.
a_try_waits_too :
    replies (semaphore Strict (pos 5) 3 64)
    ((0, acquire_shared 9) ∷ (1, acquire_shared 1) ∷ (2, try_shared 1) ∷ [])
    ≡ (queued_shared 0 9 ∷ queued_shared 1 1 ∷ missed_shared 2 1 ∷ [], 3, 1)
a_try_waits_too = refl

-- Releases past the greatest number are refused, whoever holds; drains take all, or nothing.
as_many_permits_as_may_be :
    replies (semaphore NonFair (pos 1) 2 64)
    ((0, give_shared 2147483647) ∷ (0, acquire_shared 1) ∷ (1, give_shared 1) ∷
    (0, give_shared 2147483646) ∷ (1, give_shared 0) ∷ (1, give_shared 2147483648) ∷ (0, drain) ∷
    (1, drain) ∷ [])
    ≡ (
      refused_shared 0 2147483647 TooManyPermits ∷ got_shared 0 1 ∷ gave_shared 1 1 ∷
          gave_shared 0 2147483646 ∷ gave_shared 1 0 ∷ fault BadAmount ∷ drained 0 2147483647 ∷ drained 1 0 ∷
          [],
      7,
      7,
    )
as_many_permits_as_may_be = refl

-- Held, free, created and unheld at its end.
as_many_permits_as_may_be_in_permits :
    permits (semaphore NonFair (pos 1) 2 64)
    ((0, give_shared 2147483647) ∷ (0, acquire_shared 1) ∷ (1, give_shared 1) ∷
    (0, give_shared 2147483646) ∷ (1, give_shared 0) ∷ (1, give_shared 2147483648) ∷ (0, drain) ∷
    (1, drain) ∷ [])
    ≡ record { held = 2147483647; free = pos 0; created = pos 1; unheld = 2147483646 }
as_many_permits_as_may_be_in_permits = refl

-- A request of 0 takes where no permit is free. A drain takes the permit of a release.
requests_of_nothing :
    replies (semaphore NonFair (pos 0) 2 64)
    ((0, acquire_shared 0) ∷ (0, try_fair_shared 1) ∷ (1, acquire_shared 2) ∷ (0, give_shared 1) ∷
    (0, drain) ∷ (0, give_shared 2) ∷ (1, look) ∷ [])
    ≡ (
      got_shared 0 0 ∷ missed_shared 0 1 ∷ queued_shared 1 2 ∷ gave_shared 0 1 ∷ drained 0 1 ∷
          gave_shared 0 2 wakes 1 ∷ granted_shared 1 2 ∷ [],
      7,
      6,
    )
requests_of_nothing = refl

-- Held, free, created and unheld at its end.
requests_of_nothing_in_permits :
    permits (semaphore NonFair (pos 0) 2 64)
    ((0, acquire_shared 0) ∷ (0, try_fair_shared 1) ∷ (1, acquire_shared 2) ∷ (0, give_shared 1) ∷
    (0, drain) ∷ (0, give_shared 2) ∷ (1, look) ∷ [])
    ≡ record { held = 2; free = pos 0; created = pos 0; unheld = 2 }
requests_of_nothing_in_permits = refl

-- In a fair semaphore a request of 0 stands in line behind a request of 1.
requests_of_nothing_in_order :
    replies (semaphore Fair (pos 0) 3 64)
    ((0, acquire_shared 1) ∷ (1, acquire_shared 0) ∷ (2, give_shared 1) ∷ (0, look) ∷ (1, look) ∷ [])
    ≡ (
      queued_shared 0 1 ∷ queued_shared 1 0 ∷ gave_shared 2 1 wakes 0 ∷ granted_shared 0 1 wakes 1 ∷
          granted_shared 1 0 ∷ [],
      5,
      3,
    )
requests_of_nothing_in_order = refl
