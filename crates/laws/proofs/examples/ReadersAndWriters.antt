-- Worked examples of read-write locks.
use Rattle.std.specs.Prelude.{◌≡◌, [], ◌∷◌, refl}
use Rattle.history.specs.declared.header.Policy.TheVariants.{Fair, NonFair}
use Rattle.laws.proofs.Replies.{replies, read_write, acquire, acquire_shared, give, give_shared, look, expire, timeout, got, got_shared, queued, queued_shared, granted_shared, gave, gave_shared, left, ◌wakes◌}

-- A writer in line holds the readers back; when it leaves, they go one after another, each naming the next.
readers_behind_a_writer_fair :
    replies (read_write Fair 4 0 64)
    ((0, acquire_shared 1) ∷ (1, acquire) ∷ (2, acquire_shared 1) ∷ (3, acquire_shared 1) ∷ (1, expire) ∷
    (2, look) ∷ (3, look) ∷ [])
    ≡ (
      got_shared 0 1 ∷ queued 1 ∷ queued_shared 2 1 ∷ queued_shared 3 1 ∷ left 1 timeout wakes 2 ∷
          granted_shared 2 1 wakes 3 ∷ granted_shared 3 1 ∷ [],
      7,
      4,
    )
readers_behind_a_writer_fair = refl

-- The same in a non-fair lock.
readers_behind_a_writer :
    replies (read_write NonFair 4 0 64)
    ((0, acquire_shared 1) ∷ (1, acquire) ∷ (2, acquire_shared 1) ∷ (3, acquire_shared 1) ∷ (1, expire) ∷
    (2, look) ∷ (3, look) ∷ [])
    ≡ (
      got_shared 0 1 ∷ queued 1 ∷ queued_shared 2 1 ∷ queued_shared 3 1 ∷ left 1 timeout wakes 2 ∷
          granted_shared 2 1 wakes 3 ∷ granted_shared 3 1 ∷ [],
      7,
      4,
    )
readers_behind_a_writer = refl

-- A writer reads, gives back its write hold, and lets a reader in. A reader that asks to write waits with its
-- read hold kept.
downgrading :
    replies (read_write NonFair 2 0 64)
    ((0, acquire) ∷ (0, acquire_shared 1) ∷ (1, acquire_shared 1) ∷ (0, give) ∷ (1, look) ∷ (1, acquire) ∷
    (1, expire) ∷ (1, give_shared 1) ∷ (0, give_shared 1) ∷ [])
    ≡ (
      got 0 ∷ got_shared 0 1 ∷ queued_shared 1 1 ∷ gave 0 wakes 1 ∷ granted_shared 1 1 ∷ queued 1 ∷
          left 1 timeout ∷ gave_shared 1 1 ∷ gave_shared 0 1 ∷ [],
      9,
      7,
    )
downgrading = refl
