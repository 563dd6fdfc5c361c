-- Worked examples of who is named: the first in line, where it could go and could not before.
use Rattle.std.specs.Prelude.{◌≡◌, [], ◌∷◌, pos, refl}
use Rattle.history.specs.declared.header.Policy.TheVariants.{Fair, NonFair}
use Rattle.laws.proofs.Replies.{replies, read_write, semaphore, acquire, acquire_shared, give_shared, look, expire, timeout, got_shared, queued, queued_shared, granted_shared, gave_shared, left, ◌wakes◌}

-- The first in line could go since the first release, and is not named again by the second.
could_go_already_semaphore :
    replies (semaphore NonFair (pos 0) 3 64)
    ((0, acquire_shared 1) ∷ (1, give_shared 1) ∷ (1, give_shared 1) ∷ (0, look) ∷ [])
    ≡ (queued_shared 0 1 ∷ gave_shared 1 1 wakes 0 ∷ gave_shared 1 1 ∷ granted_shared 0 1 ∷ [], 4, 3)
could_go_already_semaphore = refl

-- The reader could go since the writer left, and is not named again when the other reader gives back.
could_go_already_reader :
    replies (read_write Fair 3 0 64)
    ((0, acquire_shared 1) ∷ (1, acquire) ∷ (2, acquire_shared 1) ∷ (1, expire) ∷ (0, give_shared 1) ∷
    (2, look) ∷ [])
    ≡ (
      got_shared 0 1 ∷ queued 1 ∷ queued_shared 2 1 ∷ left 1 timeout wakes 2 ∷ gave_shared 0 1 ∷
          granted_shared 2 1 ∷ [],
      6,
      4,
    )
could_go_already_reader = refl
