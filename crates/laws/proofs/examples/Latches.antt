-- Worked examples of latches.
use Rattle.std.specs.Prelude.{◌≡◌, [], ◌∷◌, refl}
use Rattle.history.specs.declared.fault.Fault.TheVariants.{WrongMode}
use Rattle.laws.proofs.Replies.{replies, latch, acquire_shared, try_shared, try_fair_shared, give_shared, look, got_shared, queued_shared, granted_shared, counted, fault, ◌wakes◌}

-- A latch of count 0 is open.
an_open_latch :
    replies (latch 0 1 16)
    ((0, acquire_shared 1) ∷ [])
    ≡ (got_shared 0 1 ∷ [], 1, 1)
an_open_latch = refl

-- Two countings open the latch, the third changes nothing, and an untimed try is no call of a latch.
counting_down :
    replies (latch 2 2 16)
    ((0, acquire_shared 1) ∷ (1, give_shared 1) ∷ (1, give_shared 1) ∷ (1, give_shared 1) ∷ (0, look) ∷
    (1, try_fair_shared 1) ∷ (1, try_shared 1) ∷ [])
    ≡ (
      queued_shared 0 1 ∷ counted 1 ∷ counted 1 wakes 0 ∷ counted 1 ∷ granted_shared 0 1 ∷ got_shared 1 1 ∷
          fault WrongMode ∷ [],
      6,
      5,
    )
counting_down = refl
