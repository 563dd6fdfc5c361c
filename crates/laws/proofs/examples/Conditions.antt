-- Worked examples of conditions.
use Rattle.std.specs.Prelude.{◌≡◌, [], ◌∷◌, refl}
use Rattle.laws.specs.Below.{HoldsRead, NoSuchCondition, NotOwner, OutOfPhase, WrongMode, Fair, NonFair}
use Rattle.laws.proofs.Replies.{replies, lock, read_write, acquire, acquire_shared, try_shared, give, look, interrupt, await, signal, signal_all, interrupted, signalled, got, got_shared, try_got_shared, gave, refused, awaits, signals, lapses, comes_back, sleeps, fault, ◌wakes◌}

-- An await gives up three holds, and its end restores them; the fourth give is not the owner's.
await_restores_all_holds :
    replies (lock Fair 2 1 64)
    ((0, acquire) ∷ (0, acquire) ∷ (0, acquire) ∷ (0, await 0) ∷ (1, acquire) ∷ (1, signal 0) ∷ (0, look) ∷
    (1, give) ∷ (0, look) ∷ (0, give) ∷ (0, give) ∷ (0, give) ∷ (0, give) ∷ [])
    ≡ (
      got 0 ∷ got 0 ∷ got 0 ∷ awaits 0 0 3 ∷ got 1 ∷ signals 1 0 1 ∷ sleeps ∷ gave 1 wakes 0 ∷
          comes_back 0 0 3 signalled ∷ gave 0 ∷ gave 0 ∷ gave 0 ∷ refused 0 NotOwner ∷ [],
      12,
      11,
    )
await_restores_all_holds = refl

-- Each refusal of a lock: what isn't the owner's, and what the object, its conditions or the phase lack.
-- A signal that finds nobody is recorded with 0.
refused_steps :
    replies (lock NonFair 2 1 64)
    ((0, acquire) ∷ (1, give) ∷ (1, await 0) ∷ (1, signal 0) ∷ (1, signal_all 0) ∷ (0, await 1) ∷
    (0, acquire_shared 1) ∷ (0, look) ∷ (0, signal 0) ∷ [])
    ≡ (
      got 0 ∷ refused 1 NotOwner ∷ refused 1 NotOwner ∷ refused 1 NotOwner ∷ refused 1 NotOwner ∷
          fault NoSuchCondition ∷ fault WrongMode ∷ fault OutOfPhase ∷ signals 0 0 0 ∷ [],
      6,
      6,
    )
refused_steps = refl

-- A sleeper that is interrupted before a signal comes back with the interrupt.
interrupt_before_a_signal :
    replies (lock Fair 2 1 64)
    ((0, acquire) ∷ (0, await 0) ∷ (0, interrupt) ∷ (0, look) ∷ (0, give) ∷ [])
    ≡ (got 0 ∷ awaits 0 0 1 ∷ lapses 0 0 interrupted ∷ comes_back 0 0 1 interrupted ∷ gave 0 ∷ [], 5, 3)
interrupt_before_a_signal = refl

-- One interrupted after a signal comes back signalled: the interrupt is a look.
interrupt_after_a_signal :
    replies (lock Fair 2 1 64)
    ((0, acquire) ∷ (0, await 0) ∷ (1, acquire) ∷ (1, signal 0) ∷ (0, interrupt) ∷ (1, give) ∷ (0, look) ∷
    [])
    ≡ (
      got 0 ∷ awaits 0 0 1 ∷ got 1 ∷ signals 1 0 1 ∷ sleeps ∷ gave 1 wakes 0 ∷ comes_back 0 0 1 signalled ∷
          [],
      6,
      5,
    )
interrupt_after_a_signal = refl

-- Who writes may read too, gives up no read hold to sleep, and may keep the read hold alone.
condition_of_a_read_write_lock :
    replies (read_write NonFair 2 1 64)
    ((0, acquire) ∷ (0, acquire_shared 1) ∷ (0, await 0) ∷ (0, give) ∷ (1, try_shared 1) ∷ (1, give) ∷ [])
    ≡ (
      got 0 ∷ got_shared 0 1 ∷ refused 0 HoldsRead ∷ gave 0 ∷ try_got_shared 1 1 ∷ refused 1 NotOwner ∷
          [],
      6,
      6,
    )
condition_of_a_read_write_lock = refl
