-- What a guard ends with, by what the caller makes of its value.
use Rattle.std.specs.Prelude.{[]}
use Rattle.std.specs.Borrow.{Lends, MutBor, Fml, RattleType}
use mir.Syntax.{named}
use Rattle.reentrant.specs.contracts.lock.LockHooks as lock
use Rattle.reentrant.specs.contracts.lock.LockHooksHooks.TheImpl as lock_hooks
use Rattle.read_write.specs.contracts.hooks.RwHooks as rw
use Rattle.read_write.specs.contracts.hooks.RwHooksHooks.TheImpl as rw_hooks
use Rattle.guarded.specs.declared.guard.Guard.{Guard}
use Rattle.guarded.specs.declared.keeps.Keeps.{Ghosts}
use Rattle.guarded.specs.declared.slot.Slot.TheVariants.{Full}
use Rattle.guarded.specs.contracts.guard.Guard.{the_row}
use Rattle.guarded.specs.contracts.shared.Shared as shared
use Rattle.guarded.specs.contracts.shared.Sharing as sharing

-- of a lock with one owner at a time
abbrev pub LendsOwned : (T P R I : RattleType) → Ghosts I.Denot T.Denot →
    MutBor (Guard T.Denot P.Denot R.Denot I.Denot (lock.the_row).Denot) → MutBor T.Denot → Fml
LendsOwned T P R I kept s r =
    Lends (the_row (record { mir = named 0; lft = [] }) T P R I lock.the_row kept lock_hooks.ghosts) T s r
    (λ w. record s.now { slot = Full w })

-- of a writer
abbrev pub LendsWritten : (T P R I : RattleType) → Ghosts I.Denot T.Denot →
    MutBor (Guard T.Denot P.Denot R.Denot (sharing.the_row I).Denot (rw.the_row).Denot) → MutBor T.Denot → Fml
LendsWritten T P R I kept s r =
    Lends (the_row (record { mir = named 0; lft = [] }) (shared.the_row T) P R (sharing.the_row I) rw.the_row
    (record { invariant = kept.invariant }) rw_hooks.ghosts) T s r (λ w. record s.now { slot = Full w })
