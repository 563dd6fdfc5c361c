-- What lies at a handle's pointer.
use base.Fml.{Fml, ftrue}
use base.Stored.{Coded}
use denote.RawPtr.{Ptr}
use Rattle.std.specs.Box.Ownership.{box_owns}
use Rattle.std.specs.declared.option.Option.{Option}
use Rattle.std.specs.declared.option.Option.TheVariants.{None, Some}
use Rattle.std.specs.contracts.impls.GlobalAllocator.TheImpl.{ghosts}
use Rattle.std.specs.declared.alloc.Global.{Global}
use Rattle.aqs_c.specs.contracts.seat.Seat as inner
use Rattle.aqs_c.specs.Seated.{Seated}

abbrev pub seat_code : Coded Seated
seat_code = (inner.the_row).coded

abbrev pub seat_at : Global → Ptr → Seated → Fml
seat_at a p v = box_owns (ghosts.dealloc_token a) inner.the_row p v

abbrev pub held_at : Global → Ptr → Option Seated → Fml
held_at a p None = ftrue
held_at a p (Some v) = seat_at a p v
