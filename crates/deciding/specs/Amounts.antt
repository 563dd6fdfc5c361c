-- What the numbers of permits and countdowns mean.
use Rattle.std.specs.Prelude.{◌≡◌, ◌+◌, ◌*◌, ◌≤◌, List, length, nat_abs, FitsSigned}
use Rattle.std.specs.Int.{w128}
use Rattle.deciding.specs.Below.{Entry, counted, free, Start}
use Rattle.deciding.specs.declared.amounts.Amounts.{Amounts}

pub record AreAmounts (s : Start) (h : List Entry) (a : Amounts) : Type 0 where
  pub is_free : a.free ≡ free s h
  pub is_counted : a.counted ≡ counted s h
  pub free_bound : nat_abs a.free ≤ 2147483648 + 4294967295 * length h
  pub free_fits : FitsSigned w128 a.free
  pub counted_bound : a.counted ≤ 2147483647 + length h
