-- The words of a caller's contracts.
pub use Rattle.frame.specs.Core.{header_of}
pub use Rattle.guarded.specs.Guarding.{CanLock, Guards}
pub use Rattle.guarded.specs.Reading.{reads}
pub use Rattle.guarded.specs.Stowed.{Kept}
pub use Rattle.history.specs.Header.{IsInRange}
pub use Rattle.monitor.specs.Calling.{CanCall, Called}
pub use Rattle.monitor.specs.Shown.{IsSound}
pub use Rattle.monitor.specs.Stepping.{IsSame}
pub use Rattle.monitor_fronts.specs.CountingDown.{IsOpen}
pub use Rattle.monitor_fronts.specs.Holding.{holds}
pub use Rattle.monitor_fronts.specs.Permits.{permits}
