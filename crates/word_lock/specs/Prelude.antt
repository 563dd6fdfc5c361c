-- What the proofs of word_lock cite of its own definitions, passed on from one place: tickets, points and
-- logs of seats, and the rule of a word lock. Declares nothing.
pub use Rattle.word_lock.specs.declared.view.SeatLog.{SeatLog}
pub use Rattle.word_lock.specs.declared.view.View.{View}
unfoldable pub use Rattle.word_lock.specs.Point.{header_of, Before, Agrees, added, Follows}
pub use Rattle.word_lock.specs.Rule.{empty_logs, dealing_view, first_view, view_after_take, with_added, view_after_give, view_after_look, rest_of_view, front_of_view, joined_view, spent_view, AllAgree, AllBefore, IsKnownBy, IsFree, IsTaken, RuleHolds, TellsTake, TellsGive, IsLookedAt, TellsLook}
pub use Rattle.word_lock.specs.Ticket.{LockId, lock_id, Ticket, ticket, first_seat, first_entries, opening_ticket, opening_tickets, after_lock, after_unlock}
