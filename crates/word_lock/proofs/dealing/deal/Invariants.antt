use Rattle.std.proofs.Common.{◌≡◌, ℕ, ◌+◌, ◌≤◌, [], vec_len, vec_capacity}
use Rattle.word_lock.specs.Prelude.{dealing_view, lock_id, opening_tickets}
use Rattle.word_lock.proofs.dealing.deal.Given as goal

abbrev pub invariant-loop-number : goal.invariant-loop-number
invariant-loop-number g l =
    (vec_len l.tokens + 1 ≡ l._number)
    × (l.tokens.items ≡ opening_tickets (lock_id l.shared.table_id l.fn.first.me.0.seen)
    l.fn.first.me.0.seen 0 (vec_len l.tokens))
    × (l.seats ≤ vec_capacity l.tokens)
    × (l.last.table_id ≡ l.shared.table_id)
    × ((n : ℕ) × (vec_len l.tokens + n ≡ l.seats)
    × (l.last.me ≡ (dealing_view (vec_len l.tokens) n l.fn.first.me.0.seen, [])))
