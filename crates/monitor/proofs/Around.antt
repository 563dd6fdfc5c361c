-- The section of the lock around a step of the core.
use Rattle.std.proofs.Common.{◌≡◌, ℕ, ◌+◌, Bool, Result, ap, sym, ◌∙◌}
use Rattle.monitor.specs.Below.{Fault, Answer, Step, ended_calls, opening, CoreView, free, counts_of, made_by, Ticket, first_entries, after_unlock}
use Rattle.monitor.specs.Prelude.{point_of, IsLawfulCore, Moves, Trades, holds_in, shown}
use Rattle.frame.specs.Core.{IsStepped}
use Rattle.monitor.specs.inner.Sections.{Taking, Went}
use Rattle.monitor.proofs.Freeing.{free_kept, moves_own, section_frees}
use Rattle.monitor.proofs.Sections.{Section, answered_shown, called_by, owed_shown, section_pass, section_step, sectioned}
use Rattle.monitor.proofs.Taking.{holds_left, holds_taken, names_taken}
use Rattle.monitor.proofs.Beside.{beside_of}

-- what was taken, and what is put back
pub record Around (t o n : Ticket) (v w : CoreView) (seat share : ℕ) : Type 0 where
  pub took : Taking t o v seat share
  pub given : n ≡ after_unlock o (point_of w)
  pub kept : IsLawfulCore w

module _ (t o n : Ticket) (v w : CoreView) (seat share : ℕ) (a : Around t o n v w seat share) (step : Step)
    (r : Result Answer Fault) (s : IsStepped v seat step r w) where
  section_of : Section t o n (point_of v) (point_of w) seat share step r
  section_of = let k = a.took in record {
    taken = k.taken;
    given = a.given;
    was = k.was;
    begins = k.begins;
    entries = k.entries;
    beside = beside_of v;
    beside_left = beside_of w;
    answered = answered_shown v w seat step r k.kept a.kept s.answered;
    told = s.told;
    found = k.kept.lawful;
    lawful = a.kept.lawful;
  }

  -- the pass afterwards
  pub went : (next : ℕ) → next ≡ ended_calls (made_by r) + share → Went t n seat share next step r
  went next is =
      let pass = section_pass t o n (point_of v) (point_of w) seat share step r section_of next is in
      record {
        pass = pass;
        called = called_by t n (point_of v) (point_of w) seat share next
            (sectioned t o n (point_of v) (point_of w) seat share step r section_of) pass;
        stepped = section_step t o n (point_of v) (point_of w) seat share step r section_of next
            (owed_shown v seat step r a.took.kept s.owed) (names_taken t o v seat share a.took r s.names);
      }

  -- and what changed hands
  pub trades_by : (next : ℕ) → next ≡ ended_calls (made_by r) + share → {A : Type 0} (fit : A → Type 0)
      (counted : Bool) (amount : A → ℕ) (x y : A) → Moves fit counted amount x (counts_of v).free y (counts_of w).free →
      (holds_in w seat ≡ holds_in v seat → (counts_of w).free ≡ (counts_of v).free → y ≡ x) →
      Trades fit counted amount x (shown t seat share) y (shown n seat next)
  trades_by next is fit counted amount x y m stays =
      let f = free (opening t.lock.header) (first_entries t.logs) in
      let g = free (opening n.lock.header) (first_entries n.logs) in
      let frees = section_frees t o n (point_of v) (point_of w) seat share step r section_of in (
        moves_own fit counted amount x y f g (counts_of v).free (counts_of w).free frees m,
        λ same free_same. stays
            (sym (holds_left n (point_of w) seat next (went next is).called.shows
            (ap (λ (z : Ticket). z.seen) a.given)) ∙ (same ∙ holds_taken t o v seat share a.took))
            (free_kept f g (counts_of v).free (counts_of w).free frees free_same),
      )
