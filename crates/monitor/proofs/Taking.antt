-- What a call knows once it has taken the object for its pass, and after it gave it back.
use Rattle.std.proofs.Common.{◌≡◌, ℕ, ◌<◌, ◌^◌, Result, IfOk, refl, sym, ap, ◌∙◌, subst}
use Rattle.monitor.specs.Below.{Mode, Fault, Header, Point, Answer, Step, CoreView, IsAnswered, NamesBelow, header_of, Follows, Ticket, after_lock, first_entries, first_seat}
use Rattle.word_lock.proofs.PointLaws.{before_header}
use Rattle.word_lock.proofs.Sections.{follows_taken}
use Rattle.monitor.specs.Prelude.{point_of, IsLawfulCore, LetsGo, holds_in, holds_of, shown, IsPass, IsSound}
use Rattle.monitor.specs.inner.Sections.{Taking}
use Rattle.monitor.proofs.Loads.{holds_at, own_holds, true_holds}
use Rattle.monitor.proofs.Sections.{answered_shown, follows_step, own_entries, seat_below, share_few}
use Rattle.monitor.proofs.Beside.{beside_of}

-- the share has room for one call more
pub share_fits : (t : Ticket) (seat share : ℕ) → IsPass t seat share → share < 2 ^ 63
share_fits t seat share was =
    share_few t.seen seat (first_entries t.logs) share was.shows.agrees was.shows.lawful
    (seat_below t.seen t.lock.header t.lock.header seat was.shows.header refl was.shows.below) was.shows.counted

-- the object that was taken is that of the pass
module _ (t o : Ticket) (v : CoreView) (seat share : ℕ) (k : Taking t o v seat share) where
  header_taken : header_of (point_of v) ≡ t.lock.header
  header_taken = sym (before_header t.seen (point_of v) k.begins) ∙ k.was.shows.header

  pub seat_taken : seat < v.header.seats
  seat_taken =
      subst (λ (h : Header). seat < h.seats) k.kept.header
      (seat_below (point_of v) t.lock.header t.lock.header seat header_taken refl k.was.shows.below)

  -- whom an answer names has a seat of the pass's object
  pub names_taken : (r : Result Answer Fault) → IfOk r (λ a. NamesBelow v.header.seats a) →
      IfOk r (λ a. NamesBelow t.lock.header.seats a)
  unfolding header_of
  names_taken r = subst (λ (h : Header). IfOk r (λ a. NamesBelow h.seats a)) (sym k.kept.header ∙ header_taken)

  -- the holds of the pass are those of its seat there
  pub holds_taken : holds_of (shown t seat share) ≡ holds_at (point_of v) seat
  holds_taken =
      own_holds (point_of v) t.lock.header seat (first_entries t.logs)
      (own_entries t (point_of v) seat k.was.one k.was.seat_is k.entries) header_taken

  pub carries_taken : {A : Type 0} (carries : A → (Mode → ℕ) → Type 0) (x : A) →
      carries x (holds_of (shown t seat share)) → carries x (holds_at (point_of v) seat)
  carries_taken carries x carried = subst (λ (f : Mode → ℕ). carries x f) holds_taken carried

  -- what the caller carries is as fit as its pass's holds ask
  pub fit_taken : {A : Type 0} (fit : A → Type 0) (x : A) (step : Step) →
      (LetsGo step (holds_of (shown t seat share)) → fit x) → LetsGo step (holds_in v seat) → fit x
  fit_taken fit x step is = carries_taken (λ y f. LetsGo step f → fit y) x is

-- and so they are once the object is put back
pub holds_left : (n : Ticket) (p : Point) (seat share : ℕ) → IsSound (shown n seat share) → n.seen ≡ p →
    holds_of (shown n seat share) ≡ holds_at p seat
holds_left n p seat share sound seen =
    true_holds (shown n seat share) sound ∙ ap (λ (z : Point). holds_at z seat) seen

-- what the caller carries belongs to the holds that its pass then shows
pub carries_left : {A : Type 0} (carries : A → (Mode → ℕ) → Type 0) (y : A) (n : Ticket) (p : Point)
    (seat share : ℕ) → IsSound (shown n seat share) → n.seen ≡ p → carries y (holds_at p seat) →
    carries y (holds_of (shown n seat share))
carries_left carries y n p seat share sound seen carried =
    subst (λ (f : Mode → ℕ). carries y f) (sym (holds_left n p seat share sound seen)) carried

-- one step of the core that was taken
module _ (t o : Ticket) (v w : CoreView) (seat share : ℕ) (step : Step) (r : Result Answer Fault) where
  pub follows_made : o ≡ after_lock t (point_of v) → IsPass t seat share → IsLawfulCore v → IsLawfulCore w →
      IsAnswered v seat step r w → Follows (first_seat o.logs) o.seen (point_of w)
  follows_made taken was kept left answered =
      follows_taken o t (point_of v) (point_of w) seat taken was.seat_is
      (follows_step seat (point_of v) (point_of w) (beside_of v) (beside_of w) step r
      (answered_shown v w seat step r kept left answered))
