-- What a section of the lock leaves that changes nothing.
use Rattle.std.proofs.Common.{◌≡◌, [], ℕ, refl, sym, ap, ◌∙◌}
use Rattle.monitor.specs.Below.{ended_calls, Point, Before, Follows, AllAgree, Ticket, after_lock, after_unlock, first_seat}
use Rattle.word_lock.specs.Woken.{WasWoken}
use Rattle.word_lock.proofs.PointLaws.{before_refl, follows_same, added_more}
use Rattle.word_lock.proofs.Sections.{follows_taken, section}
use Rattle.monitor.specs.Prelude.{IsLawful, Called, CalledQuietly, Shown, shown, IsPass, IsSound, IsLook, IsQuietLook}
use Rattle.monitor.proofs.Sections.{mine_stays, passed}

-- what was taken at a point may be given back there
pub may_give_back : (o t : Ticket) (p : Point) (seat share : ℕ) → o ≡ after_lock t p → IsPass t seat share →
    Follows (first_seat o.logs) o.seen p
may_give_back o t p seat share taken was =
    follows_taken o t p p seat taken was.seat_is (follows_same seat p)

-- a pass after such a section
pub record Looked (t n : Ticket) (p : Point) (seat share : ℕ) : Type 0 where
  pub pass : IsPass n seat share
  pub is : IsQuietLook (shown t seat share) (shown n seat share)
  pub seen : n.seen ≡ p

pub look : (t o n : Ticket) (p : Point) (seat share : ℕ) → o ≡ after_lock t p → n ≡ after_unlock o p →
    IsPass t seat share → Before t.seen p → AllAgree p t.logs → IsLawful p → Looked t n p seat share
look t o n p seat share taken given was begins entries lawful =
    let x =
    section t o n p p seat taken given was.one was.seat_is begins entries (follows_same seat p) in
    let mine = mine_stays t n p p seat x (added_more p p [] refl refl) in
    let pass = passed t n p p seat share share x was lawful (was.shows.counted ∙ ap ended_calls (sym mine)) in
    record {
      pass = pass;
      is = record { lock = x.lock; seat = refl; begins = x.begins; mine = mine; share = refl; shows = pass.shows };
      seen = x.seen;
    }

-- after which whoever sleeps was woken
pub look_woken : (old new : Shown) → IsQuietLook old new → WasWoken new.lock new.seen → IsLook old new
look_woken old new x woken = record {
  lock = x.lock;
  seat = x.seat;
  begins = x.begins;
  mine = x.mine;
  share = x.share;
  shows = x.shows;
  woken = woken;
}

-- what a look leaves is also what each call does
pub looked_quietly : (old new : Shown) → IsQuietLook old new → CalledQuietly old new
looked_quietly old new x =
    record { same = record { lock = x.lock; seat = x.seat }; begins = x.begins; shows = x.shows }

pub looked_calls : (old new : Shown) → IsLook old new → Called old new
looked_calls old new x =
    record { same = record { lock = x.lock; seat = x.seat }; begins = x.begins; shows = x.shows; woken = x.woken }

-- no look at all
pub not_looked : (p : Shown) → IsSound p → IsQuietLook p p
not_looked p shows =
    record { lock = refl; seat = refl; begins = before_refl p.seen; mine = refl; share = refl; shows = shows }
