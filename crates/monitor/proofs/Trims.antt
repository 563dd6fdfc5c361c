-- What a section of the lock with one trim of the core leaves.
use Rattle.std.proofs.Common.{◌≡◌, [], ℕ, Result, Ok, Err, refl, sym, ap, ◌∙◌, subst}
use Rattle.monitor.specs.Below.{Fault, Point, ended_calls, CoreView, IsTrimmed, Before, Follows, added, AllAgree, Ticket, first_entries, first_seat, after_lock, after_unlock}
use Rattle.word_lock.proofs.PointLaws.{added_more, follows_fold, follows_more}
use Rattle.word_lock.proofs.Sections.{IsSection, follows_taken, section}
use Rattle.monitor.specs.Prelude.{point_of, view_of, Beside, IsLawfulCore, IsLawful, CalledQuietly, shown, IsPass, IsTrim}
use Rattle.monitor.proofs.Sections.{called_by, core_shown, mine_stays, own_entries, passed}
use Rattle.monitor.proofs.Beside.{beside_of}

pub trimmed_shown : (v w : CoreView) (r : Result ℕ Fault) → IsLawfulCore v → IsLawfulCore w → IsTrimmed v r w →
    IsTrimmed (view_of (point_of v) (beside_of v)) r (view_of (point_of w) (beside_of w))
trimmed_shown v w r kept left t =
    subst (λ x. IsTrimmed x r (view_of (point_of w) (beside_of w))) (sym (core_shown v kept))
    (subst (λ y. IsTrimmed v r y) (sym (core_shown w left)) t)

-- the list was folded, or nothing has changed
pub follows_trim : (seat : ℕ) (p q : Point) (m n : Beside) (r : Result ℕ Fault) → IsLawful p →
    IsTrimmed (view_of p m) r (view_of q n) → (Follows seat p q) × (added p q ≡ [])
follows_trim seat p q m n (Ok count) lawful t =
    follows_fold seat p q lawful.may_fold.can (ap (λ (v : CoreView). v.base) t.2)
    (ap (λ (v : CoreView). v.entries) t.2)
follows_trim seat p q m n (Err f) lawful t =
    let base = ap (λ (v : CoreView). v.base) (sym t.2) in
    let list = ap (λ (v : CoreView). v.entries) t.2 in
    (follows_more seat p q [] base list tt, added_more p q [] base list)

module _ (t o n : Ticket) (p q : Point) (seat share : ℕ) (r : Result ℕ Fault) where
  pub record Trim : Type 0 where
    pub taken : o ≡ after_lock t p
    pub given : n ≡ after_unlock o q
    pub was : IsPass t seat share
    pub begins : Before t.seen p
    pub entries : AllAgree p t.logs
    pub beside : Beside
    pub beside_left : Beside
    pub trimmed : IsTrimmed (view_of p beside) r (view_of q beside_left)
    pub found : IsLawful p
    pub lawful : IsLawful q

  went : Trim → IsSection t n p q seat
  went s =
      section t o n p q seat s.taken s.given s.was.one s.was.seat_is s.begins s.entries
      (follows_trim seat p q s.beside s.beside_left r s.found s.trimmed).0

  pub trim_seen : Trim → n.seen ≡ q
  trim_seen s = (went s).seen

  mine : Trim → first_entries n.logs ≡ first_entries t.logs
  mine s = mine_stays t n p q seat (went s)
      (follows_trim seat p q s.beside s.beside_left r s.found s.trimmed).1

  pub trim_pass : Trim → IsPass n seat share
  trim_pass s = passed t n p q seat share share (went s) s.was s.lawful
      (s.was.shows.counted ∙ ap ended_calls (sym (mine s)))

  pub trim_called : Trim → CalledQuietly (shown t seat share) (shown n seat share)
  trim_called s = called_by t n p q seat share share (went s) (trim_pass s)

  pub trim_is : Trim → IsTrim (shown t seat share) r (shown n seat share)
  trim_is s = let x = went s in record {
    found = p;
    begins = s.begins;
    lawful = s.found;
    agrees = own_entries t p seat s.was.one s.was.seat_is s.entries;
    beside = s.beside;
    beside_left = s.beside_left;
    trimmed = subst (λ (z : Point). IsTrimmed (view_of p s.beside) r (view_of z s.beside_left)) (sym x.seen)
        s.trimmed;
    after = x.begins;
    mine = mine s;
    share = refl;
  }

-- one trim of the core that was taken
module _ (t o : Ticket) (v w : CoreView) (seat share : ℕ) (r : Result ℕ Fault) where
  pub follows_trimmed : o ≡ after_lock t (point_of v) → IsPass t seat share → IsLawfulCore v → IsLawfulCore w →
      IsTrimmed v r w → Follows (first_seat o.logs) o.seen (point_of w)
  follows_trimmed taken was kept left trimmed =
      follows_taken o t (point_of v) (point_of w) seat taken was.seat_is
      (follows_trim seat (point_of v) (point_of w) (beside_of v) (beside_of w) r kept.lawful
      (trimmed_shown v w r kept left trimmed)).0

  pub trim_of : (n : Ticket) → o ≡ after_lock t (point_of v) → n ≡ after_unlock o (point_of w) →
      IsPass t seat share → Before t.seen (point_of v) → AllAgree (point_of v) t.logs → IsLawfulCore v →
      IsLawfulCore w → IsTrimmed v r w → Trim t o n (point_of v) (point_of w) seat share r
  trim_of n taken given was begins entries kept left trimmed = record {
    taken = taken;
    given = given;
    was = was;
    begins = begins;
    entries = entries;
    beside = beside_of v;
    beside_left = beside_of w;
    trimmed = trimmed_shown v w r kept left trimmed;
    found = kept.lawful;
    lawful = left.lawful;
  }
