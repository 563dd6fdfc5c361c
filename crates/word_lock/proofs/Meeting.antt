-- What a look tells of two views that were joined just before it.
use Rattle.std.proofs.Common.{◌≡◌, List, [], ◌∷◌, ◌+◌, ◌++◌, length, ap, sym, subst}
use lib.ListN.{get_elem?}
use Rattle.atomic_table.proofs.Lists.{at_longer}
use Rattle.history.specs.declared.point.Point.{Point}
use Rattle.word_lock.specs.Prelude.{View, header_of, Before, joined_view, AllAgree, IsLookedAt}
use Rattle.word_lock.proofs.Lists.{at_behind}
use Rattle.word_lock.proofs.PointLaws.{before_header}

pub record IsTied (sound : Point → Type 0) (v w : View) (p : Point) : Type 0 where
  pub is_sound : sound p
  pub begins : Before v.seen p × Before w.seen p
  pub header : (header_of p ≡ header_of v.seen) × (header_of p ≡ header_of w.seen)
  pub all : AllAgree p (v.logs ++ w.logs)
  pub each : AllAgree p v.logs × AllAgree p w.logs

pub tied : (sound : Point → Type 0) (v w u : View) (p q : Point) → u ≡ joined_view v w → v.joined ≡ [] →
    p ≡ q → IsLookedAt sound u p → IsTied sound v w q
tied sound v w u p q is none same looked =
    let at : IsLookedAt sound (joined_view v w) q =
    subst (λ (z : Point). IsLookedAt sound (joined_view v w) z) same
    (subst (λ (z : View). IsLookedAt sound z p) is looked) in
    let front : get_elem? (v.joined ++ w.seen ∷ w.joined) 0 ≡ get_elem? (w.seen ∷ w.joined) 0 =
    ap (λ (l : List Point). get_elem? (l ++ w.seen ∷ w.joined) 0) none in
    let theirs : Before w.seen q = at.joined 0 w.seen front in record {
      is_sound = at.is_sound;
      begins = (at.seen, theirs);
      header = (sym (before_header v.seen q at.seen), sym (before_header w.seen q theirs));
      all = at.agrees;
      each = (
        (λ k l e. at.agrees k l (at_longer v.logs w.logs k l e)),
        λ k l e. at.agrees (length v.logs + k) l (at_behind v.logs w.logs k l e),
      );
    }
