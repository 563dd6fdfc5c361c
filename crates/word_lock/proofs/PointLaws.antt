-- The laws of points. The proof of the lock rests on the first six, and on none of the definitions.
use Rattle.std.proofs.Common.{◌≡◌, ◌≢◌, inl, inr, ℕ, ◌+◌, ◌-◌, List, [], ◌∷◌, ◌++◌, length, take, refl, ap, sym, ◌∙◌, subst, arith, length-append}
use Rattle.std.specs.List.{AllByRecursion}
use Rattle.std.proofs.Math.Seq.{take-append_seam, take-nil}
use Rattle.history.specs.declared.entry.Entry.{Entry}
use Rattle.history.specs.declared.header.Header.{Header}
use Rattle.history.specs.declared.point.Point.{Point}
use Rattle.history.specs.Base.{Base, folded, opening_base}
use Rattle.history.specs.Point.{CanFold}
use Rattle.history.proofs.Points.{agrees_folded, agrees_grown, agrees_opened, all_of, further_point, none_of_other, same_point}
use Rattle.word_lock.specs.Point.{header_of, Before, Agrees, added, AllOfSeat, Follows}

-- what stands in front of an old list, where so many entries were folded before
front_is : {A : Type 0} (n : ℕ) (old new more : List A) → new ≡ more ++ old →
    take ((n + length new) - (n + length old)) new ≡ more
front_is {A} n old new more e =
    let count : (n + length (more ++ old)) - (n + length old) ≡ length more = omega (arith, length-append more old) in
    subst (λ (w : List A). take ((n + length w) - (n + length old)) w ≡ more) (sym e)
    (ap (λ n. take n (more ++ old)) count ∙ take-append_seam more old)

pub before_refl : (p : Point) → Before p p
unfolding Before
before_refl p = same_point p

pub before_trans : (p q r : Point) → Before p q → Before q r → Before p r
unfolding Before
before_trans p q r a b = further_point p q r a b

-- the header stays
pub before_header : (p q : Point) → Before p q → header_of p ≡ header_of q
unfolding Before header_of
before_header p q (inl grown) = ap (λ (b : Base). b.header) grown.0
before_header p q (inr folds) = sym (ap (λ (b : Base). b.header) folds.base)

pub follows_before : (seat : ℕ) (p q : Point) → Follows seat p q → Before p q
unfolding Follows Before
follows_before seat p q (inl grown) = inl (sym grown.0, (added p q, grown.1))
follows_before seat p q (inr folds) = inr (record { more = []; can = folds.0; base = folds.1 })

-- what was added, and what the seat had, is what the seat has
pub follows_own : (seat : ℕ) (p q : Point) (es : List Entry) → Follows seat p q → Agrees p seat es →
    Agrees q seat (added p q ++ es)
unfolding Agrees Follows AllOfSeat
follows_own seat p q es (inl grown) a =
    agrees_grown p q seat (added p q) (added p q) es grown.0 grown.1 (all_of seat (added p q) grown.2) a
follows_own seat p q es (inr folds) a =
    subst (λ (more : List Entry). Agrees q seat (more ++ es)) (sym folds.3)
    (agrees_folded p q seat es folds.0 folds.1 folds.2 a)

-- what another seat had is what it has
pub follows_other : (seat other : ℕ) (p q : Point) (es : List Entry) → Follows seat p q → other ≢ seat →
    Agrees p other es → Agrees q other es
unfolding Agrees Follows AllOfSeat
follows_other seat other p q es (inl grown) apart a =
    agrees_grown p q other (added p q) [] es grown.0 grown.1
    (none_of_other seat other (added p q) (λ is. apart (sym is)) grown.2) a
follows_other seat other p q es (inr folds) apart a =
    agrees_folded p q other es folds.0 folds.1 folds.2 a

-- a point as it is opened has no entry of any seat
pub agrees_empty : (k : Header) (seat : ℕ) (p : Point) → p.base ≡ opening_base k → p.entries ≡ [] →
    Agrees p seat []
unfolding Agrees
agrees_empty k seat p base none = agrees_opened k p seat base none

pub added_more : (p q : Point) (more : List Entry) → p.base ≡ q.base → q.entries ≡ more ++ p.entries →
    added p q ≡ more
unfolding added
added_more p q more base e =
    ap (λ (b : Base). take ((b.entries + length q.entries) - (p.base.entries + length p.entries)) q.entries) (sym base)
    ∙ front_is p.base.entries p.entries q.entries more e

-- nothing stands behind a fold
pub added_none : (p q : Point) → q.entries ≡ [] → added p q ≡ []
unfolding added
added_none p q none =
    ap (λ (es : List Entry). take ((q.base.entries + length q.entries) - (p.base.entries + length p.entries)) es) none
    ∙ take-nil ((q.base.entries + length q.entries) - (p.base.entries + length p.entries))

-- entries of the seat were added
pub follows_more : (seat : ℕ) (p q : Point) (more : List Entry) → p.base ≡ q.base →
    q.entries ≡ more ++ p.entries → AllByRecursion (λ e. e.seat ≡ seat) more → Follows seat p q
unfolding Follows AllOfSeat
follows_more seat p q more base list own =
    let same = sym (added_more p q more base list) in
    inl (
      sym base,
      list ∙ ap (λ l. l ++ p.entries) same,
      subst (λ (es : List Entry). AllByRecursion (λ e. e.seat ≡ seat) es) same own,
    )

-- nothing was added
pub follows_same : (seat : ℕ) (p : Point) → Follows seat p p
follows_same seat p = follows_more seat p p [] refl refl tt

-- one entry of the seat was added
pub follows_push : (seat : ℕ) (p q : Point) (e : Entry) → e.seat ≡ seat → p.base ≡ q.base →
    q.entries ≡ e ∷ p.entries → Follows seat p q
follows_push seat p q e own base list = follows_more seat p q (e ∷ []) base list (own, tt)

-- the list was folded
pub follows_fold : (seat : ℕ) (p q : Point) → CanFold p.base p.entries → q.base ≡ folded p.base p.entries →
    q.entries ≡ [] → (Follows seat p q) × (added p q ≡ [])
unfolding Follows
follows_fold seat p q can base none = (inr (can, base, none, added_none p q none), added_none p q none)
