-- Whom an entry names: nobody where the hooks let nobody go, and else the first in line, where it can go now.
use Rattle.std.proofs.Common.{◌≡◌, ◌≢◌, ⊎_elim, ℕ, ◌<◌, ◌≤◌, Bool, true, false, cond, eqb, List, [], ◌∷◌, ◌++◌, map, take, Option, Some, None, refl, ap, ◌∙◌, sym, subst, arith, IfSome, eq-eqb, ne_eqb, true≢false}
use Rattle.std.specs.List.{AllByRecursion}
use Rattle.std.proofs.lemmas.Bool.{cases_eq, cond_both}
use Rattle.frame.specs.Below.{Arrival, Entry, X, Word, Header, Object, Lock, ReadWrite, Semaphore, Latch, could, could_of, Counts, counts, owner, ends_arrival, max_amount, IsInRange, line, first_of, arrivals_by, coming_back, named, named_by, ready, ready_by, sleepers, Base, based, Start, IsHistory}
use Rattle.history.specs.declared.entry.Word.TheVariants as word
use Rattle.history.proofs.Asking.{AsksFew}
use Rattle.history.proofs.SmallHolds.{asks_small}
use Rattle.history.proofs.Changes.{all_stay}
use Rattle.history.proofs.Entering.{KnownBy}
use Rattle.history.proofs.LineLemmas.{line_after}
use Rattle.frame.specs.Effects.{OpensNobody, counts_after, may_name}
use Rattle.frame.specs.inner.Effects.{asks_before}
use Rattle.deciding.proofs.Bounds.{first_below}
use Rattle.frame.proofs.Recording.{names_below}
use Rattle.frame.proofs.Stepping.{Next}

-- beside an owner nobody else could take X
owner_alone : (k : Counts) (i j n : ℕ) → owner k ≡ Some i → j ≢ i → could k j X n ≡ false
owner_alone k i j n own ne = by k.object
  where
    other : eqb i j ≡ false
    other = ne_eqb i j (λ q. ne (sym q))

    by : (o : Object) → could_of o k j X n ≡ false
    by (Lock policy) = rw (own, other) refl
    by (ReadWrite policy) = rw (own, other) refl
    by (Semaphore policy permits) = refl
    by (Latch count) = refl

-- whoever arrives by an entry is its own seat, or can't go: the owner who moved it holds the lock
arrived_waits : (s : Start) (h : List Entry) (e : Entry) (a : Arrival) (w : Word) → KnownBy s h e w →
    first_of (arrivals_by s w e h) ≡ Some a → a.seat ≢ e.seat →
    could (counts s h) a.seat a.mode a.n ≡ true → ⊥
arrived_waits s h e a w known first ne goes = by w known first
  where
    own : (b : Arrival) → Some b ≡ Some a → b.seat ≡ e.seat → ⊥
    own b is seat = let same : b ≡ a = cc in ne (sym (ap (λ (x : Arrival). x.seat) same) ∙ seat)

    moved : (xs : List ℕ) → owner (counts s h) ≡ Some e.seat → first_of (map coming_back xs) ≡ Some a → ⊥
    moved [] owns is = cc
    moved (j ∷ xs) owns is =
        let same : coming_back j ≡ a = cc in
        let other : j ≢ e.seat = λ q. ne (sym (ap (λ (x : Arrival). x.seat) same) ∙ q) in
        true≢false (sym goes ∙ ap (λ (x : Arrival). could (counts s h) x.seat x.mode x.n) (sym same)
        ∙ owner_alone (counts s h) e.seat j 1 owns other)

    by : (w : Word) → KnownBy s h e w → first_of (arrivals_by s w e h) ≡ Some a → ⊥
    by word.Queued k is = own (record { seat = e.seat; mode = e.mode; n = e.n; back = false }) is refl
    by word.Lapse k is = own (coming_back e.seat) is refl
    by word.Signal k is = moved (take e.n (sleepers s h e.at)) k.0.owner is
    by word.SignalAll k is = moved (sleepers s h e.at) k.0.owner is
    by _ k is = cc

-- whoever is first behind an entry that ends nobody's wait was first before it, if another made it
first_stays : (s : Start) (h : List Entry) (e : Entry) (a : Arrival) → KnownBy s h e e.word →
    ends_arrival e.word ≡ false → first_of (line s (e ∷ h)) ≡ Some a → a.seat ≢ e.seat →
    could (counts s h) a.seat a.mode a.n ≡ true → first_of (line s h) ≡ Some a
first_stays s h e a known stays first ne goes =
    by (line s h) (sym (ap first_of after) ∙ first)
  where
    after : line s (e ∷ h) ≡ line s h ++ arrivals_by s e.word e h
    after =
        line_after s e h ∙ ap (λ l. l ++ arrivals_by s e.word e h) (all_stay e.word e.seat (line s h) stays)

    by : (q : List Arrival) → first_of (q ++ arrivals_by s e.word e h) ≡ Some a → first_of q ≡ Some a
    by [] is = absurd (arrived_waits s h e a e.word known is ne goes)
    by (b ∷ rest) is = is

-- what the first in line asks for
first_few : (q : List Arrival) (a : Arrival) → AllByRecursion AsksFew q → first_of q ≡ Some a →
    a.n ≤ max_amount
first_few [] a all is = cc
first_few (b ∷ rest) a all is = let same : b ≡ a = cc in subst AsksFew same all.0

-- who could take behind an entry that opens nothing could take before it
could_before : (old new : Counts) (i : ℕ) (a : Arrival) (w : Word) → OpensNobody w old new i →
    a.seat < 256 → a.n ≤ max_amount → a.seat ≢ i → could new a.seat a.mode a.n ≡ true →
    (ends_arrival w ≡ false) × (could old a.seat a.mode a.n ≡ true)
could_before old new i a w none seat few ne goes = by w none
  where
    nobody : could new a.seat a.mode a.n ≡ false → ⊥
    nobody q = true≢false (sym goes ∙ q)

    before : (b : Bool) → could old a.seat a.mode a.n ≡ b →
        (could old a.seat a.mode a.n ≡ false → could new a.seat a.mode a.n ≡ false) → b ≡ true
    before true q none = refl
    before false q none = absurd (nobody (none q))

    by : (w : Word) → OpensNobody w old new i →
        (ends_arrival w ≡ false) × (could old a.seat a.mode a.n ≡ true)
    by word.Granted none = absurd (nobody (none a.mode a.seat a.n seat few ne))
    by word.Back none = absurd (nobody (none a.mode a.seat a.n seat few ne))
    by word.Left none = absurd none
    by _ none = (refl, before _ refl (none a.seat a.mode a.n seat few ne))

pub named_nobody : (k : Header) (b : Base) (h : List Entry) (e : Entry) → IsInRange k → Next k b h e →
    OpensNobody e.word (counts (based b) h) (counts (based b) (e ∷ h)) e.seat →
    named (based b) h e ≡ None
named_nobody k b h e range n none = by (first_of (line (based b) (e ∷ h))) refl
  where
    new : Counts
    new = counts (based b) (e ∷ h)

    other : (a : Arrival) → first_of (line (based b) (e ∷ h)) ≡ Some a →
        could new a.seat a.mode a.n ≡ true → a.seat ≢ e.seat → ready (based b) h ≡ Some a.seat
    other a is goes ne =
        let past : IsHistory (based b) (e ∷ h) =
        record {
          base = b;
          good = n.can.good;
          start = refl;
          range = subst IsInRange (sym n.same) range;
          legal = n.can.legal;
          seated = n.can.seated;
        } in
        let below : a.seat < b.header.seats = first_below (based b) (e ∷ h) a past (sym is) in
        let most = range.seats in
        let seats = ap (λ (x : Header). x.seats) n.same in
        let few = first_few (line (based b) (e ∷ h)) a (asks_small b (e ∷ h) n.can) is in
        let was = could_before (counts (based b) h) new e.seat a e.word none
        (omega (arith, below, most, seats)) few ne goes in
        rw (first_stays (based b) h e a n.known was.0 is ne was.1, was.1) refl

    going : (a : Arrival) → first_of (line (based b) (e ∷ h)) ≡ Some a → (goes : Bool) →
        could new a.seat a.mode a.n ≡ goes →
        named_by (ready (based b) h) (cond goes (Some a.seat) None) e.seat ≡ None
    going a is false t = refl
    going a is true t =
        ⊎_elim (λ (same : a.seat ≡ e.seat). rw (eq-eqb a.seat e.seat same) refl)
        (λ (ne : a.seat ≢ e.seat).
        rw (other a is t ne, ne_eqb a.seat e.seat ne, eq-eqb a.seat a.seat refl) refl)
        (cases_eq a.seat e.seat)

    by : (o : Option Arrival) → first_of (line (based b) (e ∷ h)) ≡ o →
        named_by (ready (based b) h) (ready_by new o) e.seat ≡ None
    by None is = refl
    by (Some a) is = going a is (could new a.seat a.mode a.n) refl

-- a name goes to another seat than the entry's, so that this one was ready before needn't be known
beside_own : (after : Option ℕ) (i : ℕ) → named_by None after i ≡ named_by (Some i) after i
beside_own None i = refl
beside_own (Some j) i =
    ⊎_elim (λ (same : j ≡ i). rw (eq-eqb j i same) refl)
    (λ (ne : j ≢ i). rw (ne_eqb j i ne, ne_eqb i j (λ q. ne (sym q))) refl)
    (cases_eq j i)

-- the name of an entry that may name somebody, by who was asked for before it and who is ready behind it
named_asked : (s : Start) (h : List Entry) (e : Entry) (after : Option ℕ) (w : Word) → KnownBy s h e w →
    may_name w ≡ true →
    named_by (cond (asks_before w) (ready s h) None) after e.seat ≡ named_by (ready s h) after e.seat
named_asked s h e after word.Granted known may =
    beside_own after e.seat ∙ ap (λ x. named_by x after e.seat) (sym known.2)
named_asked s h e after word.Left known may = refl
named_asked s h e after word.Gave known may = refl
named_asked s h e after word.Counted known may = refl
named_asked s h e after word.Await known may = refl
named_asked s h e after _ known may = cc

pub named_now : (k : Header) (b : Base) (h : List Entry) (e : Entry) (may : Bool) (before name : Option ℕ)
    (q : List Arrival) → IsInRange k → Next k b h e →
    before ≡ cond (asks_before e.word) (ready (based b) h) None →
    name ≡ cond may (named_by before (ready_by (counts_after e.word (counts (based b) h) e) (first_of q))
    e.seat)
    None → q ≡ line (based b) (e ∷ h) →
    (may ≡ false → OpensNobody e.word (counts (based b) h) (counts_after e.word (counts (based b) h) e)
    e.seat) →
    (may ≡ true → may_name e.word ≡ true) → name ≡ named (based b) h e
named_now k b h e may before name q range n was is waits none some = by may is none some
  where
    after : ready_by (counts_after e.word (counts (based b) h) e) (first_of q) ≡ ready (based b) (e ∷ h)
    after =
        ap (λ x. ready_by x (first_of q)) (sym n.counts)
        ∙ ap (λ l. ready_by (counts (based b) (e ∷ h)) (first_of l)) waits

    by : (may : Bool) →
        name ≡ cond may (named_by before
        (ready_by (counts_after e.word (counts (based b) h) e) (first_of q)) e.seat)
        None →
        (may ≡ false →
        OpensNobody e.word (counts (based b) h) (counts_after e.word (counts (based b) h) e) e.seat) →
        (may ≡ true → may_name e.word ≡ true) → name ≡ named (based b) h e
    by true is none some =
        is ∙ ap (λ x. named_by before x e.seat) after
        ∙ ap (λ x. named_by x (ready (based b) (e ∷ h)) e.seat) was
        ∙ named_asked (based b) h e (ready (based b) (e ∷ h)) e.word n.known (some refl)
    by false is none some =
        is ∙ sym (named_nobody k b h e range n
        (subst (λ x. OpensNobody e.word (counts (based b) h) x e.seat) (sym n.counts) (none refl)))

-- whom an entry names is one of the seats
pub named_below : (k : Header) (b : Base) (h : List Entry) (e : Entry) (name : Option ℕ) → IsInRange k →
    Next k b h e → name ≡ named (based b) h e → IfSome name (λ j. j < k.seats)
named_below k b h e name range n is =
    names_below k.seats e (ready (based b) h) (ready (based b) (e ∷ h)) name
    (by (first_of (line (based b) (e ∷ h))) refl) is
  where
    past : IsHistory (based b) (e ∷ h)
    past =
        record {
          base = b;
          good = n.can.good;
          start = refl;
          range = subst IsInRange (sym n.same) range;
          legal = n.can.legal;
          seated = n.can.seated;
        }

    by : (o : Option Arrival) → first_of (line (based b) (e ∷ h)) ≡ o →
        IfSome (ready_by (counts (based b) (e ∷ h)) o) (λ j. j < k.seats)
    by None first = tt
    by (Some a) first =
        let below = first_below (based b) (e ∷ h) a past (sym first) in
        let seats = ap (λ (x : Header). x.seats) n.same in
        cond_both (could (counts (based b) (e ∷ h)) a.seat a.mode a.n) (Some a.seat) None
        (λ x. IfSome x (λ j. j < k.seats)) (λ t. omega (arith, below, seats)) (λ t. tt)
