-- The passes of a worker after its calls.
use Rattle.std.proofs.Common.{◌≡◌, ℕ, zero, suc, ◌+◌, ◌*◌, ◌<◌, List, [], ◌∷◌, ◌++◌, length, map, reverse, take, Option, refl, ap, sym, subst, arith, ◌∙◌, get_or, set, append-nil, append_assoc, length-append, length-take-le}
use Rattle.std.proofs.lemmas.List.{length-map, length-reverse, reverse-append, take_more}
use Rattle.std.proofs.lemmas.Option.{slice_get_read}
use Rattle.std.proofs.Math.Nat.{suc-mul, zero-mul}
use Rattle.workers.specs.Below.{Fault, Shown, IsSound, IsSame, Action, Call, On, LockId}
use Rattle.workers.specs.declared.reply.Reply.{Reply}
use Rattle.workers.specs.Prelude.{Unrecorded, IsActed, IsCalled, Made, fault_of, rounds, unrecorded_by}
use Rattle.workers.specs.inner.Homes.{homes, home_of, lock_of}

-- one pass that is of the same monitor and seat
pub set_homes : (ps : List Shown) (k : ℕ) (was now : Shown) → k < length ps → was ≡ get_or ps k was →
    IsSame was now → homes (set ps k now) ≡ homes ps
set_homes [] k was now below at same = refl
set_homes (p ∷ ps) zero was now below at same =
    let home : home_of now ≡ home_of p = (λ d. (same.lock d, same.seat d)) ∙ ap home_of at in
    ap (λ h. h ∷ homes ps) home
set_homes (p ∷ ps) (suc k) was now below at same =
    ap (λ hs. home_of p ∷ hs) (set_homes ps k was now (omega (arith, below)) at same)

pub acts_on : (call : Call) (place : ℕ) (action : Action) (ps : List Shown) (was now : Shown)
    (reply : Reply) (seats : ℕ) → call ≡ On place action → place < length ps → was ≡ get_or ps place was →
    IsActed seats action was reply now → IsSame was now → IsSound now →
    IsCalled call ps (fault_of reply) (set ps place now)
acts_on call place action ps was now reply seats is below at acted same shows =
    subst (λ (z : Call). IsCalled z ps (fault_of reply) (set ps place now)) (sym is) record {
      before = was;
      there = slice_get_read ps (length ps) place was refl below at;
      reply = reply;
      after = now;
      seats = seats;
      acted = acted;
      same = same;
      shows = shows;
      others = refl;
      unrecorded = refl;
    }

-- the monitors of passes that stayed with their seats
abbrev locks_of : List (LockId × ℕ) → List LockId
locks_of = map (λ h. h.0)

locks_are : (ps : List Shown) → map lock_of ps ≡ locks_of (homes ps)
locks_are [] = refl
locks_are (p ∷ ps) = ap (λ ls. p.lock ∷ ls) (locks_are ps)

-- the place of an object is one of a pass
pub place_below : (ps : List Shown) (locks : List LockId) (k : ℕ) → map lock_of ps ≡ locks →
    k < length locks →
    k < length ps
place_below ps locks k own below =
    let same = sym (length-map ps lock_of) ∙ ap length own in omega (arith, same, below)

pub same_locks : (ps qs : List Shown) → homes ps ≡ homes qs → map lock_of ps ≡ map lock_of qs
same_locks ps qs same = locks_are ps ∙ ap locks_of same ∙ sym (locks_are qs)

-- one call more
pub made_more : (thread first : ℕ) (done : List Call) (call : Call) (old : List Shown) (before : List Unrecorded)
    (between : List Shown) (fault : Option Fault) (new : List Shown) →
    Made thread first (reverse done) old before between → IsCalled call between fault new →
    Made thread first (reverse (done ++ call ∷ [])) old
    (before ++ unrecorded_by thread (first + length done) call fault) new
made_more thread first done call old before between fault new made called =
    let all = before ++ unrecorded_by thread (first + length done) call fault in
    let number : first + length done ≡ first + length (reverse done) =
    ap (λ (n : ℕ). first + n) (sym (length-reverse done)) in
    subst (λ (z : List Call). Made thread first z old all new) (sym (reverse-append done (call ∷ [])))
    (between, before, fault, made, called, ap (λ (n : ℕ). before ++ unrecorded_by thread n call fault) number)

-- calls after calls
pub made_both : (thread first : ℕ) (later earlier : List Call) (old : List Shown) (x : List Unrecorded)
    (between : List Shown) (y : List Unrecorded) (new : List Shown) →
    Made thread first earlier old x between → Made thread (first + length earlier) later between y new →
    Made thread first (later ++ earlier) old (x ++ y) new
made_both thread first [] earlier old x between y new made (same, none) =
    subst (λ (z : List Shown). Made thread first earlier old (x ++ y) z) (sym same)
    (subst (λ (z : List Unrecorded). Made thread first earlier old z between)
    (sym (ap (λ (z : List Unrecorded). x ++ z) none ∙ append-nil x)) made)
made_both thread first (call ∷ later) earlier old x between y new made (there, z, fault, rest, called, sum) =
    let lengths = length-append later earlier in
    let number : first + length earlier + length later ≡ first + length (later ++ earlier) =
    omega (arith, lengths) in (
      there,
      x ++ z,
      fault,
      made_both thread first later earlier old x between z there made rest,
      called,
      ap (λ (l : List Unrecorded). x ++ l) (sum ∙ ap (λ (n : ℕ). z ++ unrecorded_by thread n call fault) number)
          ∙ sym (append_assoc x z (unrecorded_by thread (first + length (later ++ earlier)) call fault)),
    )

rounds_length : (n : ℕ) (calls : List Call) → length (rounds n calls) ≡ n * length calls
rounds_length zero calls = sym (zero-mul (length calls))
rounds_length (suc n) calls =
    let both = length-append (reverse calls) (rounds n calls) in
    let one = length-reverse calls in
    let before = rounds_length n calls in
    let more = suc-mul n (length calls) in
    omega (arith, both, one, before, more)

-- one round more
pub rounds_more : (thread n first : ℕ) (calls made : List Call) (old : List Shown) (x : List Unrecorded)
    (between : List Shown) (y : List Unrecorded) (new : List Shown) → made ≡ calls → first ≡ n * length calls →
    Made thread 0 (rounds n calls) old x between → Made thread first (reverse made) between y new →
    Made thread 0 (rounds (n + 1) calls) old (x ++ y) new
rounds_more thread n first calls made old x between y new is number before round =
    let up : suc n ≡ n + 1 = omega arith in
    let all = rounds_length n calls in
    let at : first ≡ 0 + length (rounds n calls) = omega (arith, number, all) in
    subst (λ (z : ℕ). Made thread 0 (rounds z calls) old (x ++ y) new) up
    (made_both thread 0 (reverse calls) (rounds n calls) old x between y new before
    (subst (λ (z : ℕ). Made thread z (reverse calls) between y new) at
    (subst (λ (z : List Call). Made thread first (reverse z) between y new) is round)))

-- the call at a place
pub made_next : (thread first : ℕ) (calls : List Call) (k number : ℕ) (d : Call) (old : List Shown)
    (x : List Unrecorded) (between : List Shown) (fault : Option Fault) (new : List Shown) → k < length calls →
    number ≡ first + k → Made thread first (reverse (take k calls)) old x between →
    IsCalled (get_or calls k d) between fault new →
    Made thread first (reverse (take (k + 1) calls)) old
    (x ++ unrecorded_by thread number (get_or calls k d) fault) new
made_next thread first calls k number d old x between fault new below is made called =
    let call = get_or calls k d in
    let long = length-take-le k calls (omega (arith, below)) in
    let at : first + length (take k calls) ≡ number = omega (arith, long, is) in
    subst (λ (n : ℕ). Made thread first (reverse (take (k + 1) calls)) old
    (x ++ unrecorded_by thread n call fault) new) at
    (subst (λ (z : List Call). Made thread first (reverse z) old
    (x ++ unrecorded_by thread (first + length (take k calls)) call fault) new) (sym (take_more calls k d below))
    (made_more thread first (take k calls) call old x between fault new made called))
