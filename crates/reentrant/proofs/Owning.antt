-- What a lock's hooks say of the counts that they stand for.
use Rattle.std.proofs.Common.{◌≡◌, ◌≢◌, ⊎_elim, ℕ, ◌+◌, ◌-◌, ◌<◌, ◌≤◌, Bool, true, false, not, ◌&&◌, cond, ltb, Option, Some, None, Ok, Err, refl, ◌∙◌, sym, subst, arith, ltb-true, eqb-true, lt-ltb}
use Rattle.std.proofs.lemmas.Bool.{cases_eq, and_parts, and_from}
use Rattle.history.specs.declared.entry.Mode.{Mode}
use Rattle.history.specs.declared.entry.Mode.TheVariants.{X, S}
use Rattle.history.specs.declared.fault.Fault.TheVariants as fault
use Rattle.history.specs.declared.header.Policy.{Policy}
use Rattle.history.specs.Changes.{took, gave_back, given, restored}
use Rattle.history.specs.Could.{could, is_seat, is_none_or}
use Rattle.history.specs.declared.limits.TheConstants.{MOST_HOLDS}
use Rattle.history.specs.Counts.{Counts, owner}
use Rattle.history.specs.Object.{in_holds}
use Rattle.frame.specs.Hooks.{let_go_answer, IsRestorable}
use Rattle.frame.specs.Owners.{holds_of, is_owned, Owns}
use Rattle.history.proofs.Entering.{seat_is}
use Rattle.frame.proofs.Owners.{owner_is, all_its_own, others_not, no_owner, shared_kept, owns_took, owns_gave, owns_restored, some_owned, owned_most}
use Rattle.reentrant.specs.Lock.{MatchesBy}

-- what can be taken, by the fields
abbrev pub could_by : Option ℕ → ℕ → ℕ → Mode → Bool
could_by o n i X = is_none_or o i && ltb (holds_of o n i) MOST_HOLDS
could_by o n i S = false

pub could_is : (p : Policy) (o : Option ℕ) (n : ℕ) (k : Counts) → is_owned MOST_HOLDS o n ≡ true →
    MatchesBy p o n k → (i : ℕ) (m : Mode) (a : ℕ) → could k i m a ≡ could_by o n i m
could_is p o n k t h i X a =
    let w : owner k ≡ o = owner_is MOST_HOLDS o n k t h.owns in
    let d : k.held i X ≡ holds_of o n i = h.owns.held i in
    rw h.object (rw w (rw d refl))
could_is p o n k t h i S a = rw h.object refl

pub let_go_is : (p : Policy) (o : Option ℕ) (n : ℕ) (k : Counts) → is_owned MOST_HOLDS o n ≡ true →
    MatchesBy p o n k → (i : ℕ) →
    let_go_answer k i ≡ cond (not (is_seat o i)) (Err fault.NotOwner) (Ok (holds_of o n i))
let_go_is p o n k t h i =
    let w : owner k ≡ o = owner_is MOST_HOLDS o n k t h.owns in
    let d : k.held i X ≡ holds_of o n i = h.owns.held i in
    rw h.object (rw w (rw (h.none_shared i) (rw d refl)))

-- What a seat that could take may be, and how many holds it has.
pub record MayTake (o : Option ℕ) (n i : ℕ) (m : Mode) : Type 0 where
  pub exclusive : m ≡ X
  pub admitted : is_none_or o i ≡ true
  pub below : n < MOST_HOLDS

by_fields : (o : Option ℕ) (n i : ℕ) (m : Mode) → is_owned MOST_HOLDS o n ≡ true → could_by o n i m ≡ true →
    MayTake o n i m
by_fields o n i X t c =
    let parts = and_parts (is_none_or o i) (ltb (holds_of o n i) MOST_HOLDS) c in
    let own : holds_of o n i ≡ n = all_its_own MOST_HOLDS o n i t parts.0 in
    let below : holds_of o n i < MOST_HOLDS = ltb-true _ _ parts.1 in
    record { exclusive = refl; admitted = parts.0; below = rw own at below }
by_fields o n i S t c = cc

pub may_take : (p : Policy) (o : Option ℕ) (n : ℕ) (k : Counts) → is_owned MOST_HOLDS o n ≡ true →
    MatchesBy p o n k → (i : ℕ) (m : Mode) (a : ℕ) → could k i m a ≡ true → MayTake o n i m
may_take p o n k t h i m a c = by_fields o n i m t (sym (could_is p o n k t h i m a) ∙ c)

pub owned_more : (o : Option ℕ) (n i : ℕ) (m : Mode) → MayTake o n i m →
    is_owned MOST_HOLDS (Some i) (n + 1) ≡ true
owned_more o n i m may = some_owned MOST_HOLDS i (n + 1) (omega arith) (omega (arith, may.below))

pub stands_took : (p : Policy) (o : Option ℕ) (n : ℕ) (k : Counts) → is_owned MOST_HOLDS o n ≡ true →
    MatchesBy p o n k → (i : ℕ) (m : Mode) (a : ℕ) → MayTake o n i m → i < k.seats →
    MatchesBy p (Some i) (n + 1) (took k i m a)
stands_took p o n k t h i X a may seat =
    record {
      object = h.object;
      owns = owns_took MOST_HOLDS o n k i a t h.owns (rw h.object refl) seat may.admitted;
      none_shared = λ j. shared_kept i (λ had. had + in_holds k.object a) k.held j ∙ h.none_shared j;
    }
stands_took p o n k t h i S a may seat = let e : S ≡ X = may.exclusive in cc

-- nobody but the owner could
pub alone : (p : Policy) (i n : ℕ) (k : Counts) → is_owned MOST_HOLDS (Some i) n ≡ true →
    MatchesBy p (Some i) n k → (j : ℕ) (m : Mode) (a : ℕ) → j ≢ i → could k j m a ≡ false
alone p i n k t h j m a ne = could_is p (Some i) n k t h j m a ∙ by m
  where
    by : (m : Mode) → could_by (Some i) n j m ≡ false
    by X = rw (others_not i j ne) refl
    by S = refl

-- so nobody else could after a give that leaves the giver a hold
pub kept : (p : Policy) (o : Option ℕ) (n : ℕ) (k : Counts) → is_owned MOST_HOLDS o n ≡ true →
    MatchesBy p o n k → (i : ℕ) → is_seat o i ≡ true → 0 < n - 1 → (a j : ℕ) (m : Mode) (b : ℕ) → j ≢ i →
    could (given k i X a) j m b ≡ false
kept p o n k t h i u some a j m b ne =
    let e : o ≡ Some i = seat_is o i u in
    let t' : is_owned MOST_HOLDS (Some i) n ≡ true = rw e at t in
    let owns : Owns (Some i) n k = rw e at h.owns in
    let g : given k i X a ≡ gave_back k i X a = rw h.object refl in
    let then : MatchesBy p (Some i) (n - 1) (gave_back k i X a) =
    record {
      object = h.object;
      owns = owns_gave n k i a owns (rw h.object refl);
      none_shared = λ z. shared_kept i (λ had. had - in_holds k.object a) k.held z ∙ h.none_shared z;
    } in
    let less : n - 1 ≤ MOST_HOLDS = omega (arith, owned_most MOST_HOLDS (Some i) n t') in
    rw g (alone p i (n - 1) (gave_back k i X a) (some_owned MOST_HOLDS i (n - 1) some less) then j m b ne)

-- and who takes could before
pub nobody_new : (p : Policy) (o : Option ℕ) (n : ℕ) (k : Counts) → is_owned MOST_HOLDS o n ≡ true →
    MatchesBy p o n k → (i : ℕ) (m : Mode) (a : ℕ) → MayTake o n i m → i < k.seats →
    (j : ℕ) (m' : Mode) (b : ℕ) → could k j m' b ≡ false → could (took k i m a) j m' b ≡ false
nobody_new p o n k t h i m a may seat j m' b f = ⊎_elim same other (cases_eq j i)
  where
    now : MatchesBy p (Some i) (n + 1) (took k i m a)
    now = stands_took p o n k t h i m a may seat

    then : is_owned MOST_HOLDS (Some i) (n + 1) ≡ true
    then = owned_more o n i m may

    other : (j ≡ i → ⊥) → could (took k i m a) j m' b ≡ false
    other ne = alone p i (n + 1) (took k i m a) then now j m' b ne

    by : (m' : Mode) → j ≡ i → could_by o n j m' ≡ false → could_by (Some i) (n + 1) j m' ≡ false
    by X e g =
        let P : ℕ → Type 0 = λ z. could_by o n z X ≡ false in
        let g' : could_by o n i X ≡ false = subst P e g in
        let own : holds_of o n i ≡ n = all_its_own MOST_HOLDS o n i t may.admitted in
        let below : ltb (holds_of o n i) MOST_HOLDS ≡ true = rw own (lt-ltb _ _ may.below) in
        let could_take : could_by o n i X ≡ true = and_from _ _ may.admitted below in
        cc
    by S e g = refl

    same : j ≡ i → could (took k i m a) j m' b ≡ false
    same e = could_is p (Some i) (n + 1) (took k i m a) then now j m' b
        ∙ by m' e (sym (could_is p o n k t h j m' b) ∙ f)

-- Where a seat may have its holds back, nobody owns.
pub stands_restored : (p : Policy) (o : Option ℕ) (n : ℕ) (k : Counts) → is_owned MOST_HOLDS o n ≡ true →
    MatchesBy p o n k → (i holds : ℕ) → IsRestorable k i holds → MatchesBy p (Some i) holds (restored k i holds)
stands_restored p o n k t h i holds r =
    let may : MayTake o n i X = may_take p o n k t h i X 1 r.could in
    let none : o ≡ None = no_owner MOST_HOLDS o n i t may.admitted (sym (h.owns.held i) ∙ r.none_held) in
    let t' : is_owned MOST_HOLDS None n ≡ true = rw none at t in
    let zero : n ≡ 0 = eqb-true n 0 t' in
    let owns : Owns None 0 k = rw (sym zero) (rw (sym none) h.owns) in
    record {
      object = h.object;
      owns = owns_restored k i holds owns r.seat;
      none_shared = λ j. shared_kept i (λ had. had + holds) k.held j ∙ h.none_shared j;
    }

pub restored_alone : (p : Policy) (o : Option ℕ) (n : ℕ) (k : Counts) → is_owned MOST_HOLDS o n ≡ true →
    MatchesBy p o n k → (i holds : ℕ) → IsRestorable k i holds → (j : ℕ) (m : Mode) (a : ℕ) → j ≢ i →
    could (restored k i holds) j m a ≡ false
restored_alone p o n k t h i holds r j m a ne =
    let most : holds ≤ MOST_HOLDS = rw h.object at r.most in
    alone p i holds (restored k i holds) (some_owned MOST_HOLDS i holds r.some most)
    (stands_restored p o n k t h i holds r) j m a ne
