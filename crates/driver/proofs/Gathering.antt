-- Bytes are gathered, and written in pieces.
use Rattle.std.proofs.Common.{◌≡◌, ◌⊎◌, inl, inr, ℕ, ◌+◌, ◌<◌, ◌≤◌, List, [], ◌++◌, length, take, take_all, Option, Result, sym, ap, ◌∙◌, arith, append_assoc, append-nil, subst}
use Rattle.std.proofs.Math.Seq.{take-append-add, take-append_seam}
use Rattle.std.proofs.lemmas.Bool.{cases_lt}
use Rattle.std.proofs.lemmas.List.{take-append-le}
use Rattle.std.proofs.KnownBytes.{Appends-trans}
use Rattle.std.specs.Io.KnownBytes.{Appends}
use Rattle.std.specs.Result.{IsErr, OnErr}
use Rattle.driver.specs.Below.{DeviceFailed, AppendsFront}
use Rattle.driver.specs.LineWriter.{Gathers, IsGathered}

-- a front of some bytes is a front of those and more
front_by : (a b : Option (List ℕ)) (bytes more : List ℕ) (n : ℕ) → (n < length bytes) ⊎ (length bytes ≤ n) →
    Appends a b (take n bytes) → AppendsFront a b (bytes ++ more)
front_by a b bytes more n (inl few) p =
    (n, subst (Appends a b) (sym (take-append-le n bytes more (omega (arith, few)))) p)
front_by a b bytes more n (inr all) p =
    (length bytes, subst (Appends a b) (take_all n bytes all ∙ sym (take-append_seam bytes more)) p)

pub front_longer : (a b : Option (List ℕ)) (bytes more : List ℕ) → AppendsFront a b bytes →
    AppendsFront a b (bytes ++ more)
front_longer a b bytes more p = front_by a b bytes more p.0 (cases_lt p.0 (length bytes)) p.1

pub gathered_more : (a b c : Option (List ℕ)) (old mid new x y : List ℕ) → IsGathered a old b mid x →
    IsGathered b mid c new y → IsGathered a old c new (x ++ y)
gathered_more a b c old mid new x y p q =
    record {
      written = p.written ++ q.written;
      appends = Appends-trans a b c p.written q.written p.appends q.appends;
      parts = grind (arith, p.parts, q.parts, append_assoc {A = ℕ});
    }

-- bytes are added after those that stayed gathered
pub gathered_added : (a b : Option (List ℕ)) (old mid new x : List ℕ) → IsGathered a old b mid [] →
    new ≡ mid ++ x → IsGathered a old b new x
gathered_added a b old mid new x p same =
    record {
      written = p.written;
      appends = p.appends;
      parts = grind (arith, p.parts, same, append-nil old, append_assoc p.written mid x);
    }

-- what was gathered is written too
pub front_more : (a b c : Option (List ℕ)) (old mid x y : List ℕ) → IsGathered a old b mid x →
    AppendsFront b c (mid ++ y) → AppendsFront a c (old ++ (x ++ y))
front_more a b c old mid x y p q =
    let n = q.0 in
    let all : old ++ (x ++ y) ≡ p.written ++ (mid ++ y) = sym (append_assoc old x y)
    ∙ ap (λ (t : List ℕ). t ++ y) p.parts ∙ append_assoc p.written mid y in (
      length p.written + n,
      subst (Appends a c) (sym (ap (take (length p.written + n)) all
          ∙ take-append-add p.written (mid ++ y) n))
          (Appends-trans a b c p.written (take n (mid ++ y)) p.appends q.1),
    )

-- all that was gathered is written
pub written_all : (a b c : Option (List ℕ)) (old mid x : List ℕ) → IsGathered a old b mid x →
    Appends b c mid → Appends a c (old ++ x)
written_all a b c old mid x p q =
    subst (Appends a c) (sym p.parts) (Appends-trans a b c p.written mid p.appends q)

-- or a front of it
pub written_front : (a b c : Option (List ℕ)) (old mid x : List ℕ) → IsGathered a old b mid x →
    AppendsFront b c mid → AppendsFront a c (old ++ x)
written_front a b c old mid x p q =
    subst (AppendsFront a c) (ap (λ (t : List ℕ). old ++ t) (append-nil x))
    (front_more a b c old mid x [] p (subst (AppendsFront b c) (sym (append-nil mid)) q))

pub gathers_failed : (held after : Option (List ℕ)) (old new added : List ℕ)
    (r : Result (Unit {0}) DeviceFailed) → IsErr r → AppendsFront held after (old ++ added) →
    Gathers held old r after new added
gathers_failed held after old new added r is front = grind arith

-- nothing is added where no room is made
pub no_room : (held after : Option (List ℕ)) (old new added : List ℕ)
    (r : Result (Unit {0}) DeviceFailed) → IsErr r → AppendsFront held after (old ++ []) →
    Gathers held old r after new added
no_room held after old new added r is front =
    gathers_failed held after old new added r is
    (front_longer held after old added (subst (AppendsFront held after) (append-nil old) front))

-- what holds where writing fails
pub if_failed : (r : Result (Unit {0}) DeviceFailed) (P : Type 0) → P → OnErr r P
if_failed r P p = grind arith

-- where writing fails, a front of all that was to come was written
pub front_of_all : (a b c : Option (List ℕ)) (old mid x y rest all : List ℕ) → IsGathered a old b mid x →
    AppendsFront b c (mid ++ y) → all ≡ (x ++ y) ++ rest → AppendsFront a c (old ++ all)
front_of_all a b c old mid x y rest all p q is =
    subst (AppendsFront a c) (append_assoc old (x ++ y) rest
    ∙ ap (λ (t : List ℕ). old ++ t) (sym is))
    (front_longer a c (old ++ (x ++ y)) rest (front_more a b c old mid x y p q))
