-- Items move as permits do: what a step with a trade leaves of a pool.
use Rattle.std.proofs.Common.{◌≡◌, ◌⊎◌, inl, inr, ⊎_elim, ℕ, ◌+◌, ◌-◌, ◌<◌, ◌≤◌, ◌^◌, Bool, true, cond, List, [], ◌∷◌, ◌++◌, length, take, drop, sym, ap, ◌∙◌, arith, FitsSigned, ℤ, pos, ◌+ℤ◌, ◌-ℤ◌, ◌≤ℤ◌, length-append, length-drop, length-take-le}
use Rattle.std.specs.Int.{w32}
use Rattle.std.specs.List.{All}
use Rattle.std.proofs.lemmas.List.Elements.{All-append, All-cons, All-drop, All-head, All-nil, All-same, All-take}
use Rattle.std.proofs.lemmas.Bool.{cases_eq}
use Rattle.std.proofs.lemmas.Int.{ints}
use Rattle.std.proofs.lemmas.List.{nil_from_length}
use Rattle.guarded.specs.Below.{balance, Balance, Entry, Object, Semaphore, Policy, Counts, counts, free, is_semaphore, Start, IsFree, IsTurn, given_by}
use Rattle.guarded.specs.Shelved.{Lies}

-- what a trade does to the two lists, by how many permits are free then
pub record Traded {T : Type 0} (free : ℤ) (here there here' there' : List T) : Type 0 where
  pub takes : (n : ℕ) → free ≡ pos n → n < length here → there ≡ [] →
      (here' ≡ take n here) × (there' ≡ drop n here)
  pub gives : free ≡ pos (length here + length there) → 0 < length there →
      (here' ≡ here ++ there) × (there' ≡ [])
  pub stays : free ≡ pos (length here) → (here' ≡ here) × (there' ≡ there)

-- what it leaves
pub record Leaves {T : Type 0} (P : T → Type 0) (here there here' there' : List T) (k l : Counts) : Type 0 where
  pub lies : Lies here' l
  pub moved : pos (length there') +ℤ l.free ≡ pos (length there) +ℤ k.free
  pub same : l.free ≡ k.free → there' ≡ there
  pub here_meet : All P here'
  pub there_meet : All P there'

module _ {T : Type 0} (P : T → Type 0) (here there here' there' : List T) (k l : Counts) (free : ℤ)
    (here_meets : All P here) (there_meets : All P there)
    (traded : Traded free here there here' there') (lies : Lies here k) (semaphore : is_semaphore l.object ≡ true)
    (is : free ≡ l.free) where
  stay : l.free ≡ k.free → Leaves P here there here' there' k l
  stay q =
      let s = traded.stays (is ∙ (q ∙ sym lies.each)) in
      record {
        lies = record {
          semaphore = semaphore;
          each = ap (λ (z : List T). pos (length z)) s.0 ∙ (lies.each ∙ sym q);
        };
        moved = ap (λ (z : List T). pos (length z) +ℤ l.free) s.1 ∙ ap (λ (z : ℤ). pos (length there) +ℤ z) q;
        same = λ _. s.1;
        here_meet = All-same P here' here s.0 here_meets;
        there_meet = All-same P there' there s.1 there_meets;
      }

  take_some : (n m : ℕ) → l.free ≡ k.free -ℤ pos n → 0 < n → free ≡ pos m → m + n ≡ length here →
      there ≡ [] → Leaves P here there here' there' k l
  take_some n m q some f all none =
      let few : m < length here = omega (arith, some, all) in
      let le : m ≤ length here = omega (arith, few) in
      let t = traded.takes m f few none in
      let left : length here' ≡ m = ap length t.0 ∙ length-take-le m here le in
      let taken : length there' ≡ length here - m = ap length t.1 ∙ length-drop m here in
      let nothing : length there ≡ 0 = ap length none in
      let each = lies.each in
      let is_left : pos m ≡ l.free = sym f ∙ is in
      record {
        lies = record { semaphore = semaphore; each = ap pos left ∙ is_left };
        moved = let goal : pos (length there') +ℤ l.free ≡ pos (length there) +ℤ k.free =
            omega (arith, ints, taken, nothing, each, is_left, few) in goal;
        same = λ same. absurd (omega (arith, ints, same, each, is_left, few));
        here_meet = All-same P here' (take m here) t.0 (All-take P m here here_meets);
        there_meet = All-same P there' (drop m here) t.1 (All-drop P m here here_meets);
      }

  give_some : l.free ≡ k.free +ℤ pos (length there) → 0 < length there → Leaves P here there here' there' k l
  give_some q some =
      let each = lies.each in
      let f : free ≡ pos (length here + length there) = omega (arith, ints, is, q, each) in
      let g = traded.gives f some in
      let more : length here' ≡ length here + length there = ap length g.0 ∙ length-append here there in
      let none : length there' ≡ 0 = ap length g.1 in
      record {
        lies = record { semaphore = semaphore; each = ap pos more ∙ (sym f ∙ is) };
        moved = let goal : pos (length there') +ℤ l.free ≡ pos (length there) +ℤ k.free =
            omega (arith, ints, none, q) in goal;
        same = λ same. absurd (omega (arith, ints, same, q, some));
        here_meet = All-same P here' (here ++ there) g.0 (All-append P here there here_meets there_meets);
        there_meet = All-same P there' [] g.1 (All-nil P);
      }

  left_by : (step_gives : ℕ) → length there ≡ step_gives →
      ((l.free ≡ k.free)
      ⊎ ((step_gives ≡ 0) × ((n : ℕ) × (l.free ≡ k.free -ℤ pos n)) × (pos 0 ≤ℤ l.free))
      ⊎ (l.free ≡ k.free +ℤ pos step_gives)) → Leaves P here there here' there' k l
  left_by gives brings (inl q) = stay q
  left_by gives brings (inr (inl (none, taken, low))) =
      ⊎_elim (λ same. let q : l.free ≡ k.free = omega (arith, ints, taken.1, same) in stay q)
      (λ ne.
      let n : ℕ = taken.0 in let q = taken.1 in let each = lies.each in
      let some : 0 < n = omega (arith, ne) in
      let le : n ≤ length here = omega (arith, ints, q, each, low) in
      let f : free ≡ pos (length here - n) = omega (arith, ints, is, q, each, le) in
      let all : (length here - n) + n ≡ length here = omega (arith, le) in
      take_some n (length here - n) q some f all (nil_from_length there (brings ∙ none)))
      (cases_eq taken.0 0)
  left_by gives brings (inr (inr q)) =
      let r : l.free ≡ k.free +ℤ pos (length there) = q ∙ ap (λ (n : ℕ). k.free +ℤ pos n) (sym brings) in
      ⊎_elim (λ empty. let same : l.free ≡ k.free = omega (arith, ints, r, empty) in stay same)
      (λ ne. let some : 0 < length there = omega (arith, ne) in give_some r some)
      (cases_eq (length there) 0)

-- a turn of the lock with a trade
pub shelved : {T : Type 0} (P : T → Type 0) (i : ℕ) (k l : Counts) (turn : IsTurn i k l) (free : ℤ) →
    IsFree free l → (here there here' there' : List T) → Traded free here there here' there' → Lies here k →
    All P here → All P there → length there ≡ given_by turn.step → Leaves P here there here' there' k l
shelved P i k l turn free told here there here' there' traded lies here_meets there_meets brings =
    let semaphore = ap is_semaphore turn.object ∙ lies.semaphore in
    left_by P here there here' there' k l free here_meets there_meets traded lies semaphore (told semaphore)
    (given_by turn.step) brings (turn.free lies.semaphore)

-- what holds of each item holds of the first item of a list; what holds of an item holds of each in a list of it alone
pub of_first : {T : Type 0} (P : T → Type 0) (items : List T) (x : T) (rest : List T) → items ≡ x ∷ rest →
    All P items → P x
of_first P items x rest is all = All-head P x rest (All-same P (x ∷ rest) items (sym is) all)

pub in_one : {T : Type 0} (P : T → Type 0) (items : List T) (x : T) → items ≡ x ∷ [] → P x → All P items
in_one P items x is meets = All-same P items (x ∷ []) is (All-cons P x [] meets (All-nil P))

pub in_none : {T : Type 0} (P : T → Type 0) (items : List T) → items ≡ [] → All P items
in_none P items is = All-same P items [] is (All-nil P)

-- as many items as a semaphore may have permits
pub short : {T : Type 0} (items : List T) → FitsSigned w32 (pos (length items)) → length items < 2 ^ 31
short items fits = omega (arith, ints, fits)

-- where a pool is closed, as many items lie there as permits are free
pub lies_available : {T : Type 0} (items : List T) (s : Start) (h : List Entry) (b : Balance) → b ≡ balance s h →
    Lies items (counts s h) → pos (length items) ≡ b.available
lies_available items s h b is lies =
    lies.each
    ∙ sym (ap (λ (z : Balance). z.available) is ∙ ap (λ (c : Bool). cond c (free s h) (pos 0)) lies.semaphore)

pub permits_as : (o : Object) (p : Policy) (z : ℤ) (n : ℕ) → o ≡ Semaphore p z → z ≡ pos n →
    o ≡ Semaphore p (pos n)
permits_as o p z n q r = q ∙ ap (λ (k : ℤ). Semaphore p k) r
