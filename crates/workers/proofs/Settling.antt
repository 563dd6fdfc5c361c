-- What the workers left, put together one by one.
use Rattle.std.proofs.Common.{◌≡◌, ℕ, ◌+◌, ◌*◌, ◌≤◌, List, [], ◌∷◌, ◌++◌, length, IfOk, Ok, Err, Result, refl, ap, sym, subst, arith, ◌∙◌, inl, inr, append-nil, append_assoc}
use Rattle.std.specs.List.{All}
use Rattle.std.proofs.lemmas.List.Elements.{All-head, All-rest, All-same}
use Rattle.workers.specs.Below.{Shown, MOST_THREADS}
use Rattle.workers.specs.Prelude.{RunFault, Unrecorded, dealt_all, dealt}
use Rattle.workers.specs.declared.kept.Kept.{Kept}
use Rattle.workers.specs.declared.work.Worked.{Worked}
use Rattle.workers.specs.inner.Keeping.{HaveKept, IsKept, Joins}
use Rattle.workers.specs.inner.Results.{HasStopped, HaveEnded, most_calls, passes_left}
use Rattle.workers.proofs.Dealing.{dealt_length}

-- the passes of a worker fit k columns
abbrev pub Fits : ℕ → Worked → Type 0
Fits k done = length done.passes ≤ k

abbrev pub IsFew : Worked → Type 0
IsFew done = IfOk done.ended (λ kept. kept.count ≤ most_calls)

-- answers of all workers are those that were put together, and those of the workers that are left
abbrev pub IsPutTogether : List Worked → List Worked → Kept → Type 0
IsPutTogether all rest kept =
    (answers : List Unrecorded) → HaveKept all answers →
    (x : List Unrecorded) × (y : List Unrecorded)
    × IsKept kept x × HaveKept rest y × (answers ≡ x ++ y)

-- what is still to be said of those that are left
abbrev pub Settles : List Worked → List (List Shown) → List Worked → List (List Shown) → Kept → Type 0
Settles all first rest columns kept =
    ((f : RunFault) → HasStopped f rest → HasStopped f all)
    × (HaveEnded rest → HaveEnded all)
    × IsPutTogether all rest kept
    × (dealt_all (passes_left rest) columns ≡ dealt_all (passes_left all) first)
    × All (Fits (length columns)) rest × All IsFew rest
    × (kept.count + most_calls * length rest ≤ most_calls * MOST_THREADS)

-- the answers of one worker more
together_more : (all : List Worked) (rest : List Worked) (old : Kept) (done : Worked) (others : List Worked)
    (its : Kept) (new : Kept) → rest ≡ done ∷ others → done.ended ≡ Ok its → Joins old its new →
    IsPutTogether all rest old → IsPutTogether all others new
together_more all rest old done others its new cut ended joins so_far answers kept_all =
    let was = so_far answers kept_all in
    let first = subst (λ (z : List Worked). HaveKept z was.1) cut was.3 in
    let own : IsKept its first.0 =
    subst (λ (z : Result Kept RunFault). IfOk z (λ n. IsKept n first.0)) ended first.2 in (
      was.0 ++ first.0,
      first.1,
      joins was.0 first.0 was.2 own,
      first.3,
      was.4 ∙ ap (λ (z : List Unrecorded). was.0 ++ z) first.4 ∙ sym (append_assoc was.0 first.0 first.1),
    )

pub settles_more : (all : List Worked) (first : List (List Shown)) (rest : List Worked)
    (columns : List (List Shown)) (old : Kept) (done : Worked) (others : List Worked) (its : Kept) (new : Kept)
    (grown : List (List Shown)) → rest ≡ done ∷ others → done.ended ≡ Ok its →
    grown ≡ dealt done.passes columns →
    Joins old its new →
    new.count ≡ old.count + its.count →
    Settles all first rest columns old → Settles all first others grown new
settles_more all first rest columns old done others its new grown cut ended is joins sum s =
    let as_long : length grown ≡ length columns = ap length is ∙ dealt_length done.passes columns in
    let few : IfOk done.ended (λ n. n.count ≤ most_calls) =
    All-head IsFew done others (All-same IsFew (done ∷ others) rest (sym cut) s.5) in
    let small : its.count ≤ most_calls =
    subst (λ (z : Result Kept RunFault). IfOk z (λ n. n.count ≤ most_calls)) ended few in
    let many : length rest ≡ length (done ∷ others) = ap length cut in
    let bound = s.6 in (
      (λ f stopped. s.0 f (subst (λ (z : List Worked). HasStopped f z) (sym cut) (inr (its, ended, stopped)))),
      (λ left. s.1 (subst (λ (z : List Worked). HaveEnded z) (sym cut) ((its, ended), left))),
      together_more all rest old done others its new cut ended joins s.2,
      ap (dealt_all (passes_left others)) is
          ∙ subst (λ (z : List Worked). dealt_all (passes_left z) columns ≡
          dealt_all (passes_left all) first) cut s.3,
      subst (λ (k : ℕ). All (Fits k) others) (sym as_long)
          (All-rest (Fits (length columns)) done others rest cut s.4),
      All-rest IsFew done others rest cut s.5,
      omega (arith, small, many, bound, sum),
    )

-- one worker more has room in the count
pub room_for : (all : List Worked) (first : List (List Shown)) (rest : List Worked) (columns : List (List Shown))
    (old : Kept) (done : Worked) (others : List Worked) (its : Kept) → rest ≡ done ∷ others →
    done.ended ≡ Ok its → Settles all first rest columns old →
    old.count + its.count ≤ most_calls * MOST_THREADS
room_for all first rest columns old done others its cut ended s =
    let few : IfOk done.ended (λ n. n.count ≤ most_calls) =
    All-head IsFew done others (All-same IsFew (done ∷ others) rest (sym cut) s.5) in
    let small : its.count ≤ most_calls =
    subst (λ (z : Result Kept RunFault). IfOk z (λ n. n.count ≤ most_calls)) ended few in
    let many : length rest ≡ length (done ∷ others) = ap length cut in
    let bound = s.6 in
    omega (arith, small, many, bound)

pub settles_first : (all : List Worked) (first : List (List Shown)) (rest : List Worked) (kept : Kept) → rest ≡ all →
    IsKept kept [] → All (Fits (length first)) all → All IsFew all → length all ≤ MOST_THREADS →
    Settles all first rest first kept
settles_first all first rest kept is none fits few number =
    let no_count = none.0 in
    subst (λ (z : List Worked). Settles all first z first kept) (sym is) (
      (λ f stopped. stopped),
      (λ ended. ended),
      (λ answers kept_all. ([], answers, none, kept_all, refl)),
      refl,
      fits,
      few,
      omega (arith, no_count, number),
    )

pub all_ended : (all : List Worked) (first : List (List Shown)) (rest : List Worked)
    (columns : List (List Shown)) (kept : Kept) → rest ≡ [] → Settles all first rest columns kept →
    HaveEnded all
all_ended all first rest columns kept none s =
    s.1 (subst (λ (z : List Worked). HaveEnded z) (sym none) tt)

pub all_kept : (all : List Worked) (first : List (List Shown)) (rest : List Worked)
    (columns : List (List Shown)) (kept : Kept) → rest ≡ [] → Settles all first rest columns kept →
    (answers : List Unrecorded) → HaveKept all answers → IsKept kept answers
all_kept all first rest columns kept none s answers kept_all =
    let whole = s.2 answers kept_all in
    let nothing : whole.1 ≡ [] = subst (λ (z : List Worked). HaveKept z whole.1) none whole.3 in
    let same : answers ≡ whole.0 =
    whole.4 ∙ ap (λ (z : List Unrecorded). whole.0 ++ z) nothing ∙ append-nil whole.0 in
    subst (IsKept kept) (sym same) whole.2

-- the columns after the last
pub first_fits : (all : List Worked) (first : List (List Shown)) (rest : List Worked)
    (columns : List (List Shown)) (kept : Kept) (done : Worked) (others : List Worked) → rest ≡ done ∷ others →
    Settles all first rest columns kept → length done.passes ≤ length columns
first_fits all first rest columns kept done others cut s =
    All-head (Fits (length columns)) done others
    (All-same (Fits (length columns)) (done ∷ others) rest (sym cut) s.4)

pub first_stops : (all : List Worked) (first : List (List Shown)) (rest : List Worked)
    (columns : List (List Shown)) (kept : Kept) (done : Worked) (others : List Worked) (f : RunFault) →
    rest ≡ done ∷ others → done.ended ≡ Err f → Settles all first rest columns kept → HasStopped f all
first_stops all first rest columns kept done others f cut ended s =
    s.0 f (subst (λ (z : List Worked). HasStopped f z) (sym cut) (inl ended))
