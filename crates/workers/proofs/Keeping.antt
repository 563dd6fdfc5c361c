-- What is kept of answers that no history records.
use Rattle.std.proofs.Common.{◌≡◌, ℕ, ◌+◌, ◌<◌, List, [], ◌++◌, Option, None, Some, append-nil, append_assoc, get_or, length, reverse, sym, subst, take, IfSome}
use Rattle.workers.specs.Below.{Fault, Shown, Call}
use Rattle.workers.specs.declared.kept.Kept.{Kept}
use Rattle.workers.specs.Prelude.{Unrecorded, IsCalled, Made, unrecorded_by}
use Rattle.workers.specs.inner.Keeping.{Adds, IsKept}
use Rattle.workers.proofs.Passing.{made_next}

-- nothing more is kept
pub adds_none : (kept : Kept) → Adds kept [] kept
adds_none kept before is = subst (IsKept kept) (sym (append-nil before)) is

-- answers, and then more of them
pub adds_more : (old : Kept) (x : List Unrecorded) (between : Kept) (y : List Unrecorded) (new : Kept) →
    Adds old x between → Adds between y new → Adds old (x ++ y) new
adds_more old x between y new first then before is =
    subst (IsKept new) (append_assoc before x y) (then (before ++ x) (first before is))

-- a list that is returned is the one that was kept
pub listed_is : {A : Type 0} (P : A → Type 0) (list listed : Option A) → IfSome list P →
    IfSome listed (λ l. list ≡ Some l) → IfSome listed P
listed_is P list None is from = tt
listed_is P list (Some l) is from = subst (λ z. IfSome z P) from is

-- the call at a place, and what is kept of its answer
pub kept_next : (thread first : ℕ) (calls : List Call) (k number : ℕ) (d : Call) (old : List Shown)
    (x : List Unrecorded) (between : List Shown) (fault : Option Fault) (new : List Shown)
    (kept so_far more : Kept) → k < length calls → number ≡ first + k →
    Made thread first (reverse (take k calls)) old x between → IsCalled (get_or calls k d) between fault new →
    Adds kept x so_far → Adds so_far (unrecorded_by thread number (get_or calls k d) fault) more →
    (answers : List Unrecorded) × Adds kept answers more
    × Made thread first (reverse (take (k + 1) calls)) old answers new
kept_next thread first calls k number d old x between fault new kept so_far more below is made called first_added
    then =
    let its = unrecorded_by thread number (get_or calls k d) fault in (
      x ++ its,
      adds_more kept x so_far its more first_added then,
      made_next thread first calls k number d old x between fault new below is made called,
    )
