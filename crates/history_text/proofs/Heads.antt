-- The first line of a text is written where no entry was folded.
use Rattle.std.proofs.Common.{◌≡◌, ℕ, List, ◌++◌, Option, Some, None, sym, subst, ⊎_elim, arith, append-nil, codes}
use Rattle.history_text.specs.Below.{Header, Base, IsBasedWell, or_opening, IsBaseOf, IsGood, IsInRange, part_of, ended}
use Rattle.history.proofs.OpeningBase.{opening_good}
use Rattle.history_text.specs.Prelude.{IsHeadPut}
use Rattle.history_text.proofs.HeadWritten.{opening_written, sum_few}

-- of a good base with no entries the first line of format 1 is all
good_written : (b : Base) (k : Header) (out new : List ℕ) → b.entries ≡ 0 → b.header ≡ k → IsGood b →
    new ≡ out ++ ended (codes "aqs-history 1 " ++ part_of k) → IsHeadPut b out new 0 0
good_written b k out new none header good is =
    record {
      lines = simp (is, none, header, append-nil);
      folded = sym none;
      few = omega arith;
      calls = omega (arith, sum_few b good, none);
      some = omega arith;
    }

pub first_written : (base : Option Base) (k : Header) (out new : List ℕ) → (or_opening k base).entries ≡ 0 →
    IsBasedWell k base → new ≡ out ++ ended (codes "aqs-history 1 " ++ part_of k) →
    IsHeadPut (or_opening k base) out new 0 0
first_written None k out new none well is = opening_written k out new is
first_written (Some b) k out new none well is = good_written b k out new none well.0 well.1 is

-- the base of an object's history is none, or a good one of its header
pub based_well : (k : Header) (base : Option Base) → IsInRange k → IsBaseOf k (or_opening k base) →
    IsBasedWell k base
based_well k None range of = tt
based_well k (Some b) range of =
    (of.0, ⊎_elim (λ e. subst IsGood (sym e) (opening_good k range)) (λ good. good.1) of.1)
