-- What is told of a history that was judged.
use Rattle.std.proofs.Common.{◌≡◌, ℕ, List, Option, None, Some, IfSome, subst, sym, refl}
use Rattle.driver.specs.Below.{Entry, Verdict, verdict_of}
use Rattle.driver.specs.declared.judged.Judged.{Judged}
use Rattle.driver.specs.declared.telling.Telling.{Telling}
use Rattle.driver.specs.Prelude.{IsToldOf, Tells}
use Rattle.driver.specs.inner.Judged.{IsJudged, IsJudgedOf}
use Rattle.driver.proofs.Judging.{verdict_is}

-- this is told for its verdict
pub is_told : (telling : Telling) (left : Option (List ℕ)) (j : Judged) (verdict : Verdict) (text : List ℕ) →
    IsJudgedOf telling left j → verdict ≡ verdict_of j.judgement →
    ((h : List Entry) → IsJudged telling h j → Tells telling j.base h (verdict_of j.judgement) text) →
    IfSome left (λ t. IsToldOf telling t verdict (λ told. text ≡ told))
is_told telling None j verdict text is same tells = tt
is_told telling (Some t) j verdict text is same tells =
    subst (λ (v : Verdict). IsToldOf telling t v (λ told. text ≡ told)) (sym same)
    (record {
      base = j.base;
      entries = is.history;
      told = text;
      is = is.is;
      judged = verdict_is j.base is.history j.judgement is.judged.judged;
      tells = tells is.history is.judged;
      written = refl;
    })

-- what is written, said in another way
pub rewritten : (telling : Telling) (left : Option (List ℕ)) (verdict : Verdict)
    (all : List ℕ) (Written : List ℕ → Type 0) →
    IfSome left (λ text. IsToldOf telling text verdict (λ told. all ≡ told)) → Written all →
    IfSome left (λ text. IsToldOf telling text verdict Written)
rewritten telling None verdict all Written a w = tt
rewritten telling (Some text) verdict all Written a w =
    record {
      base = a.base;
      entries = a.entries;
      told = a.told;
      is = a.is;
      judged = a.judged;
      tells = a.tells;
      written = subst Written a.written w;
    }

pub some_verdict : (telling : Telling) (left : Option (List ℕ)) (verdict : Verdict) (Written : List ℕ → Type 0) →
    IfSome left (λ text. IsToldOf telling text verdict Written) →
    IfSome left (λ text. (v : Verdict) × IsToldOf telling text v Written)
some_verdict telling None verdict Written a = tt
some_verdict telling (Some text) verdict Written a = (verdict, a)
