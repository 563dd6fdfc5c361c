-- What explaining a text leads to.
use Rattle.std.proofs.Common.{◌≡◌, ℕ, List, ◌++◌, Option, Some, None, Result, ap, sym, ◌∙◌, subst, append-nil, inr, IfSome}
use Rattle.std.specs.Io.KnownBytes.{Consumes, IsAtEnd}
use Rattle.std.proofs.lemmas.Option.{IfSome_then}
use Rattle.fault_places.specs.Reports.{IsReport}
use Rattle.fault_places.specs.declared.report.Report.{Report}
use Rattle.driver.specs.declared.notation.Notation.{Notation}
use Rattle.tasks.specs.Explain.{Answers, ExplainsText}
use Rattle.tasks.specs.declared.fault.Fault.{Fault}

-- what was read to the end is all that the source had
all_read : (left rest : Option (List ℕ)) (bytes : List ℕ) → Consumes left rest bytes → IsAtEnd rest →
    IfSome left (λ text. text ≡ bytes)
all_read None rest bytes all end = tt
all_read (Some xs) None bytes all end = absurd all
all_read (Some xs) (Some ys) bytes all end = all ∙ ap (λ (zs : List ℕ). bytes ++ zs) end ∙ append-nil bytes

-- a report on what was read, and what it leads to
pub explained : (at : Option ℕ) (notation : Notation) (left rest : Option (List ℕ)) (bytes seen : List ℕ) (found report : Report)
    (old new : Option (List ℕ)) (result : Result ℕ Fault) →
    Consumes left rest bytes → IsAtEnd rest → seen ≡ bytes → IsReport seen found → found ≡ report →
    Answers at notation bytes report old new result → ExplainsText at notation left old new result
explained at notation left rest bytes seen found report old new result all end same is e answers =
    let reported : IsReport bytes report =
    subst (λ (r : Report). IsReport bytes r) e (subst (λ (t : List ℕ). IsReport t found) same is) in
    inr
    (IfSome_then left (all_read left rest bytes all end)
    (λ text here. (
      report,
      subst (λ (t : List ℕ). IsReport t report) (sym here) reported,
      subst (λ (t : List ℕ). Answers at notation t report old new result) (sym here) answers,
    )))
