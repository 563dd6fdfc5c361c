use Rattle.std.specs.List.{AllByRecursion}
use Rattle.std.proofs.lemmas.List.Elements.{All-from_recursion}
use Rattle.std.proofs.Common.{◌≡◌, reverse, sym, subst}
use Rattle.history_text.specs.Below.{Header, base_on, IsBaseOf, IsInRange}
use Rattle.history_text.specs.EntryLines.{HasLine}
use Rattle.history_text.proofs.Amounts.{all_have_lines}
use Rattle.history_text.proofs.Lists.{each-reverse}
use Rattle.history_text.proofs.law.legal_histories_fit.Goals as goal

pub returns : goal.returns
returns c h kept range cap is legal seated =
    let header : (base_on h kept).header ≡ h = is.0 in
    record {
      cap = cap;
      base = record { is = is; range = λ some. range };
      each = All-from_recursion (HasLine h) (reverse kept.entries)
          (each-reverse (HasLine h) kept.entries
          (subst (λ (k : Header). AllByRecursion (HasLine k) kept.entries) header
          (all_have_lines (base_on h kept) kept.entries (subst IsInRange (sym header) range)
          (subst (λ (k : Header). IsBaseOf k (base_on h kept)) (sym header) is) legal seated)));
    }
