use Rattle.std.proofs.Common.{◌≡◌, List, ℕ, reverse, ap, sym, subst, refl, arith}
use Rattle.std.specs.List.{AllByRecursion}
use Rattle.std.proofs.lemmas.List.{length-reverse}
use Rattle.std.proofs.lemmas.List.Elements.{recursion_from_All}
use Rattle.history_text.specs.Below.{Header, base_on, IsBaseOf, IsInRange, IsText}
use Rattle.history_text.specs.Prelude.{HasLine, head_of, history_form, IsHistoryOf, lines_on}
use Rattle.history_text.proofs.HeadWritten.{base_calls, sums_few}
use Rattle.history_text.proofs.HistoryItems.{items_of}
use Rattle.history_text.proofs.Pieces.{pieces}
use Rattle.history_text.proofs.law.written_is_read.Goals as goal

pub returns : goal.returns
returns c h kept range few fits =
    let b = base_on h kept in
    let es = reverse kept.entries in
    let header : (base_on h kept).header ≡ h = fits.base.is.0 in
    let cap : (base_on h kept).header.cap ≡ h.cap = ap (λ (k : Header). k.cap) header in
    let same = fits.cap in
    let is : IsBaseOf (base_on h kept).header (base_on h kept) =
    subst (λ (k : Header). IsBaseOf k (base_on h kept)) (sym header) fits.base.is in
    let of : IsHistoryOf (head_of b) b es =
    record {
      base = is;
      head = refl;
      few = omega (arith, few, cap, same, length-reverse kept.entries);
      each = subst (λ (k : Header). AllByRecursion (HasLine k) es) (sym header)
          (recursion_from_All (HasLine h) es fits.each);
    } in
    let early = sums_few h b fits.base.is in
    record {
      base = is;
      is = subst (λ (t : List ℕ). IsText history_form t (head_of b) (lines_on b es))
          (pieces b kept.entries (base_calls h b fits.base.is) (λ z. omega (arith, early, z)))
          (record {
            begins = record {
              header = subst IsInRange (sym header) range;
              each = items_of (head_of b) b es of;
              parts = refl;
            };
            ends = (b, es, of, refl);
          });
    }
