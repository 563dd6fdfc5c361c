-- The lines of entries, one after another, and the text of a history.
use Rattle.std.proofs.Common.{◌≡◌, inl, inr, ℕ, ◌+◌, ◌≤◌, List, ◌∷◌, ◌++◌, length, drop, Option, None, Some, refl, ap, sym, ◌∙◌, arith, append_assoc, append-nil}
use Rattle.std.specs.List.{slice_get}
use Rattle.std.proofs.lemmas.List.{drop_all, drop_more}
use Rattle.std.proofs.lemmas.Option.{get_or_from_slice_get, slice_get_within}
use Rattle.driver.specs.Below.{Header, Base, Entry, IsBasedWell, or_opening, IsBaseOf, ended, entry_line, entry_lines, history_text}
use Rattle.history_text.proofs.HistoryItems.{told_none}
use Rattle.driver.specs.Prelude.{History, AllAnswers, lines_text}

-- These lines of entries were told, up to this place, and the others are left.
abbrev pub AreTold : List Entry → ℕ → ℕ → List ℕ → Type 0
AreTold es first place so_far = entry_lines first es ≡ so_far ++ entry_lines (first + place) (drop place es)

-- one more entry
pub told_more : (es : List Entry) (first place : ℕ) (e : Entry) (so_far : List ℕ) → slice_get es place ≡ Some e →
    AreTold es first place so_far → AreTold es first (place + 1) (so_far ++ ended (entry_line (first + place) e))
told_more es first place e so_far at told =
    let rest = drop (place + 1) es in
    let next : drop place es ≡ e ∷ rest = drop_more es place e (slice_get_within es place e at)
    ∙ ap (λ (x : Entry). x ∷ rest) (get_or_from_slice_get es place e e at) in
    told ∙ ap (λ (t : List Entry). so_far ++ entry_lines (first + place) t) next
    ∙ sym (append_assoc so_far (ended (entry_line (first + place) e)) (entry_lines (first + place + 1) rest))
    ∙ ap (λ (n : ℕ). (so_far ++ ended (entry_line (first + place) e)) ++ entry_lines n rest) (omega arith)

-- all are told
pub told_all : (es : List Entry) (first place : ℕ) (so_far : List ℕ) → length es ≤ place →
    AreTold es first place so_far → so_far ≡ entry_lines first es
told_all es first place so_far l told =
    sym (told ∙ ap (λ (t : List Entry). so_far ++ entry_lines (first + place) t) (drop_all place es l)
    ∙ append-nil so_far)

-- those of all entries are the history text, where nothing was folded
pub lines_alone : (a : AllAnswers) → a.base.header ≡ a.header.header → a.base.entries ≡ 0
    → lines_text History a ≡ history_text a.base a.entries
lines_alone a header none = grind (arith, none, header, told_none a.base none)

pub same_header : (k : Header) (o : Option Base) → IsBasedWell k o → (or_opening k o).header ≡ k
same_header k None well = refl
same_header k (Some b) well = well.0

pub base_of : (k : Header) (o : Option Base) → IsBasedWell k o → 1 ≤ (or_opening k o).entries →
    IsBaseOf k (or_opening k o)
base_of k None well some = (refl, inl refl)
base_of k (Some b) well some = (well.0, inr (some, well.1))
