-- The texts of objects.
use Rattle.std.proofs.Common.{◌≡◌, ℕ, ◌+◌, List, [], ◌∷◌, ◌++◌, length, reverse, ap, sym, ◌∙◌, append_assoc}
use Rattle.std.specs.List.{All, concat}
use Rattle.std.proofs.lemmas.List.Elements.{All-from_recursion}
use Rattle.run_text.specs.Below.{verdict_of, audit_text, based, IsSpelt, IsGood, calls, ended, counts_line, head_line, head_of, lines_told, entry_lines, lines_text, Named, ObjectReport, IsSound}
use Rattle.audit.proofs.Beginnings.{good_from}
use Rattle.history.proofs.GoodBases.{good_waits}
use Rattle.history_text.proofs.Lists.{each-reverse}
use Rattle.history_text.proofs.Spelt.{all_spelt_on}
use Rattle.run_text.specs.RunText.{base_of, history_of, name_line, part_text, parts_text, shares_line}
use Rattle.run_text.specs.inner.{IsJudged, end_text, foot_text, head_text, history_head}
use Rattle.run_text.proofs.Written.{concat_last}

regrouped : (name first base entries end audit shares : List ℕ) →
    ((name ++ first) ++ base) ++ entries ++ ((end ++ audit) ++ shares)
    ≡ (name ++ (first ++ (base ++ (entries ++ end)))) ++ audit ++ shares
regrouped name first base entries end audit shares = simp append_assoc

regrouped_history : (first base entries end : List ℕ) →
    ((first ++ base) ++ entries) ++ end ≡ first ++ (base ++ (entries ++ end))
regrouped_history first base entries end = simp append_assoc

abbrev pub good_base : (part : ObjectReport) → IsJudged part → IsGood (base_of part)
good_base part is = good_from part.header part.history.base is.0.0 is.0.1

-- a name's line and the first lines of a history text, the lines of its entries, and what stands after them
pub part_is : (name : List ℕ) (part : ObjectReport) → IsJudged part →
    head_text name (base_of part) ++ entry_lines (base_of part).entries (reverse part.history.entries)
    ++ foot_text part
    ≡ part_text name part
part_is name part is =
    let b = base_of part in
    regrouped (ended (name_line name)) (ended (head_line (head_of b))) (lines_text (lines_told b))
    (entry_lines b.entries (reverse part.history.entries))
    (ended (counts_line (b.entries + length part.history.entries) (calls (based b) part.history.entries)))
    (audit_text b part.history.entries (verdict_of part.judgement)) (ended (shares_line part.share))

-- each entry has a line
pub sound_spelt : (part : ObjectReport) → IsSound part → All IsSpelt (reverse part.history.entries)
sound_spelt part is =
    let h = part.history.entries in
    let s = based (base_of part) in
    All-from_recursion IsSpelt (reverse h)
    (each-reverse IsSpelt h (all_spelt_on s h
    (good_waits (base_of part) (good_from part.header part.history.base is.0 is.1)) is.2))

pub lines_spelt : (part : ObjectReport) → IsJudged part → All IsSpelt (reverse part.history.entries)
lines_spelt part is = sound_spelt part is.0

-- the pieces of a history text
pub history_is : (part : ObjectReport) (first : ℕ) (head end : List ℕ) →
    head ≡ history_head (base_of part) → first ≡ (base_of part).entries → end ≡ end_text part →
    head ++ entry_lines first (reverse part.history.entries) ++ end ≡ history_of part
history_is part first head end is from ends =
    let b = base_of part in
    let h = part.history.entries in
    ap (λ (t : List ℕ). t ++ entry_lines first (reverse h) ++ end) is
    ∙ ap (λ (n : ℕ). history_head b ++ entry_lines n (reverse h) ++ end) from
    ∙ ap (λ (t : List ℕ). history_head b ++ entry_lines b.entries (reverse h) ++ t) ends
    ∙ regrouped_history (ended (head_line (head_of b))) (lines_text (lines_told b))
    (entry_lines b.entries (reverse h)) (end_text part)

-- the lines after the entries, one after another
pub foot_lines : (part : ObjectReport) (n c : ℕ) (counted broken said new : List ℕ) →
    n ≡ (base_of part).entries + length part.history.entries →
    c ≡ calls (based (base_of part)) part.history.entries →
    counted ≡ counts_line n c → broken ≡ counted ++ 10 ∷ [] →
    said ≡ broken ++ audit_text (base_of part) part.history.entries (verdict_of part.judgement) →
    new ≡ said ++ ended (shares_line part.share) → new ≡ foot_text part
foot_lines part n c counted broken said new p q r s t u =
    let audit = audit_text (base_of part) part.history.entries (verdict_of part.judgement) in
    let shares = ended (shares_line part.share) in
    let line = r ∙ ap (λ (m : ℕ). counts_line m c) p
    ∙ ap (counts_line ((base_of part).entries + length part.history.entries)) q in
    u ∙ ap (λ (z : List ℕ). z ++ shares) (t ∙ ap (λ (z : List ℕ). z ++ audit) (s
    ∙ ap (λ (z : List ℕ). z ++ 10 ∷ []) line))

-- the end line
pub end_lines : (part : ObjectReport) (n c : ℕ) (counted broken : List ℕ) →
    n ≡ (base_of part).entries + length part.history.entries →
    c ≡ calls (based (base_of part)) part.history.entries →
    counted ≡ counts_line n c → broken ≡ counted ++ 10 ∷ [] → broken ≡ end_text part
end_lines part n c counted broken p q r s =
    let line = r ∙ ap (λ (m : ℕ). counts_line m c) p
    ∙ ap (counts_line ((base_of part).entries + length part.history.entries)) q in
    s ∙ ap (λ (z : List ℕ). z ++ 10 ∷ []) line

-- one more text of an object
pub parts_more : (objects objects' : List Named) (o : Named) (rest rest' : List ObjectReport)
    (part : ObjectReport)
    (done : List (List ℕ)) (text all : List ℕ) → objects ≡ o ∷ objects' → rest ≡ part ∷ rest' →
    text ≡ part_text o.0 part → concat done ++ parts_text objects rest ≡ all →
    concat (done ++ text ∷ []) ++ parts_text objects' rest' ≡ all
parts_more objects objects' o rest rest' part done text all first second is before =
    let step : text ++ parts_text objects' rest' ≡ parts_text objects rest =
    ap (λ (t : List ℕ). t ++ parts_text objects' rest') is
    ∙ sym (ap (λ (z : List Named). parts_text z rest) first ∙ ap (parts_text (o ∷ objects')) second) in
    ap (λ (t : List ℕ). t ++ parts_text objects' rest') (concat_last done text)
    ∙ append_assoc (concat done) text (parts_text objects' rest')
    ∙ ap (λ (t : List ℕ). concat done ++ t) step ∙ before
