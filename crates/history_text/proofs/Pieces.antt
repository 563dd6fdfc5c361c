-- What is written of a history is the one text of its lines.
use Rattle.std.proofs.Common.{◌≡◌, ℕ, ◌+◌, List, [], ◌∷◌, ◌++◌, length, map, reverse, refl, ap, arith, append_assoc, sym, ◌∙◌}
use Rattle.std.proofs.lemmas.List.{length-reverse}
use Rattle.history_text.specs.Below.{Entry, Base, based, calls, ended, lines_of, text_of}
use Rattle.history.proofs.Lists.{calls-ended, ended_calls-reverse}
use Rattle.history_text.specs.Prelude.{BaseLine, calls_sum, counts_line, entry_line, head_of, history_form, entry_lines, history_text, lines_text, Based, Line, end_of, lines_on, numbered, head_line, lines_told, base_line}
use Rattle.history_text.proofs.HistoryItems.{calls_on, ends_on}

lines_based : (xs : List BaseLine) (ys : List Line) →
    lines_of history_form (map Based xs ++ ys) ≡ lines_text xs ++ lines_of history_form ys
lines_based [] ys = refl
lines_based (x ∷ xs) ys = simp (lines_based xs ys, append_assoc)

lines_numbered : (n : ℕ) (es : List Entry) → lines_of history_form (numbered n es) ≡ entry_lines n es
lines_numbered n [] = refl
lines_numbered n (e ∷ es) = ap (λ (t : List ℕ). ended (entry_line n e) ++ t) (lines_numbered (n + 1) es)

-- the two counts, where the calls of a base are those of its seats
end_counts : (b : Base) (h : List Entry) → calls_sum b.seats ≡ calls (based b) [] →
    (b.entries ≡ 0 → calls_sum b.seats ≡ 0) →
    counts_line (b.entries + length h) (calls (based b) h) ≡ end_of (lines_on b (reverse h))
end_counts b h sums early =
    ends_on b (reverse h) (b.entries + length h) (calls (based b) h) (omega (arith, length-reverse h))
    (omega (
      arith,
      calls_on b (reverse h) early,
      sums,
      ended_calls-reverse h,
      calls-ended (based b) h,
    ))

pub pieces : (b : Base) (h : List Entry) → calls_sum b.seats ≡ calls (based b) [] →
    (b.entries ≡ 0 → calls_sum b.seats ≡ 0) →
    text_of history_form (head_of b) (lines_on b (reverse h)) ≡ history_text b h
pieces b h sums early =
    let end = end_of (lines_on b (reverse h)) in
    let first = ended (head_line (head_of b)) in
    let lines = lines_text (lines_told b) in
    let entries = entry_lines b.entries (reverse h) in
    let told : text_of history_form (head_of b) (lines_on b (reverse h))
    ≡ first ++ (lines ++ (entries ++ ended end)) =
    simp (lines_based, lines_numbered, append_assoc) in
    told ∙ ap (λ (t : List ℕ). first ++ (lines ++ (entries ++ ended t))) (sym (end_counts b h sums early))
