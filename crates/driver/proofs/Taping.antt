-- The lines of codes, one after another.
use Rattle.std.proofs.Common.{arith, ◌≡◌, ℕ, ◌+◌, ◌<◌, ◌≤◌, List, [], ◌∷◌, ◌++◌, length, drop, get_or, ap, subst, sym, ◌∙◌, append_assoc, append-nil, length-drop}
use Rattle.std.proofs.lemmas.List.{drop-append-le, drop_more}
use Rattle.std.proofs.lemmas.Bool.Decides.{nat_tests}
use Rattle.std.proofs.lemmas.Grind.{common_steps}
use Rattle.driver.specs.declared.code.Code.{Code}
use Rattle.driver.specs.inner.Codes.{code_line, entries_by, entries_in, kept_by, kept_in, line_by, lines_by}

-- ---- one line more

pub entries_more : (cs : List Code) (c : Code) → entries_by (cs ++ c ∷ []) ≡ entries_by cs + entries_in c
entries_more [] c = omega arith
entries_more (d ∷ ds) c = omega (arith, entries_more ds c)

pub kept_more : (cs : List Code) (c : Code) → kept_by (cs ++ c ∷ []) ≡ kept_by cs + kept_in c
kept_more [] c = omega arith
kept_more (d ∷ ds) c = omega (arith, kept_more ds c)

line_same : (number : ℕ) (c : Code) (text more : List ℕ) → kept_in c ≤ length text →
    line_by number c (text ++ more) ≡ line_by number c text
line_same number c text more l = grind (arith, nat_tests, common_steps, l)

lines_more : (number : ℕ) (cs : List Code) (c : Code) (text more : List ℕ) → kept_by cs ≡ length text
    → lines_by number (cs ++ c ∷ []) (text ++ more)
    ≡ lines_by number cs text ++ line_by (number + entries_by cs) c more
lines_more number [] c [] more is =
    append-nil (line_by number c more) ∙ ap (λ (n : ℕ). line_by n c more) (omega arith)
lines_more number [] c (x ∷ xs) more is = absurd (omega (arith, is))
lines_more number (d ∷ ds) c text more is =
    let k = kept_in d in
    let l : k ≤ length text = omega (arith, is) in
    let left : kept_by ds ≡ length (drop k text) = omega (arith, is, length-drop k text) in
    let next = number + entries_in d in
    rw (line_same number d text more l, drop-append-le k text more l)
    (ap (λ (t : List ℕ). line_by number d text ++ t) (lines_more next ds c (drop k text) more left)
    ∙ sym (append_assoc (line_by number d text) (lines_by next ds (drop k text))
    (line_by (next + entries_by ds) c more))
    ∙ ap (λ (n : ℕ). (line_by number d text ++ lines_by next ds (drop k text)) ++ line_by n c more)
    (omega arith))

pub plain_more : (c : Code) → c.kind < 23 → (cs : List Code) (text : List ℕ) → kept_by cs ≡ length text →
    lines_by 0 (cs ++ c ∷ []) text ≡ lines_by 0 cs text ++ code_line (entries_by cs) c
plain_more c l cs text is =
    ap (lines_by 0 (cs ++ c ∷ [])) (sym (append-nil text)) ∙ lines_more 0 cs c text [] is
    ∙ ap (λ (t : List ℕ). lines_by 0 cs text ++ t) (grind (arith, nat_tests, l))

pub whole_more : (c : Code) (line : List ℕ) → 23 ≤ c.kind → c.seat ≡ length line → (cs : List Code)
    (text : List ℕ) → kept_by cs ≡ length text →
    lines_by 0 (cs ++ c ∷ []) (text ++ line) ≡ lines_by 0 cs text ++ line
whole_more c line l long cs text is =
    lines_more 0 cs c text line is
    ∙ ap (λ (t : List ℕ). lines_by 0 cs text ++ t) (grind (arith, nat_tests, common_steps, l, long))

-- no line tells more than one entry
pub one_entry : (c : Code) → entries_in c ≤ 1
one_entry c = grind (arith, nat_tests)

pub few_entries : (cs : List Code) → entries_by cs ≤ length cs
few_entries [] = omega arith
few_entries (c ∷ cs) = omega (arith, one_entry c, few_entries cs)

-- ---- writing the lines

-- These codes and this text are left, from a number on, after these of all lines.
pub record Left (number : ℕ) (codes : List Code) (text all so_far : List ℕ) : Type 0 where
  pub kept : kept_by codes ≡ length text
  pub lines : all ≡ so_far ++ lines_by number codes text

-- the next code
pub at_code : (codes : List Code) (i : ℕ) (d : Code) (number : ℕ) (text all so_far : List ℕ) →
    i < length codes → Left number (drop i codes) text all so_far →
    Left number (get_or codes i d ∷ drop (i + 1) codes) text all so_far
at_code codes i d number text all so_far lt left =
    subst (λ (rest : List Code). Left number rest text all so_far) (drop_more codes i d lt) left

-- its line was written
pub one_written : (number : ℕ) (c : Code) (cs : List Code) (text all so_far : List ℕ) →
    Left number (c ∷ cs) text all so_far →
    Left (number + entries_in c) cs (drop (kept_in c) text) all (so_far ++ line_by number c text)
one_written number c cs text all so_far left =
    record {
      kept = omega (arith, left.kept, length-drop (kept_in c) text);
      lines = left.lines ∙ sym (append_assoc so_far (line_by number c text)
          (lines_by (number + entries_in c) cs (drop (kept_in c) text)));
    }
