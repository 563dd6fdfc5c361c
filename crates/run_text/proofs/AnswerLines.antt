-- The lines of answers, one after another.
use Rattle.std.proofs.Common.{◌≡◌, ℕ, ◌+◌, ◌<◌, List, [], ◌∷◌, ◌++◌, get_or, length, map, take, ap, sym, ◌∙◌, append_assoc}
use Rattle.std.specs.List.{concat}
use Rattle.std.proofs.lemmas.List.{map-append, take_more}
use Rattle.run_text.specs.Below.{Named, Unrecorded}
use Rattle.run_text.specs.Unrecorded.{answer_line, answer_lines}
use Rattle.run_text.proofs.Written.{concat_last}

lines_more : (objects : List Named) (answers : List Unrecorded) (i : ℕ) (d : Unrecorded) → i < length answers →
    answer_lines objects (take (i + 1) answers)
    ≡ answer_lines objects (take i answers) ++ answer_line objects (get_or answers i d)
lines_more objects answers i d within =
    ap (answer_lines objects) (take_more answers i d within)
    ∙ ap concat (map-append (answer_line objects) (take i answers) (get_or answers i d ∷ []))
    ∙ concat_last (map (answer_line objects) (take i answers)) (answer_line objects (get_or answers i d))

-- one line more
pub answers_more : (objects : List Named) (answers : List Unrecorded) (i : ℕ) (d : Unrecorded)
    (before so_far new : List ℕ) → i < length answers →
    so_far ≡ before ++ answer_lines objects (take i answers) →
    new ≡ so_far ++ answer_line objects (get_or answers i d) →
    new ≡ before ++ answer_lines objects (take (i + 1) answers)
answers_more objects answers i d before so_far new within is added =
    let line = answer_line objects (get_or answers i d) in
    added ∙ ap (λ (t : List ℕ). t ++ line) is
    ∙ append_assoc before (answer_lines objects (take i answers)) line
    ∙ ap (λ (t : List ℕ). before ++ t) (sym (lines_more objects answers i d within))
