-- Pieces of a line that is put over other bytes.
use Rattle.std.proofs.Common.{◌≡◌, ℕ, ◌+◌, ◌-◌, ◌≤◌, List, ◌++◌, length, take, drop, ap, sym, ◌∙◌, arith, length-take-le, drop-drop}
use Rattle.std.proofs.Math.Seq.{take-append-add}
use Rattle.std.proofs.lemmas.Grind.{common_steps}

-- of a piece only a front is kept
pub front_of_piece : (before after piece : List ℕ) (at end n : ℕ) → at ≤ length before → at + n ≤ end →
    take end after ≡ take at before ++ piece → take (at + n) after ≡ take at before ++ take n piece
front_of_piece before after piece at end n below within put =
    let cut : take (at + n) (take end after) ≡ take (at + n) after = grind (arith, common_steps) in
    let long : length (take at before) ≡ at = length-take-le at before below in
    let split : take (length (take at before) + n) (take at before ++ piece) ≡ take at before
    ++ take n piece = take-append-add (take at before) piece n in
    sym cut ∙ ap (take (at + n)) put ∙ rw long at split

-- what is the same behind a place is the same behind each later one
pub rest_behind : (old new : List ℕ) (r m : ℕ) → drop r new ≡ drop r old → r ≤ m → drop m new ≡ drop m old
rest_behind old new r m same later =
    let apart : r + (m - r) ≡ m = omega (arith, later) in
    let further : (xs : List ℕ) → drop (m - r) (drop r xs) ≡ drop m xs = λ xs. drop-drop (m - r) r xs
    ∙ ap (λ (n : ℕ). drop n xs) apart in
    sym (further new) ∙ ap (drop (m - r)) same ∙ further old
