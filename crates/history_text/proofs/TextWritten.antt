-- A history text is written, one entry after another behind the lines of a base.
use Rattle.std.proofs.Common.{◌≡◌, ℕ, ◌+◌, List, [], ◌∷◌, ◌++◌, length, take, reverse, Some, ap, ◌∙◌, arith, append_assoc, append-nil, length-take}
use Rattle.std.specs.List.{slice_get}
use Rattle.std.proofs.lemmas.List.{take_more}
use Rattle.std.proofs.lemmas.Option.{get_or_from_slice_get, slice_get_within}
use Rattle.history_text.specs.Below.{Entry, Base, based, calls, ended}
use Rattle.history_text.specs.Prelude.{counts_line, entry_line, head_line, head_of, lines_told, entry_lines, history_text, lines_text}

-- one more entry
pub entry_lines-push : (k : ℕ) (xs : List Entry) (x : Entry) →
    entry_lines k (xs ++ x ∷ []) ≡ entry_lines k xs ++ ended (entry_line (k + length xs) x)
entry_lines-push k [] x = grind (arith, append-nil {A = ℕ})
entry_lines-push k (y ∷ ys) x = grind (arith, append_assoc {A = ℕ}, entry_lines-push (k + 1) ys x)

-- one entry more behind the front
pub more_lines : (n : ℕ) (xs : List Entry) (front out mid new : List ℕ) (i : ℕ) (e : Entry) →
    slice_get xs i ≡ Some e → out ≡ front ++ entry_lines n (take i xs) →
    mid ≡ out ++ entry_line (n + i) e → new ≡ mid ++ 10 ∷ []
    → new ≡ front ++ entry_lines n (take (i + 1) xs)
more_lines n xs front out mid new i e at was p q =
    let lt = slice_get_within xs i e at in
    let taken : take (i + 1) xs ≡ take i xs ++ e ∷ [] =
    take_more xs i e lt ∙ ap (λ (x : Entry). take i xs ++ x ∷ []) (get_or_from_slice_get xs i e e at) in
    let number : length (take i xs) ≡ i = omega (arith, length-take i xs, lt) in
    simp (q, p, was, taken, entry_lines-push, number, append_assoc)

-- all is written
pub all_lines : (b : Base) (entries : List Entry) (out mid new : List ℕ) (n c : ℕ) →
    out ≡ (ended (head_line (head_of b)) ++ lines_text (lines_told b))
    ++ entry_lines b.entries (reverse entries) →
    n ≡ b.entries + length entries → c ≡ calls (based b) entries →
    mid ≡ out ++ counts_line n c → new ≡ mid ++ 10 ∷ [] → new ≡ history_text b entries
all_lines b entries out mid new n c was p q r s =
    rw (s, r, was, p, q) (regrouped (ended (head_line (head_of b))) (lines_text (lines_told b))
    (entry_lines b.entries (reverse entries))
    (counts_line (b.entries + length entries) (calls (based b) entries)))
  where
    regrouped : (a b c d : List ℕ) → (((a ++ b) ++ c) ++ d) ++ 10 ∷ [] ≡ a ++ (b ++ (c ++ (d ++ 10 ∷ [])))
    regrouped a b c d = simp append_assoc
