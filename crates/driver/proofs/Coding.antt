-- The line of an answer is made of pieces.
use Rattle.std.proofs.Common.{arith, ◌≡◌, ◌⊎◌, inl, inr, ℕ, ◌+◌, ◌-◌, ◌<◌, ◌≤◌, List, [], ◌∷◌, ◌++◌, length, take, get_or, Some, None, Result, Ok, Err, refl, ap, sym, ◌∙◌, append_assoc, codes, decimal, append-nil, length-append, length-take-le}
use Rattle.history.proofs.PieceFronts.{front_of_piece}
use Rattle.std.proofs.lemmas.Bool.{cases_lt}
use Rattle.std.proofs.lemmas.Bool.Decides.{nat_tests}
use Rattle.std.proofs.lemmas.Fmt.{decimal_digit}
use Rattle.std.proofs.lemmas.Grind.{common_steps}
use Rattle.driver.specs.Below.{Fault, Answer, Recorded, Sleep, fault_name, ended, entry_words, line_of}
use Rattle.driver.specs.declared.code.Code.{Code}
use Rattle.driver.specs.Prelude.{answer_line, entries_of}
use Rattle.driver.specs.inner.Codes.{AreParts, IsCodeOf, IsKindOf, IsOf, answer_words, end_part, ending, entries_in, is_entry, number_part, part, rows, seat_part, written}

-- ---- the pieces of a number

pub words_spelt : written ≡ rows
words_spelt = let one : decimal 1 ≡ 49 ∷ [] = decimal_digit 1 (omega arith) in rw one refl

pub part_words : (i : ℕ) → 511 < i → part i ≡ get_or rows (i - 512) []
part_words i l = grind (arith, nat_tests)

part_seat : (i : ℕ) → i < 256 → part i ≡ seat_part i
part_seat i l = grind (arith, nat_tests)

part_end : (i : ℕ) → i < 256 → part (256 + i) ≡ end_part i
part_end i l = grind (arith, nat_tests)

pub one_part_more : (n : ℕ) (parts : List (List ℕ)) → AreParts n parts → AreParts (n + 1) (parts ++ part n ∷ [])
one_part_more n parts are = record {
  long = grind (arith, common_steps, are.long);
  each = λ i l. last i l (cases_lt i n);
}
  where
    last : (i : ℕ) → i < n + 1 → (i < n) ⊎ (n ≤ i) → get_or (parts ++ part n ∷ []) i [] ≡ part i
    last i l (inl few) = grind (arith, common_steps, are.each i few, are.long)
    last i l (inr at) =
        let here : i ≡ n = omega (arith, l, at) in
        grind (arith, common_steps, here, are.long)

-- ---- the line of an answer

apart : (a s d t w n : List ℕ) → ((((a ++ s) ++ d) ++ t) ++ w) ++ n ≡ ((a ++ ((s ++ d) ++ t)) ++ w) ++ n
apart a s d t w n = simp append_assoc

apart_named : (a s d t w u i n : List ℕ) → ((((((a ++ s) ++ d) ++ t) ++ w) ++ u) ++ i) ++ n
    ≡ ((a ++ ((s ++ d) ++ t)) ++ w) ++ ((u ++ i) ++ n)
apart_named a s d t w u i n = simp append_assoc

in_pieces : (number seat : ℕ) (r : Result Answer Fault) → IsOf seat r → ended (answer_line number seat r)
    ≡ ((number_part number (is_entry r) ++ seat_part seat) ++ answer_words r) ++ ending r
in_pieces number seat (Ok (Recorded e None)) of =
    rw (← of) (apart (decimal number) (codes " ") (decimal e.seat) (codes " ") (line_of (entry_words e)) (codes "\n"))
in_pieces number seat (Ok (Recorded e (Some named))) of =
    rw (← of)
    (apart_named (decimal number) (codes " ") (decimal e.seat) (codes " ") (line_of (entry_words e)) (codes " wakes ")
    (decimal named) (codes "\n"))
in_pieces number seat (Ok Sleep) of =
    ap (λ (t : List ℕ). 45 ∷ 32 ∷ (t ++ codes "\n"))
    (sym (append_assoc (decimal seat) (codes " ") (codes "sleep")))
in_pieces number seat (Err fault) of =
    apart (codes "-") (codes " ") (decimal seat) (codes " ") (fault_name fault) (codes "\n")

entries_are : (c : Code) (seat : ℕ) (r : Result Answer Fault) → c.kind < 23 → IsKindOf c.kind seat r →
    entries_in c ≡ entries_of r
entries_are c seat r l is = grind (arith, nat_tests, l, is.shown)

pub code_is : (c : Code) (r : Result Answer Fault) → c.seat < 256 → c.named < 256 → c.kind < 23 →
    IsKindOf c.kind c.seat r → end_part c.named ≡ ending r → IsCodeOf c c.seat r
code_is c r seat named kind is who =
    let back : (512 + c.kind) - 512 ≡ c.kind = omega arith in
    let words : part (512 + c.kind) ≡ answer_words r = part_words (512 + c.kind) (omega arith)
    ∙ ap (λ (k : ℕ). get_or rows k []) back ∙ is.words in
    record {
      plain = kind;
      line = λ number. rw (part_seat c.seat seat, words, part_end c.named named, who, is.shown)
          (sym (in_pieces number c.seat r is.of));
      adds = entries_are c c.seat r kind is;
    }

-- ---- a dash before a number

-- what stands before a piece that was put
pub front_kept : (old mid piece : List ℕ) (at end : ℕ) → at ≤ length old → end ≤ length mid →
    take end mid ≡ take at old ++ piece → take at mid ≡ take at old
front_kept old mid piece at end few within put =
    let l : at ≤ end = omega (
      arith,
      ap length put,
      length-append (take at old) piece,
      length-take-le at old few,
      length-take-le end mid within,
    ) in
    ap (λ (n : ℕ). take n mid) (omega arith)
    ∙ front_of_piece old mid piece at end 0 few (omega (arith, l)) put ∙ append-nil (take at old)

-- pieces that were put one after another
pub put_after : (t u v w x a b c d : List ℕ) → u ≡ t ++ a → v ≡ u ++ b → w ≡ v ++ c → x ≡ w ++ d →
    x ≡ t ++ (((a ++ b) ++ c) ++ d)
put_after t u v w x a b c d e f g h = simp (h, g, f, e, append_assoc)
