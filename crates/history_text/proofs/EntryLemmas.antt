-- What the line of an entry spells is read again.
use Rattle.std.proofs.Common.{◌≡◌, ℕ, ◌-◌, ◌^◌, ◌<◌, List, [], ◌∷◌, ◌++◌, Some, refl, sym, ap, ◌∙◌, arith, decimal, append_assoc, codes, le-leb}
use Rattle.std.proofs.lemmas.List.Splits.{join_with_byte-slice_split}
use Rattle.history_text.specs.Below.{Entry, End, Mode, Word, Header, entry_words, spelt, IsInRange, line_of, words_of}
use Rattle.history.specs.declared.entry.Word.TheVariants as word
use Rattle.history.proofs.EntryAgain.{plain_entry, words_again_read}
use Rattle.history.proofs.Numbers.{number_again}
use Rattle.history.proofs.Plain.{ArePlain, words_again, decimal_plain}
use Rattle.history.proofs.Readers.{is_line_of, same_value}
use Rattle.history_text.specs.Prelude.{HasLine, entry_line, counts_line, counts_at, line_at}

-- ---- the words of a line

line_again : (h : Header) (k : ℕ) (e : Entry) → k < 2 ^ 64 → IsInRange h → HasLine h e →
    line_at k h.seats (decimal k ∷ decimal e.seat ∷ entry_words e) ≡ Some (e, [])
unfolding line_at
line_again h k e lt range fits =
    rw (
      number_again k lt,
      le-leb k k (omega arith),
      number_again e.seat (omega (arith, fits.seat, range.seats)),
      le-leb 0 e.seat (omega arith),
      le-leb e.seat (h.seats - 1) (omega (arith, fits.seat)),
    ) (words_again_read e fits.written)

pub line_plain : (h : Header) (k : ℕ) (e : Entry) → k < 2 ^ 64 → IsInRange h → HasLine h e →
    ArePlain (decimal k ∷ decimal e.seat ∷ entry_words e)
line_plain h k e lt range fits = (
  decimal_plain k lt,
  (
    decimal_plain e.seat (omega (arith, fits.seat, range.seats)),
    plain_entry e fits.written,
  ),
)

-- ---- the line, as a line of words

joined : (v : List ℕ) (w : Word) (m : Mode) (n at : ℕ) (e : End) →
    line_of (v ∷ spelt w m n at e) ≡ v ++ 32 ∷ line_of (spelt w m n at e)
joined v w m n at e = grind arith

pub entry_line-words : (k : ℕ) (e : Entry) →
    entry_line k e ≡ line_of (decimal k ∷ decimal e.seat ∷ entry_words e)
entry_line-words k e =
    let words = line_of (entry_words e) in
    grouped (decimal k) (decimal e.seat) words
    ∙ ap (λ (t : List ℕ). decimal k ++ 32 ∷ t)
    (sym (joined (decimal e.seat) e.word e.mode e.n e.at e.end))
  where
    grouped : (a b c : List ℕ) → a ++ codes " " ++ b ++ codes " " ++ c ≡ a ++ 32 ∷ (b ++ 32 ∷ c)
    grouped a b c = simp append_assoc

pub whole_line : (h : Header) (k : ℕ) (e : Entry) → k < 2 ^ 64 → IsInRange h → HasLine h e →
    line_at k h.seats (words_of (entry_line k e)) ≡ Some (e, [])
whole_line h k e lt range fits =
    ap (λ (t : List ℕ). line_at k h.seats (words_of t)) (entry_line-words k e)
    ∙ ap (line_at k h.seats) (words_again (decimal k) (decimal e.seat ∷ entry_words e)
    (line_plain h k e lt range fits)) ∙ line_again h k e lt range fits

pub is_entry_line : (line : List ℕ) (k : ℕ) (e : Entry) →
    words_of line ≡ (decimal k ∷ decimal e.seat ∷ entry_words e) ++ [] → line ≡ entry_line k e
is_entry_line line k e words =
    is_line_of line (decimal k ∷ decimal e.seat ∷ entry_words e) words ∙ sym (entry_line-words k e)

pub same_entry : (h : Header) (k : ℕ) (x y : Entry) → k < 2 ^ 64 → IsInRange h → HasLine h x → HasLine h y →
    entry_line k x ≡ entry_line k y → x ≡ y
same_entry h k x y lt range p q e =
    same_value (line_at k h.seats) (entry_line k x) (entry_line k y) x y (whole_line h k x lt range p)
    (whole_line h k y lt range q) e

-- ---- the end line

pub counts_plain : (a b : ℕ) → a < 2 ^ 64 → b < 2 ^ 64 → ArePlain (codes "end" ∷ decimal a ∷ decimal b ∷ [])
counts_plain a b l k = (refl, (decimal_plain a l, (decimal_plain b k, tt)))

pub counts_line-words : (a b : ℕ) → counts_line a b ≡ line_of (codes "end" ∷ decimal a ∷ decimal b ∷ [])
counts_line-words a b = simp append_assoc

counts_again : (a b : ℕ) → a < 2 ^ 64 → b < 2 ^ 64 →
    counts_at a b (codes "end" ∷ decimal a ∷ decimal b ∷ []) ≡ Some (tt, [])
unfolding counts_at
counts_again a b l k =
    rw (number_again a l, le-leb a a (omega arith), number_again b k, le-leb b b (omega arith)) refl

pub whole_end : (a b : ℕ) → a < 2 ^ 64 → b < 2 ^ 64 →
    counts_at a b (words_of (counts_line a b)) ≡ Some (tt, [])
whole_end a b l k =
    ap (λ (t : List ℕ). counts_at a b (words_of t)) (counts_line-words a b)
    ∙ ap (counts_at a b) (words_again (codes "end") (decimal a ∷ decimal b ∷ []) (counts_plain a b l k))
    ∙ counts_again a b l k

pub is_counts_line : (line : List ℕ) (a b : ℕ) → words_of line ≡ codes "end" ∷ decimal a ∷ decimal b ∷ [] →
    line ≡ counts_line a b
is_counts_line line a b words =
    sym (join_with_byte-slice_split 32 line) ∙ ap line_of words ∙ sym (counts_line-words a b)
