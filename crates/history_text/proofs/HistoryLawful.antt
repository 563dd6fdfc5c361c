-- The lines of a history text can be told apart.
use Rattle.std.proofs.Common.{◌≡◌, ℕ, ◌<◌, ◌^◌, Bool, true, false, List, [], ◌∷◌, ◌++◌, refl, sym, ap, subst, ◌∙◌, arith, decimal, codes}
use Rattle.std.specs.List.{AllByRecursion}
use Rattle.history_text.specs.Below.{Entry, Header, entry_words, IsInRange, part_of, words_of, line_of}
use Rattle.history.proofs.Lists.{ended_calls_le}
use Rattle.history.proofs.Numbers.{digits_alone}
use Rattle.history.proofs.Plain.{words_again}
use Rattle.streams.proofs.Lawful.{Lacks, IsLawful}
use Rattle.streams.proofs.Lists.{head_is, same_behind}
use Rattle.streams.proofs.WholeLines.{line_lacks, header_whole, header_one}
use Rattle.history_text.specs.Prelude.{BaseLine, Head, IsBaseLine, HasLine, entry_line, counts_line, name_of, Based, Entered, Line, SomeBeginsSo, SomeHas, calls_told, end_of, entries_told, line_text, lines_on, sum_of, history_form, GoodBeginsSo}
use Rattle.history_text.proofs.BaseLineLemmas.{base_lacks, base_no_end, base_no_entry, same_base_line}
use Rattle.history_text.proofs.EntryLemmas.{line_plain, entry_line-words, same_entry, counts_plain, counts_line-words}
use Rattle.history_text.proofs.HeadWritten.{good_spelt, sums_few}
use Rattle.history_text.proofs.Lists.{each_at, each_front}
use Rattle.history_text.proofs.HistoryItems.{base_few, calls_on, entries_on, next_based, next_entry}

entry_lacks : (h : Header) (k : ℕ) (e : Entry) → IsInRange h → k < 2 ^ 64 → HasLine h e →
    Lacks (entry_line k e)
entry_lacks h k e range lt fits =
    rw (entry_line-words k e)
    (line_lacks (decimal k ∷ decimal e.seat ∷ entry_words e) (line_plain h k e lt range fits))

end_lacks : (a b : ℕ) → a < 2 ^ 64 → b < 2 ^ 64 → Lacks (counts_line a b)
end_lacks a b l k = subst Lacks (sym (counts_line-words a b))
    (line_lacks (codes "end" ∷ decimal a ∷ decimal b ∷ []) (counts_plain a b l k))

pub entry_no_end : (h : Header) (k : ℕ) (e : Entry) (a b : ℕ) → IsInRange h → k < 2 ^ 64 → HasLine h e →
    a < 2 ^ 64 → b < 2 ^ 64 → entry_line k e ≡ counts_line a b → ⊥
entry_no_end h k e a b range lt fits l m same =
    let lines : line_of (decimal k ∷ decimal e.seat ∷ entry_words e)
    ≡ line_of (codes "end" ∷ decimal a ∷ decimal b ∷ []) =
    sym (entry_line-words k e) ∙ same ∙ counts_line-words a b in
    let words =
    sym (words_again (decimal k) (decimal e.seat ∷ entry_words e) (line_plain h k e lt range fits))
    ∙ ap words_of lines ∙ words_again (codes "end") (decimal a ∷ decimal b ∷ []) (counts_plain a b l m) in
    let number : codes "end" ≡ decimal k = sym (head_is words) in
    omega (arith, digits_alone (codes "end") k 0 lt (omega arith) number)

-- ---- the first line

head_whole : (is_based : Bool) (k : Header) → IsInRange k → Lacks (name_of is_based ++ part_of k)
head_whole true k range = header_whole (codes "aqs-history 2 ") k refl range
head_whole false k range = header_whole (codes "aqs-history 1 ") k refl range

other_name : (a b : List ℕ) → codes "aqs-history 1 " ++ a ≡ codes "aqs-history 2 " ++ b → ⊥
other_name a b e =
    let rest : 49 ∷ 32 ∷ a ≡ 50 ∷ 32 ∷ b =
    same_behind (codes "aqs-history ") (49 ∷ 32 ∷ a) (50 ∷ 32 ∷ b) e in
    omega (arith, head_is rest)

abbrev headed : Bool → Header → Head
headed x k = record { is_based = x; header = k }

one_head : (x y : Bool) (k l : Header) → IsInRange k → IsInRange l →
    name_of x ++ part_of k ≡ name_of y ++ part_of l
    → headed x k ≡ headed y l
one_head true true k l p q e =
    ap (headed true) (header_one (codes "aqs-history 2 ") k l p q e)
one_head false false k l p q e =
    ap (headed false) (header_one (codes "aqs-history 1 ") k l p q e)
one_head true false k l p q e = absurd (other_name (part_of l) (part_of k) (sym e))
one_head false true k l p q e = absurd (other_name (part_of k) (part_of l) e)

-- ---- the lines behind it

-- a line with which a good base begins is spelt
pub good_line : (k : Header) (xs : List BaseLine) (x : BaseLine) → IsInRange k → GoodBeginsSo k (xs ++ x
    ∷ []) →
    IsBaseLine x
good_line k xs x range (b, more, is, e) =
    each_at IsBaseLine xs x []
    (each_front IsBaseLine (xs ++ x ∷ []) more
    (subst (AllByRecursion IsBaseLine) e
    (good_spelt b
    (record { range = subst IsInRange (sym is.header) range; some = is.some; good = is.good }))))

pub spelt_next : (h : Head) (before : List Line) (x : BaseLine) → IsInRange h.header →
    SomeBeginsSo h (before ++ Based x ∷ []) → IsBaseLine x
spelt_next h before x range begins =
    let next = next_based h before x begins in good_line h.header next.xs x range next.good

-- the numbers of entries are small
pub number_fits : (h : Head) (before : List Line) (m : ℕ) (e : Entry) → IsInRange h.header →
    SomeBeginsSo h (before ++ Entered m e ∷ []) → (m < 2 ^ 64) × HasLine h.header e
number_fits h before m e range begins =
    let next = next_entry h before m e begins in (
      omega (arith, next.number, next.room, base_few h.header next.base next.of.base, range.cap),
      next.line,
    )

-- and so are those of an end line
pub ended_fit : (h : Head) (lines : List Line) → IsInRange h.header → SomeHas h lines →
    (sum_of entries_told lines < 2 ^ 64) × (sum_of calls_told lines < 2 ^ 64)
ended_fit h lines range (b, es, of, e) =
    let few = base_few h.header b of.base in
    let some = sums_few h.header b of.base in
    let entries : sum_of entries_told (lines_on b es) ≡ sum_of entries_told lines =
    ap (sum_of entries_told) e in
    let calls : sum_of calls_told (lines_on b es) ≡ sum_of calls_told lines = ap (sum_of calls_told) e in (
      omega (arith, entries, entries_on b es, few, of.few, range.cap),
      omega (arith, calls_on b es (λ z. omega (arith, some, z)), ended_calls_le es, of.few, range.cap),
    )

line_whole : (h : Head) (before : List Line) (x : Line) → IsInRange h.header →
    SomeBeginsSo h (before ++ x ∷ []) → Lacks (line_text x)
line_whole h before (Based x) range begins = base_lacks x (spelt_next h before x range begins)
line_whole h before (Entered m e) range begins =
    let fits = number_fits h before m e range begins in entry_lacks h.header m e range fits.0 fits.1

-- an entry's number is that of the entries before it
pub numbered_so : (h : Head) (before : List Line) (m : ℕ) (e : Entry) →
    SomeBeginsSo h (before ++ Entered m e ∷ []) → m ≡ sum_of entries_told before
numbered_so h before m e begins =
    let next = next_entry h before m e begins in
    next.number ∙ sym (entries_on next.base next.entries) ∙ ap (sum_of entries_told) (sym next.lines)

line_one : (h : Head) (before : List Line) (x y : Line) → IsInRange h.header →
    SomeBeginsSo h (before ++ x ∷ []) → SomeBeginsSo h (before ++ y ∷ []) → line_text x ≡ line_text y → x ≡ y
line_one h before (Based x) (Based y) range p q e =
    ap (λ (z : BaseLine). Based z)
    (same_base_line x y (spelt_next h before x range p) (spelt_next h before y range q) e)
line_one h before (Based x) (Entered m d) range p q e =
    let fits = number_fits h before m d range q in
    absurd (base_no_entry x h.header m d (spelt_next h before x range p) fits.0 range fits.1 e)
line_one h before (Entered m d) (Based x) range p q e =
    let fits = number_fits h before m d range p in
    absurd (base_no_entry x h.header m d (spelt_next h before x range q) fits.0 range fits.1 (sym e))
line_one h before (Entered n d) (Entered k f) range p q e =
    let same : n ≡ k = numbered_so h before n d p ∙ sym (numbered_so h before k f q) in
    let lines : entry_line k d ≡ entry_line k f = ap (λ (z : ℕ). entry_line z d) (sym same) ∙ e in
    let fits = number_fits h before k f range q in
    ap (λ (z : ℕ). Entered z d) same
    ∙ ap (λ (z : Entry). Entered k z)
    (same_entry h.header k d f fits.0 range (number_fits h before n d range p).1 fits.1 lines)

no_end : (h : Head) (before : List Line) (x : Line) → IsInRange h.header →
    SomeBeginsSo h (before ++ x ∷ []) → SomeHas h before → line_text x ≡ end_of before → ⊥
no_end h before (Based x) range begins has e =
    let fit = ended_fit h before range has in
    base_no_end x _ _ (spelt_next h before x range begins) fit.0 fit.1 e
no_end h before (Entered m d) range begins has e =
    let fit = ended_fit h before range has in
    let fits = number_fits h before m d range begins in
    entry_no_end h.header m d _ _ range fits.0 fits.1 fit.0 fit.1 e

pub lawful : IsLawful history_form
lawful =
    record {
      header_whole = λ h fits. head_whole h.is_based h.header fits;
      header_one = λ h g p q e. one_head h.is_based g.is_based h.header g.header p q e;
      item_whole = λ h before x stand begins. line_whole h before x stand.header begins;
      item_one = λ h before x y stand p q e. line_one h before x y stand.header p q e;
      end_whole = λ h items stand has.
          let fit = ended_fit h items stand.header has in end_lacks _ _ fit.0 fit.1;
      item_no_end = λ h before x stand begins has e. no_end h before x stand.header begins has e;
    }
