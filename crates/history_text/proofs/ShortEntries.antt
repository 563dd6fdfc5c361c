-- The lines of a history text are short.
use Rattle.std.proofs.Common.{◌≡◌, ℕ, ◌<◌, ◌≤◌, ◌^◌, Bool, true, false, List, [], ◌∷◌, ◌++◌, length, ap, arith, decimal, codes, length-append}
use Rattle.history_text.specs.Below.{LAST_CONDITION, MOST_AMOUNT, End, Entry, Mode, X, Word, Back, Queued, Header, LinePlace, IsWritten, entry_words, spelt, IsInRange, ended, part_of, HasShortLines}
use Rattle.history.specs.declared.entry.End.TheVariants as end
use Rattle.history.specs.declared.entry.Word.TheVariants as word
use Rattle.streams.proofs.Lengths.{AreShort, decimal_short, header_short, line_length, mode_short}
use Rattle.history_text.specs.Prelude.{Head, waiting_by, HasLine, counts_line, entry_line, head_line, name_of, Based, Entered, Line, SomeBeginsSo, calls_told, entries_told, line_text, sum_of, history_form}
use Rattle.history_text.proofs.BaseLineLemmas.{base_short}
use Rattle.history_text.proofs.EntryLemmas.{counts_line-words, entry_line-words}
use Rattle.history_text.proofs.HistoryLawful.{ended_fit, number_fits, spelt_next}

pub words_short : (w : Word) (m : Mode) (n at : ℕ) (e : End) → n ≤ MOST_AMOUNT → at ≤ LAST_CONDITION →
    AreShort (spelt w m n at e) × (length (spelt w m n at e) ≤ 4)
words_short w m n at e lt le =
    let amount = decimal_short n (omega (arith, lt)) in
    let condition = decimal_short at (omega (arith, le)) in
    grind (arith, mode_short, amount, condition)

pub entry_short : (h : Header) (k : ℕ) (e : Entry) → k < 2 ^ 64 → IsInRange h → HasLine h e →
    length (entry_line k e) < 256
entry_short h k e lt range fits =
    let words = words_short e.word e.mode e.n e.at e.end fits.written.amount fits.written.condition in
    let seat = decimal_short e.seat (omega (arith, range.seats, fits.seat)) in
    omega (
      arith,
      words.1,
      ap length (entry_line-words k e),
      line_length (decimal k ∷ decimal e.seat ∷ entry_words e) (decimal_short k lt, (seat, words.0)),
    )

pub counts_short : (entries calls : ℕ) → entries < 2 ^ 64 → calls < 2 ^ 64 →
    length (counts_line entries calls) < 255
counts_short entries calls few lt =
    omega (
      arith,
      ap length (counts_line-words entries calls),
      line_length (codes "end" ∷ decimal entries ∷ decimal calls ∷ [])
          (omega arith, (decimal_short entries few, (decimal_short calls lt, tt))),
    )

name_length : (is_based : Bool) → length (name_of is_based) ≡ 14
name_length is_based = grind arith

head_short : (h : Head) → IsInRange h.header → length (head_line h) < 256
head_short h range =
    omega (
      arith,
      header_short (codes "aqs-history 1 ") h.header (omega arith) range,
      name_length h.is_based,
      length-append (name_of h.is_based) (part_of h.header),
      length-append (codes "aqs-history 1 ") (part_of h.header),
    )

pub waiting_short : (p : LinePlace) (b : Bool) → IsWritten (waiting_by b p) →
    AreShort (entry_words (waiting_by b p)) × (length (entry_words (waiting_by b p)) ≤ 4)
waiting_short p true written = words_short Back X p.holds p.condition p.how written.amount written.condition
waiting_short p false written =
    words_short Queued p.who.mode p.who.n 0 end.None written.amount written.condition

line_short : (h : Head) (before : List Line) (x : Line) → IsInRange h.header →
    SomeBeginsSo h (before ++ x ∷ []) → length (line_text x) < 256
line_short h before (Based x) range begins =
    base_short x (spelt_next h before x range begins) (λ p fits. waiting_short p p.who.back fits.1)
line_short h before (Entered m e) range begins =
    let fits = number_fits h before m e range begins in entry_short h.header m e fits.0 range fits.1

pub short : HasShortLines history_form 256
short =
    record {
      header = head_short;
      item = λ h before x header each begins. line_short h before x header begins;
      end = λ h lines header each has.
          let fit = ended_fit h lines header has in
          let few = counts_short (sum_of entries_told lines) (sum_of calls_told lines) fit.0 fit.1 in
          omega (arith, few);
    }

-- the end line and its break
pub ended_short : (line : List ℕ) (entries calls : ℕ) → entries < 2 ^ 64 → calls < 2 ^ 64 →
    line ≡ ended (counts_line entries calls) → length line ≤ 255
ended_short line entries calls few lt is =
    let parts = length-append (counts_line entries calls) (10 ∷ []) in
    rw is (omega (arith, counts_short entries calls few lt, parts))
