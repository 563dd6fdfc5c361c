-- The lines of a base ahead of a reader's window.
use Rattle.std.proofs.Common.{◌≡◌, ℕ, ◌-◌, ◌≤◌, true, List, [], ◌∷◌, ◌++◌, length, map, drop, Option, None, Some, Ok, Err, IfSome, refl, sym, ap, subst, ◌∙◌, arith, append_assoc}
use Rattle.std.specs.Io.KnownBytes.{Keeps, IsAtEnd, prepend_known}
use Rattle.driver.specs.Below.{Header, Base, or_opening, MOST_FOLDED, IsBaseOf, Start, ended, TextFault, CutShort, Begins, MOST_LINES, BaseLine, Head, Place, base_line, base_lines, head_of, history_form, AreEntriesRead, HasShortLine, IsBaseLineNext, IsBaseLineTaken, LacksBaseLine, LinesRead, Based, Line, GoodBeginsSo, IsToldBase, StreamFault, Text, Memory, IsOfReading, IsTooLong, StaysAhead}
use Rattle.history.proofs.OpeningBase.{based_opening}
use Rattle.streams.proofs.OneReading.{lacks, same_lines}
use Rattle.streams.proofs.UnderWay.{last_bytes}
use Rattle.history_text.proofs.BaseTextRead.{line_begins, place_behind, whole_begins}
use Rattle.history_text.proofs.HeadWritten.{sum_calls}
use Rattle.history_text.proofs.HistoryLawful.{lawful}
use Rattle.history_text.proofs.ShortEntries.{short}
use Rattle.driver.specs.BaseReader.{EntriesBehind, IsPlacedBehind}
use Rattle.driver.specs.inner.BaseReader.{HeadRead, IsLineTaken, AreLinesRead, lines_known}
use Rattle.driver.proofs.ReadingAhead.{all_kept, fault_ahead, header_ahead, header_kept, kept, left_of, reading_fault}

-- nothing of a short line was let go of
pub short_kept : (old window : List ℕ) (left after : Option (List ℕ)) → StaysAhead old left window after →
    HasShortLine window → Keeps (prepend_known old left) (prepend_known window after)
short_kept old window left after s line = all_kept old window line.line line.after left after s line.parts
    line.few

module _ (read : LinesRead) (old window : List ℕ) (left after : Option (List ℕ))
    (s : StaysAhead old left window after) where
  -- a line is taken up
  pub line_taken : (new : LinesRead) (n : ℕ) → IsBaseLineTaken read window (Ok (Some n)) new →
      HasShortLine window → (text : Option (List ℕ)) (h : Head) → h.is_based ≡ true → h.header ≡ read.header →
      AreLinesRead text h (map Based read.lines) old left →
      AreLinesRead text h (map Based new.lines) (drop (length window - n) window) after
  line_taken new n taken line text h is_based header were =
      by text after (kept history_form text (lines_known h (map Based read.lines)) (prepend_known old left)
      (prepend_known window after) (map Based read.lines) (short_kept old window left after s line) were)
    where
      by : (text after : Option (List ℕ)) → AreLinesRead text h (map Based read.lines) window after →
          AreLinesRead text h (map Based new.lines) (drop (length window - n) window) after
      by None after were = tt
      by (Some t) None were = absurd were
      by (Some t) (Some more) were =
          let ahead = taken.2.1 in
          let x = taken.0 in
          let last = last_bytes window (ended (base_line x)) ahead.0 n ahead.1 ahead.2 in
          let good = subst (λ (k : Header). GoodBeginsSo k (read.lines ++ x ∷ [])) (sym header) taken.2.0 in
          record {
            begins = line_begins t h is_based read.lines new.lines (window ++ more) (ahead.0 ++ more)
                (drop (length window - n) window ++ more) x were.begins good
                (ap (λ (w : List ℕ). w ++ more) ahead.1 ∙ append_assoc (ended (base_line x)) ahead.0 more)
                taken.1 (ap (λ (w : List ℕ). w ++ more) last);
            count = refl;
            known = refl;
          }

  -- a fault of the next line
  pub line_failed : (new : LinesRead) (grown : List ℕ) (fault : TextFault) →
      IsBaseLineNext read window (Err fault) → (fault ≡ CutShort → IsAtEnd after) →
      IsLineTaken read old left (Err (Text fault)) new grown after
  line_failed new grown fault is end = λ text h is_based header were.
      fault_ahead history_form text (lines_known h (map Based read.lines)) old window left after
      (map Based read.lines) fault lawful short s
      (λ t items begun. is t h is_based header
      (subst (λ (l : List Line). Begins history_form t h l window) begun.known begun.begins)) end were

-- a fault of reading
pub line_unread : (read new : LinesRead) (old grown : List ℕ) (left after : Option (List ℕ))
    (fault : StreamFault) → IsOfReading fault → (fault ≡ Memory → IfSome left IsTooLong) →
    IsLineTaken read old left (Err fault) new grown after
line_unread read new old grown left after fault of long = λ text h is_based header were.
    reading_fault history_form text left after fault of long
    (left_of history_form text (lines_known h (map Based read.lines)) old left (map Based read.lines) were)

-- ---- the whole base was read

module _ (h : Head) (based_so : h.is_based ≡ true) (b : Base) (xs : List BaseLine) (is : IsToldBase
    h.header b)
    (lines : base_lines b ≡ xs) where
  pub base_read : (window : List ℕ) (after : Option (List ℕ)) → LacksBaseLine window → HasShortLine window →
      (text : Option (List ℕ)) → AreLinesRead text h (map Based xs) window after →
      EntriesBehind text h b [] (place_behind b xs) window after
  base_read window after none s None were = tt
  base_read window None none s (Some t) were = absurd were
  base_read window (Some ys) none s (Some t) were =
      whole_begins t h based_so xs (window ++ ys) b is lines were.begins
      (λ line after x parts whole spelt same.
      let first =
      same_lines line s.line after (s.after ++ ys) (lacks line whole) (lacks s.line s.whole)
      (sym parts ∙ ap (λ (w : List ℕ). w ++ ys) s.parts ∙ append_assoc s.line (10 ∷ s.after) ys) in
      none s.line s.after x s.parts s.whole spelt (sym first.0 ∙ same))

  pub base_placed : length xs ≤ MOST_LINES → IsPlacedBehind b (place_behind b xs)
  base_placed few =
      record { lines = omega (arith, few); folded = refl; count = refl; calls = sum_calls b is.good }

-- ---- the first line

-- it is in the window, and this many bytes after it
pub head_ahead : (text left : Option (List ℕ)) (h : Head) (window after : List ℕ) →
    Begins history_form window h [] after → StaysAhead [] text window left →
    HeadRead text h (drop (length window - length after) window) left
head_ahead text left h window after begun s =
    header_ahead history_form text (lines_known h []) window after left
    (record { begins = begun; count = refl; known = refl })
    (header_kept history_form h window after text left short begun s)

-- the base begins with the head that stands before it
pub beginning_read : (text : Option (List ℕ)) (h : Head) (k : Header) (base : Option Base) (p : Place)
    (bytes : List ℕ) (left : Option (List ℕ)) → k ≡ h.header →
    EntriesBehind text h (or_opening h.header base) [] p bytes left →
    EntriesBehind text (head_of (or_opening k base)) (or_opening k base) [] p bytes left
beginning_read None h k base p bytes left same were = tt
beginning_read (Some t) h k base p bytes None same were = absurd were
beginning_read (Some t) h k base p bytes (Some more) same were =
    subst (λ (z : Header). AreEntriesRead t (head_of (or_opening z base)) (or_opening z base) [] p
    (bytes ++ more))
    (sym same)
    (subst (λ (z : Head). AreEntriesRead t z (or_opening h.header base) [] p (bytes ++ more))
    (sym were.history.head) were)

-- what a reader has after a base is small
pub few_after : (k : Header) (b : Base) (p : Place) → IsBaseOf k b → IsPlacedBehind b p →
    (p.calls ≤ MOST_FOLDED) × (p.folded ≤ MOST_FOLDED)
few_after k b p of placed =
    let opened = ap (λ (s : Start). s.calls) (based_opening k) in (
      grind (arith, placed.calls, of.1, opened),
      grind (arith, placed.folded, of.1),
    )
