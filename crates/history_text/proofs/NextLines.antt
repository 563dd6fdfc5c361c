-- What the next line of a history text says, behind its base.
use Rattle.std.proofs.Common.{◌≡◌, ◌≢◌, ℕ, ◌+◌, ◌<◌, Bool, true, false, eqb, List, [], ◌∷◌, ◌++◌, length, Ok, Err, None, refl, sym, ap, subst, ◌∙◌, arith, inl, inr, codes}
use Rattle.std.proofs.lemmas.Bool.{eqb-false}
use Rattle.std.proofs.lemmas.List.{nil_from_length}
use Rattle.history_text.specs.Below.{Entry, Header, Base, IsInRange, part_of, HasNoBreak, ended, TextFault, BadHeader, BadLine, CutShort, Begins, IsReading}
use Rattle.streams.specs.HeaderLine.{LacksHeader}
use Rattle.streams.proofs.Growing.{at_end}
use Rattle.streams.proofs.OneReading.{lacks, no_line, same_lines}
use Rattle.history_text.specs.Prelude.{Head, Place, HasLine, counts_line, entry_line, name_of, history_form, AreEntriesRead, IsEntryBehind, Based, Entered, Line, SomeBeginsSo, end_of, line_text, lines_on}
use Rattle.history_text.proofs.HistoryItems.{ends_on, entries_again, entries_of, entries_on, length-on, next_based, next_entry, none_behind}
use Rattle.history_text.proofs.HistoryLawful.{good_line, numbered_so}

-- ---- the first line

-- a first line that is no header's behind either name
pub both_lack : (text : List ℕ) (f g : TextFault) → LacksHeader (codes "aqs-history 1 ") text f →
    LacksHeader (codes "aqs-history 2 ") text g → IsReading history_form text (Err g)
both_lack text f CutShort p q = inl q
both_lack text CutShort BadHeader p q = absurd (no_line q.0 q.1 text (lacks text p) q.2)
both_lack text BadHeader BadHeader p q = (
  q.0,
  q.1,
  q.2,
  q.3,
  λ h range. by h.is_based h.header range,
)
  where
    line : p.0 ≡ q.0
    line = (same_lines p.0 q.0 p.1 q.1 (lacks p.0 p.3) (lacks q.0 q.3) (sym p.2 ∙ q.2)).0

    by : (based : Bool) (k : Header) → IsInRange k → q.0 ≢ name_of based ++ part_of k
    by true k range = q.4 k range
    by false k range = λ same. p.4 k range (line ∙ same)
both_lack text (BadLine n) BadHeader p q = absurd p
both_lack text f (BadLine n) p q = absurd q

-- ---- the lines behind a base

module _ (k : Header) (p : Place) (rest : List ℕ) where
  abbrev lines : ℕ
  lines = p.lines + p.count

  abbrev number : ℕ
  number = p.folded + p.count

  module _ (text : List ℕ) (h : Head) (b : Base) (es : List Entry) (read : AreEntriesRead text h b es p rest)
    where
      ends : counts_line number p.calls ≡ end_of (lines_on b es)
      ends = ends_on b es number p.calls (omega (arith, read.place.folded, read.place.count)) read.place.calls

      many : length (lines_on b es) ≡ lines
      many = omega (arith, length-on b es, read.place.lines, read.place.count)

  pub last_line : (line after : List ℕ) → rest ≡ line ++ 10 ∷ after → line ≡ counts_line number p.calls →
      length after ≡ 0 → IsEntryBehind k p rest (Ok None)
  last_line line after parts is none =
      parts ∙ ap (λ (t : List ℕ). line ++ 10 ∷ t) (nil_from_length after none)
      ∙ ap (λ (t : List ℕ). ended t) is

  pub behind_last : (line after : List ℕ) → rest ≡ line ++ 10 ∷ after → line ≡ counts_line number p.calls →
      eqb (length after) 0 ≡ false → IsEntryBehind k p rest (Err (BadLine (lines + 3)))
  behind_last line after parts is some = λ text h b es same read.
      inr (
        h,
        lines_on b es,
        after,
        at_end history_form text h (lines_on b es) rest line after read.begins parts
            (is ∙ ends text h b es read),
        (b, es, read.history, refl),
        (λ e. eqb-false _ _ some (ap length e)),
        omega (arith, many text h b es read),
      )

  -- no entry has this line
  abbrev pub IsNoEntry : List ℕ → Type 0
  IsNoEntry line = (e : Entry) → p.count < k.cap → HasLine k e → line ≢ entry_line number e

  no_item : (text : List ℕ) (h : Head) (b : Base) (es : List Entry) (line after : List ℕ) → h.header ≡ k →
      AreEntriesRead text h b es p rest → rest ≡ line ++ 10 ∷ after → HasNoBreak line → IsNoEntry line
      → (x : Line) → SomeBeginsSo h (lines_on b es ++ x ∷ []) → line ≢ line_text x
  no_item text h b es line after header read parts whole none (Based y) begins =
      let next = next_based h (lines_on b es) y begins in
      read.behind next.based (none_behind b es next.xs next.lines) line after y parts whole
      (good_line h.header next.xs y read.begins.header next.good)
  no_item text h b es line after header read parts whole none (Entered m e) begins = λ same.
      let next = next_entry h (lines_on b es) m e begins in
      let entries : es ≡ next.entries =
      sym (entries_again b es) ∙ ap entries_of next.lines ∙ entries_again next.base next.entries in
      let at : m ≡ number =
      numbered_so h (lines_on b es) m e begins
      ∙ omega (arith, entries_on b es, read.place.folded, read.place.count) in
      none e (omega (
        arith,
        next.room,
        ap length entries,
        read.place.count,
        ap (λ (z : Header). z.cap) header,
      )) (subst (λ (z : Header). HasLine z e) header next.line) (same ∙ ap (λ (z : ℕ). entry_line z e) at)

  pub bad_line : (line after : List ℕ) → rest ≡ line ++ 10 ∷ after → HasNoBreak line →
      line ≢ counts_line number p.calls → IsNoEntry line →
      IsEntryBehind k p rest (Err (BadLine (lines + 2)))
  bad_line line after parts whole no_end none = λ text h b es header read.
      inl (
        h,
        lines_on b es,
        line,
        after,
        subst (Begins history_form text h (lines_on b es)) parts read.begins,
        record {
          whole = whole;
          no_item = no_item text h b es line after header read parts whole none;
          no_end = λ has same. no_end (same ∙ sym (ends text h b es read));
        },
        omega (arith, many text h b es read),
      )
