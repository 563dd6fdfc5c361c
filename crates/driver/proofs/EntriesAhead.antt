-- The entries of a history text ahead of a reader's window.
use Rattle.std.proofs.Common.{◌≡◌, ℕ, ◌+◌, ◌-◌, ◌<◌, ◌≤◌, ◌^◌, List, [], ◌∷◌, ◌++◌, length, drop, Option, None, Some, Result, Ok, Err, IfSome, refl, sym, ap, subst, ◌∙◌, arith, append_assoc, append-nil, length-append}
use Rattle.std.specs.Io.KnownBytes.{Keeps, IsAtEnd, prepend_known}
use Rattle.driver.specs.Below.{Entry, Header, Base, MOST_FOLDED, IsInRange, ended, LINE_BYTES, TextFault, BadLine, CutShort, Begins, IsText, AreRead, SoFar, Head, Place, entry_line, head_of, IsHistoryText, history_form, AreEntriesRead, IsEntryBehind, LacksBaseLine, behind, Line, lines_on, StreamFault, Text, ReadFailed, WriteFailed, Memory, IsReadNoFurther, IsOfReading, IsTooLong, StaysAhead, room}
use Rattle.streams.proofs.Growing.{broken}
use Rattle.streams.proofs.LongLines.{uncut}
use Rattle.streams.proofs.UnderWay.{last_bytes}
use Rattle.history_text.proofs.BaseLineLemmas.{base_short}
use Rattle.history_text.proofs.EntriesRead.{read_all, read_one}
use Rattle.history_text.proofs.HistoryItems.{length-on}
use Rattle.history_text.proofs.HistoryLawful.{lawful}
use Rattle.history_text.proofs.ShortEntries.{entry_short, short, waiting_short}
use Rattle.streams.specs.Window.{IsAhead}
use Rattle.driver.specs.BaseReader.{EntriesBehind}
use Rattle.driver.specs.inner.BaseReader.{AreLinesRead, lines_known}
use Rattle.driver.specs.Prelude.{EntriesHeld, EntriesRead, IsEntryNext, base_held, IsFaultOf, reader_at}
use Rattle.driver.specs.inner.TextReader.{IsAfterEnd}
use Rattle.driver.proofs.ReadingAhead.{all_kept, ended_here, fault_ahead, left_of, no_further, reading_fault}

-- ---- the lines of a base

-- where what is ahead begins with no line of a base, no window on it does
pub front_lacks : (window more : List ℕ) → LacksBaseLine (window ++ more) → LacksBaseLine window
front_lacks window more lacks = λ line after x parts whole is.
    lacks line (after ++ more) x
    (ap (λ (t : List ℕ). t ++ more) parts ∙ append_assoc line (10 ∷ after) more) whole is

pub window_lacks : (ahead window ys : List ℕ) → IsAhead ahead window ys → LacksBaseLine ahead →
    LacksBaseLine window
window_lacks ahead window ys s lacks = λ line after x parts whole is same.
    let few : length line < LINE_BYTES = omega (
      arith,
      ap length same,
      base_short x is (λ p fits. waiting_short p p.who.back fits.1),
    ) in
    let all = uncut LINE_BYTES s.line s.rest line after s.one_line few (sym s.seen ∙ parts) in
    let there : s.line ++ s.rest ≡ line ++ 10 ∷ after =
    ap (λ (t : List ℕ). t ++ s.rest) (sym all) ∙ sym s.seen ∙ parts in
    lacks line (after ++ ys) x
    (s.parts ∙ sym (append_assoc s.line s.rest ys) ∙ ap (λ (t : List ℕ). t ++ ys) there
    ∙ append_assoc line (10 ∷ after) ys) whole is same

-- ---- where a reader stands

-- what is known of the lines that were read
abbrev here : Head → Base → List Entry → SoFar Head Line
here h b es = lines_known h (lines_on b es)

all_known : (t : List ℕ) (h : Head) (b : Base) (es : List Entry) (p : Place) (rest : List ℕ) →
    AreEntriesRead t h b es p rest → AreRead history_form t (here h b es) (lines_on b es) rest
all_known t h b es p rest read = record { begins = read.begins; count = refl; known = refl }

module _ (h : Head) (b : Base) (es : List Entry) (p : Place) where
  pub entries_kept : (text : Option (List ℕ)) (old new : List ℕ) (left after : Option (List ℕ)) →
      Keeps (prepend_known old left) (prepend_known new after) → EntriesBehind text h b es p old left →
      EntriesBehind text h b es p new after
  entries_kept text old new left after keeps were = grind arith

  -- the lines are those of the base and the entries
  lines_read : (text : Option (List ℕ)) (window : List ℕ) (left : Option (List ℕ)) →
      EntriesBehind text h b es p window left → AreLinesRead text h (lines_on b es) window left
  lines_read None window left were = tt
  lines_read (Some t) window None were = absurd were
  lines_read (Some t) window (Some xs) were = all_known t h b es p (window ++ xs) were

  -- no line was read but these, and what stands in the window
  pub entries_no_further : (text : Option (List ℕ)) (window : List ℕ) (left : Option (List ℕ)) →
      length window ≤ room → EntriesBehind text h b es p window left → IsReadNoFurther history_form text left
  entries_no_further text window left few were =
      no_further history_form text (here h b es) window left (lines_on b es) few
      (lines_read text window left were)

  -- ---- the next entry

  -- the same of other bytes ahead
  read_with : (t u : List ℕ) (ahead window : List ℕ) (items : List Line) →
      (LacksBaseLine ahead → LacksBaseLine window) → AreEntriesRead t h b es p ahead →
      AreRead history_form u (here h b es) items window → AreEntriesRead u h b es p window
  read_with t u ahead window items on were read =
      record {
        history = were.history;
        begins = subst (λ (l : List Line). Begins history_form u h l window) read.known read.begins;
        place = were.place;
        behind = λ based none. on (were.behind based none);
      }

  -- the fault of the next line, of which bytes may have been let go of
  pub entry_fault : (text : Option (List ℕ)) (old window : List ℕ) (left after : Option (List ℕ))
      (fault : TextFault) → StaysAhead old left window after →
      IsEntryBehind h.header p window (Err fault) → (fault ≡ CutShort → IsAtEnd after) →
      EntriesBehind text h b es p old left → IsFaultOf history_form text after (Text fault)
  entry_fault None old window left after fault s is end were = (tt, tt)
  entry_fault (Some t) old window None after fault s is end were = absurd were
  entry_fault (Some t) old window (Some xs) None fault s is end were = absurd s
  entry_fault (Some t) old window (Some xs) (Some ys) fault s is end were =
      fault_ahead history_form (Some t) (here h b es) old window (Some xs) (Some ys) (lines_on b es) fault
      lawful short s
      (λ u items read. is u h b es refl
      (read_with t u (old ++ xs) window items (window_lacks (old ++ xs) window ys s) were read)) end
      (all_known t h b es p (old ++ xs) were)

  -- it is in the window, and this many bytes after it
  pub entry_here : (text : Option (List ℕ)) (window : List ℕ) (left : Option (List ℕ)) (e : Entry) (n : ℕ) →
      p.count < h.header.cap → IsEntryBehind h.header p window (Ok (Some (e, n))) →
      EntriesBehind text h b es p window left →
      EntriesBehind text h b (es ++ e ∷ []) (behind p e) (drop (length window - n) window) left
  entry_here None window left e n few is were = tt
  entry_here (Some t) window None e n few is were = absurd were
  entry_here (Some t) window (Some more) e n few is were =
      let line = ended (entry_line (p.folded + p.count) e) in
      let ahead = is.1 in
      let parts = ap (λ (w : List ℕ). w ++ more) ahead.1 ∙ append_assoc line ahead.0 more in
      let last = last_bytes window line ahead.0 n ahead.1 ahead.2 in
      subst (λ (w : List ℕ). AreEntriesRead t h b (es ++ e ∷ []) (behind p e) (w ++ more)) (sym last)
      (read_one t h b es p (window ++ more) were e (n + length more) (ahead.0 ++ more) few
      (is.0, (ahead.0 ++ more, parts, length-append ahead.0 more ∙ ap (λ (m : ℕ). m + length more) ahead.2))
      parts)

  -- ---- after the last

  last_here : (t u : List ℕ) (ahead window : List ℕ) (items : List Line) →
      (LacksBaseLine ahead → LacksBaseLine window) → IsEntryBehind h.header p window (Ok None) →
      AreEntriesRead t h b es p ahead → AreRead history_form u (here h b es) items window →
      IsText history_form u h items
  last_here t u ahead window items on is were read =
      let all = read_all u h b es p window (read_with t u ahead window items on were read) is in
      subst (IsText history_form u h) (sym read.known)
      (subst (λ (z : Head). IsText history_form u z (lines_on b es)) were.history.head all.is)

  pub all_here : (text : Option (List ℕ)) (window : List ℕ) (left : Option (List ℕ)) →
      IsEntryBehind h.header p window (Ok None) → IsAtEnd left → EntriesBehind text h b es p window left →
      IfSome text (λ t. IsHistoryText t b es)
  all_here None window left is end were = tt
  all_here (Some t) window None is end were = absurd were
  all_here (Some t) window (Some more) is end were =
      read_all t h b es p window
      (subst (AreEntriesRead t h b es p) (ap (λ (m : List ℕ). window ++ m) end ∙ append-nil window) were) is

  pub fault_after : (text : Option (List ℕ)) (window grown : List ℕ) (left after : Option (List ℕ))
      (fault : TextFault) → IsEntryBehind h.header p window (Ok None) →
      IsAfterEnd {I = Entry} (p.lines + p.count) left (Err (Text fault)) →
      Keeps (prepend_known window left) (prepend_known grown after) → EntriesBehind text h b es p window
      left →
      IsFaultOf history_form text after (Text fault)
  fault_after None window grown left after fault is end keeps were = (tt, tt)
  fault_after (Some t) window grown None after fault is end keeps were = absurd were
  fault_after (Some t) window grown (Some more) after fault is end keeps were =
      let many : p.lines + p.count ≡ length (lines_on b es) =
      omega (arith, length-on b es, were.place.lines, were.place.count) in
      ended_here history_form (here h b es) window grown (Some more) after (Err (Text fault))
      (reader_at (here h b es) grown after)
      (λ u items read. last_here t u (window ++ more) window items (front_lacks window more) is were read)
      (end.0 ∙ ap (λ (n : ℕ). BadLine (n + 3)) many, end.1) keeps (Some t) (lines_on b es)
      (all_known t h b es p (window ++ more) were)

-- nothing before an entry that was found was let go of
pub entry_keeps : (k : Header) (p : Place) (old window : List ℕ) (left after : Option (List ℕ))
    (e : Entry) (n : ℕ) → IsInRange k → p.folded + p.count < 2 ^ 64 → StaysAhead old left window after →
    IsEntryBehind k p window (Ok (Some (e, n))) →
    Keeps (prepend_known old left) (prepend_known window after)
entry_keeps k p old window left after e n range few s is =
    let line = entry_line (p.folded + p.count) e in
    all_kept old window line is.1.0 left after s (is.1.1 ∙ broken line is.1.0)
    (entry_short k (p.folded + p.count) e few range is.0)

-- the numbers of a reader are small
pub few_entries : (h : Header) (p : Place) → IsInRange h → p.count ≤ h.cap → p.folded ≤ MOST_FOLDED →
    p.folded + p.count < 2 ^ 64
few_entries h p range few folded = omega (arith, range.cap, few, folded)

pub few_calls : (h : Header) (p : Place) → IsInRange h → p.count ≤ h.cap → p.calls ≤ MOST_FOLDED + p.count →
    p.calls < 2 ^ 64
few_calls h p range few calls = omega (arith, range.cap, few, calls)

-- ---- what a call answers

-- after the end line
pub entries_ended : (old new : EntriesHeld) (window grown : List ℕ) (left mid after : Option (List ℕ))
    (r : Result (Option Entry) StreamFault) → (base_held old).header ≡ old.header →
    Keeps (prepend_known old.bytes left) (prepend_known window mid) →
    IsEntryBehind old.header old.place window (Ok None) →
    IsAfterEnd (old.place.lines + old.place.count) mid r →
    Keeps (prepend_known window mid) (prepend_known grown after) → IsEntryNext old left r new after
entries_ended old new window grown left mid after (Ok (Some e)) same was is end keeps = absurd end
entries_ended old new window grown left mid after (Ok None) same was is end keeps = λ text es were.
    let b = base_held old in
    all_here (head_of b) b es old.place text window mid
    (subst (λ (k : Header). IsEntryBehind k old.place window (Ok None)) (sym same) is) end
    (entries_kept (head_of b) b es old.place text old.bytes window left mid was were)
entries_ended old new window grown left mid after (Err (Text fault)) same was is end keeps = λ text es were.
    let b = base_held old in
    fault_after (head_of b) b es old.place text window grown mid after fault
    (subst (λ (k : Header). IsEntryBehind k old.place window (Ok None)) (sym same) is) end keeps
    (entries_kept (head_of b) b es old.place text old.bytes window left mid was were)
entries_ended old new window grown left mid after (Err ReadFailed) same was is end keeps = λ text es were. tt
entries_ended old new window grown left mid after (Err Memory) same was is end keeps = absurd end
entries_ended old new window grown left mid after (Err WriteFailed) same was is end keeps = absurd end

-- a fault of reading
pub entries_read_failed : (old new : EntriesHeld) (left after : Option (List ℕ)) (fault : StreamFault) →
    IsOfReading fault → (fault ≡ Memory → IfSome left IsTooLong) → IsEntryNext old left (Err fault) new after
entries_read_failed old new left after fault of long = λ text es were.
    let b = base_held old in
    let so_far = here (head_of b) b es in
    reading_fault history_form text left after fault of long
    (left_of history_form text so_far old.bytes left (lines_on b es)
    (lines_read (head_of b) b es old.place text old.bytes left were))

-- a fault of the next line
pub entry_failed : (old new : EntriesHeld) (window : List ℕ) (left after : Option (List ℕ))
    (fault : TextFault) → (base_held old).header ≡ old.header → StaysAhead old.bytes left window after →
    IsEntryBehind old.header old.place window (Err fault) → (fault ≡ CutShort → IsAtEnd after) →
    IsEntryNext old left (Err (Text fault)) new after
entry_failed old new window left after fault same s is end = λ text es were.
    let b = base_held old in
    entry_fault (head_of b) b es old.place text old.bytes window left after fault s
    (subst (λ (k : Header). IsEntryBehind k old.place window (Err fault)) (sym same) is) end were

-- ---- from the base on

-- after the base, these entries were read
abbrev pub EntriesOn : EntriesHeld → Option (List ℕ) → List Entry → EntriesHeld → Option (List ℕ) → Type 0
EntriesOn first left es now after =
    (text : Option (List ℕ)) → EntriesRead text first left [] → EntriesRead text now after es

-- after these entries no further line was read, except for what is in the window
pub entries_memory : (first now : EntriesHeld) (es : List Entry) (left after : Option (List ℕ)) →
    length now.bytes ≤ room → EntriesOn first left es now after → (text : Option (List ℕ)) →
    EntriesRead text first left [] → IsReadNoFurther history_form text after
entries_memory first now es left after few read text were =
    entries_no_further (head_of (base_held now)) (base_held now) es now.place text now.bytes after few
    (read text were)

-- the reader gave no more, and stands where it stood
pub entries_memory_at_end : (first old new : EntriesHeld) (es : List Entry)
    (left mid after : Option (List ℕ)) →
    length new.bytes ≤ room → Keeps (prepend_known old.bytes mid) (prepend_known new.bytes after) →
    EntriesOn first left es old mid → (text : Option (List ℕ)) → EntriesRead text first left [] →
    IsReadNoFurther history_form text after
entries_memory_at_end first old new es left mid after few keeps read text were =
    let b = base_held old in
    entries_no_further (head_of b) b es old.place text new.bytes after few
    (entries_kept (head_of b) b es old.place text old.bytes new.bytes mid after keeps (read text were))
