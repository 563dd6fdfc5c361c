-- Entries are read behind a base, one after another.
use Rattle.std.proofs.Common.{◌≡◌, ℕ, ◌+◌, ◌<◌, List, [], ◌∷◌, ◌++◌, length, Ok, None, Some, refl, sym, ap, subst, ◌∙◌, arith, length-append}
use Rattle.history_text.specs.Below.{Entry, Base, ended, Begins, Header, IsBaseOf}
use Rattle.streams.proofs.Growing.{broken, one_more}
use Rattle.history_text.specs.Prelude.{Head, Place, entry_line, IsHistoryText, history_form, AreEntriesRead, IsEntryBehind, behind, Entered, calls_told, lines_on, sum_of}
use Rattle.history_text.proofs.HistoryItems.{ends_on, entry_item, on_push, one_entry, sum-append}

module _ (text : List ℕ) (h : Head) (b : Base) (es : List Entry) (p : Place) (rest : List ℕ)
    (read : AreEntriesRead text h b es p rest) where
  pub read_all : IsEntryBehind h.header p rest (Ok None) → IsHistoryText text b es
  read_all is =
      let end = ends_on b es (p.folded + p.count) p.calls (omega (arith, read.place.folded, read.place.count))
      read.place.calls in
      record {
        base = subst (λ (k : Header). IsBaseOf k b) (sym read.history.base.0) read.history.base;
        is = rw read.history.head (record {
          begins = subst (Begins history_form text h (lines_on b es))
              (is ∙ ap (λ (t : List ℕ). ended t) end) read.begins;
          ends = (b, es, read.history, refl);
        });
      }

  pub read_one : (e : Entry) (left : ℕ) (after : List ℕ) → p.count < h.header.cap →
      IsEntryBehind h.header p rest (Ok (Some (e, left))) →
      rest ≡ ended (entry_line (p.folded + p.count) e) ++ after →
      AreEntriesRead text h b (es ++ e ∷ []) (behind p e) after
  read_one e left after few is parts =
      let n = p.folded + p.count in
      let number : b.entries + length es ≡ n = omega (arith, read.place.folded, read.place.count) in
      let room : length es < h.header.cap = omega (arith, few, read.place.count) in
      let items = on_push b es e in
      let line : rest ≡ entry_line (b.entries + length es) e ++ 10 ∷ after =
      parts ∙ broken (entry_line n e) after
      ∙ ap (λ (k : ℕ). entry_line k e ++ 10 ∷ after) (sym number) in
      record {
        history = one_entry h b es e read.history room is.0;
        begins = rw items (one_more history_form text h (lines_on b es) rest
            (entry_line (b.entries + length es) e) after (Entered (b.entries + length es) e) read.begins line
            (entry_item h b es e read.history room is.0) refl);
        place = record {
          lines = read.place.lines;
          folded = read.place.folded;
          count = omega (arith, read.place.count, length-append es (e ∷ []));
          calls = omega (arith, read.place.calls, ap (sum_of calls_told) items, sum-append calls_told);
        };
        behind = λ based none. absurd (some es none);
      }
    where
      some : (xs : List Entry) → xs ++ e ∷ [] ≡ [] → ⊥
      some [] q = cc
      some (x ∷ xs) q = cc
