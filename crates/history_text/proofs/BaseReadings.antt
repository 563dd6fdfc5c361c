-- A line of a base that is read may come next, or is bad.
use Rattle.std.proofs.Common.{◌≡◌, ◌≢◌, ℕ, ◌+◌, ◌≤◌, true, List, [], ◌∷◌, ◌++◌, length, map, Err, sym, ap, subst, ◌∙◌, arith, inl}
use Rattle.std.proofs.lemmas.List.{length-map}
use Rattle.history_text.specs.Below.{IsInRange, HasNoBreak, BadLine, Begins, IsReading}
use Rattle.streams.proofs.OneReading.{lacks, same_lines}
use Rattle.history_text.specs.Prelude.{BaseLine, Head, IsBaseLine, base_line, history_form, IsBaseLineNext, LacksBaseLine, LinesRead, Based, Entered, Line, SomeBeginsSo, line_text, GoodBeginsSo, GoodHas, SomeHas, end_of}
use Rattle.history_text.proofs.BaseLineLemmas.{base_no_end, base_no_entry, same_base_line}
use Rattle.history_text.proofs.HistoryItems.{good_whole, next_based, next_entry, same_based}
use Rattle.history_text.proofs.ShortEntries.{short}
use Rattle.history_text.proofs.HistoryLawful.{ended_fit, number_fits, spelt_next}

module _ (read : LinesRead) (rest line after : List ℕ) (parts : rest ≡ line ++ 10 ∷ after)
    (whole : HasNoBreak line) where
  -- a line of a base with which no good one begins
  told_not : (x : BaseLine) (h : Head) → IsInRange h.header → h.header ≡ read.header → IsBaseLine x →
      line ≡ base_line x → (GoodBeginsSo read.header (read.lines ++ x ∷ []) → ⊥)
      → (y : Line) → SomeBeginsSo h (map Based read.lines ++ y ∷ []) → line ≢ line_text y
  told_not x h range header spelt is not (Based y) begins = λ same.
      let one : y ≡ x =
      same_base_line y x (spelt_next h (map Based read.lines) y range begins) spelt (sym same ∙ is) in
      let next = next_based h (map Based read.lines) y begins in
      let lines : next.xs ++ y ∷ [] ≡ read.lines ++ x ∷ [] =
      ap (λ (l : List BaseLine). l ++ y ∷ []) (sym (same_based read.lines next.xs next.lines))
      ∙ ap (λ (z : BaseLine). read.lines ++ z ∷ []) one in
      not (subst (λ k. GoodBeginsSo k (read.lines ++ x ∷ [])) header
      (subst (GoodBeginsSo h.header) lines next.good))
  told_not x h range header spelt is not (Entered m e) begins = λ same.
      let fits = number_fits h (map Based read.lines) m e range begins in
      base_no_entry x h.header m e spelt fits.0 range fits.1 (sym is ∙ same)

  bad_line : (text : List ℕ) (h : Head) → Begins history_form text h (map Based read.lines) rest →
      ((y : Line) → SomeBeginsSo h (map Based read.lines ++ y ∷ []) → line ≢ line_text y) →
      (SomeHas h (map Based read.lines) → line ≢ end_of (map Based read.lines)) →
      IsReading history_form text (Err (BadLine (length read.lines + 2)))
  bad_line text h begun no_item no_end =
      inl (
        h,
        map Based read.lines,
        line,
        after,
        subst (Begins history_form text h (map Based read.lines)) parts begun,
        record { whole = whole; no_item = no_item; no_end = no_end },
        omega (arith, length-map read.lines Based),
      )

  pub bad_told : (x : BaseLine) → IsBaseLine x → line ≡ base_line x →
      (GoodBeginsSo read.header (read.lines ++ x ∷ []) → ⊥) →
      IsBaseLineNext read rest (Err (BadLine (length read.lines + 2)))
  bad_told x spelt is not = λ text h based header begun.
      bad_line text h begun (told_not x h begun.header header spelt is not)
      (λ has same. let fit = ended_fit h (map Based read.lines) begun.header has in
      base_no_end x _ _ spelt fit.0 fit.1 (sym is ∙ same))

  -- a line that is none of a base, behind lines that are not all of a good one
  other_not : (h : Head) → IsInRange h.header → h.is_based ≡ true → h.header ≡ read.header
      → ((x : BaseLine) → IsBaseLine x → line ≢ base_line x) → (GoodHas read.header read.lines → ⊥)
      → (y : Line) → SomeBeginsSo h (map Based read.lines ++ y ∷ []) → line ≢ line_text y
  other_not h range based header none not (Based y) begins =
      none y (spelt_next h (map Based read.lines) y range begins)
  other_not h range based header none not (Entered m e) begins = λ same.
      let next = next_entry h (map Based read.lines) m e begins in
      not (subst (λ k. GoodHas k read.lines) header
      (good_whole h next.base next.entries read.lines based next.of (sym next.lines)))

  pub bad_other : ((x : BaseLine) → IsBaseLine x → line ≢ base_line x) →
      (GoodHas read.header read.lines → ⊥) →
      IsBaseLineNext read rest (Err (BadLine (length read.lines + 2)))
  bad_other none not = λ text h based header begun.
      bad_line text h begun (other_not h begun.header based header none not)
      (λ has same. not (subst (λ k. GoodHas k read.lines) header
      (good_whole h has.0 has.1 read.lines based has.2 has.3)))

  -- a line that is longer than any good one
  pub bad_long : 256 ≤ length line → IsBaseLineNext read rest (Err (BadLine (length read.lines + 2)))
  bad_long long = λ text h based header begun.
      bad_line text h begun
      (λ y begins same. omega (
        arith,
        long,
        short.item h (map Based read.lines) y begun.header begun.each begins,
        ap length same,
      ))
      (λ has same. omega (
        arith,
        long,
        short.end h (map Based read.lines) begun.header begun.each has,
        ap length same,
      ))

  pub lacks_line : ((x : BaseLine) → IsBaseLine x → line ≢ base_line x) → LacksBaseLine rest
  lacks_line none = λ l a x p w spelt same.
      let one = same_lines line l after a (lacks line whole) (lacks l w) (sym parts ∙ p) in
      none x spelt (one.0 ∙ same)
