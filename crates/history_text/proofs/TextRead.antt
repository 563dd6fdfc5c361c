-- A text is read whole: its first line, the lines of its base, and its entries.
use Rattle.std.proofs.Common.{◌≡◌, ℕ, ◌-◌, false, ltb, ap, None, List, [], ◌++◌, length, drop, take, Result, Ok, Err, subst, sym, ◌∙◌, Option}
use Rattle.std.proofs.lemmas.Bool.{false≢true}
use Rattle.std.proofs.lemmas.List.{append_cancel_left}
use Rattle.std.specs.Result.{IsErr, IsErrAnd}
use Rattle.history_text.specs.Below.{Header, Base, HistoryView, or_opening, ended, ReadFault, lines_of, Begins}
use Rattle.streams.specs.declared.fault.ReadFault.TheVariants.{OutOfMemory, Text}
use Rattle.streams.proofs.UnderWay.{left_over}
use Rattle.history_text.specs.Prelude.{Head, Place, head_line, lines_on, Reads, history_form, AreEntriesRead, IsBaseAhead}
use Rattle.history_text.specs.inner.NextLine.{AreAllRead}

module _ (text ahead : List ℕ) (h : Head) (begun : Begins history_form text h [] ahead) where
  -- the base has a fault, and so has the text
  pub base_failed : (r : Result (Header × HistoryView) ReadFault) (fault : ReadFault) →
      IsErr r × IsErrAnd r (λ e. e ≡ fault) → IsBaseAhead h ahead (Err fault) → Reads text r
  base_failed (Ok read) fault passed is = absurd (false≢true passed.0)
  base_failed (Err e) (Text f) passed is = subst (λ x. Reads text (Err x)) (sym passed.1) (is text begun)
  base_failed (Err e) OutOfMemory passed is = subst (λ x. Reads text (Err x)) (sym passed.1) tt

  module _ (base : Option Base) (p : Place) (left : ℕ)
      (found : (rest : List ℕ) × (length rest ≡ left)
      × AreEntriesRead text h (or_opening h.header base) [] p rest) where
    abbrev last : List ℕ
    last = take (length ahead - (length ahead - left)) (drop (length ahead - left) ahead)

    -- the last bytes are those behind the lines of the base
    pub behind_base : AreEntriesRead text h (or_opening h.header base) [] p last
    behind_base =
        let front = lines_of history_form (lines_on (or_opening h.header base) []) in
        let parts = append_cancel_left (ended (head_line h)) ahead (front ++ found.0)
        (sym begun.parts ∙ found.2.begins.parts) in
        subst (AreEntriesRead text h (or_opening h.header base) [] p)
        (sym (left_over ahead front found.0 left parts found.1)) found.2

    -- the entries have a fault, and so has the text
    pub entries_failed : (fault : ReadFault) → AreAllRead h base last p (Err fault) → Reads text (Err fault)
    entries_failed (Text f) is = is text behind_base
    entries_failed OutOfMemory is = tt

-- what stands on no entry has no base
pub unfolded : (text rest : List ℕ) (h : Head) (base : Option Base) (p : Place) →
    AreEntriesRead text h (or_opening h.header base) [] p rest → (h.is_based ≡ false → base ≡ None) →
    (or_opening h.header base).entries ≡ 0 → base ≡ None
unfolded text rest h base p read none zero =
    none (sym (ap (λ (g : Head). g.is_based) read.history.head) ∙ ap (λ (n : ℕ). ltb 0 n) zero)
