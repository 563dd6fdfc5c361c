-- The lines of a base are read of a text, one after another.
use Rattle.std.proofs.Common.{◌≡◌, ℕ, ◌≤◌, true, List, [], ◌∷◌, ◌++◌, length, map, refl, sym, ap, subst, ◌∙◌, arith}
use Rattle.std.proofs.lemmas.List.{map-append}
use Rattle.history_text.specs.Below.{Base, MOST_FOLDED, ended, Begins}
use Rattle.streams.proofs.Growing.{broken, one_more}
use Rattle.history_text.specs.Prelude.{BaseLine, Head, Place, base_line, base_lines, calls_sum, history_form, AreEntriesRead, LacksBaseLine, Based, Line, GoodBeginsSo, IsToldBase}
use Rattle.history_text.proofs.HeadWritten.{sum_few}
use Rattle.history_text.proofs.HistoryItems.{alone_lines, base_alone, based_item, calls_on, told_some}

-- the place behind the lines of a base
abbrev pub place_behind : Base → List BaseLine → Place
place_behind b xs = record { lines = length xs; folded = b.entries; count = 0; calls = calls_sum b.seats }

module _ (text : List ℕ) (h : Head) (based : h.is_based ≡ true) where
  -- one line more
  pub line_begins : (xs new : List BaseLine) (rest after last : List ℕ) (x : BaseLine) →
      Begins history_form text h (map Based xs) rest → GoodBeginsSo h.header (xs ++ x ∷ []) →
      rest ≡ ended (base_line x) ++ after → new ≡ xs ++ x ∷ [] → last ≡ after →
      Begins history_form text h (map Based new) last
  line_begins xs new rest after last x begun good parts more same =
      rw (same, more, map-append Based xs (x ∷ [])) (one_more history_form text h (map Based xs) rest
      (base_line x) after (Based x) begun (parts ∙ broken (base_line x) after) (based_item h xs x based good) refl)

  -- the base was read whole
  pub whole_begins : (xs : List BaseLine) (rest : List ℕ) (b : Base) → IsToldBase h.header b →
      base_lines b ≡ xs → Begins history_form text h (map Based xs) rest → LacksBaseLine rest →
      AreEntriesRead text h b [] (place_behind b xs) rest
  whole_begins xs rest b is lines begun lacks =
      let calls = calls_on b [] (λ z. absurd (omega (arith, z, is.some))) in
      record {
        history = base_alone h b based is;
        begins = subst (λ (l : List Line). Begins history_form text h l rest)
            (ap (λ (l : List BaseLine). map Based l) (sym lines) ∙ sym (alone_lines h b is.some)) begun;
        place = record {
          lines = ap (λ (l : List BaseLine). length l) (sym lines ∙ sym (told_some b is.some));
          folded = refl;
          count = refl;
          calls = omega (arith, calls);
        };
        behind = λ q none. lacks;
      }

-- its numbers are small
pub told_few : (h : Head) (b : Base) → IsToldBase h.header b →
    (b.entries ≤ MOST_FOLDED) × (calls_sum b.seats ≤ MOST_FOLDED)
told_few h b is = (is.good.entries, omega (arith, sum_few b is.good, is.good.entries))
