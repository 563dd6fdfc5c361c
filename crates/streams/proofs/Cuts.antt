-- Each proper beginning of a text of a lawful form is cut short.
use Rattle.std.proofs.Common.{◌≡◌, ◌≢◌, ℕ, List, [], ◌∷◌, ◌++◌, refl, sym, ap, ◌∙◌, inl, inr, ◌⊎◌, ⊎_elim}
use Rattle.std.proofs.lemmas.List.Elements.{All-from_recursion}
use Rattle.history.specs.Text.{HasNoBreak, ended}
use Rattle.streams.specs.Form.{Form, lines_of, AreItems}
use Rattle.streams.specs.Reading.{IsText, IsCutShort}
use Rattle.streams.proofs.Lawful.{Lacks, IsLawful, Stand}
use Rattle.streams.proofs.Growing.{broken}
use Rattle.streams.proofs.Lists.{head_is, tail_is}
use Rattle.streams.proofs.OneReading.{first_line, one_further}

pub line_from : (xs : List ℕ) → Lacks xs → HasNoBreak xs
line_from xs h = All-from_recursion _ xs h

-- the front ends within the first line, or behind its break
abbrev Cut : List ℕ → List ℕ → List ℕ → List ℕ → Type 0
Cut line rest front more =
    Lacks front ⊎ ((after : List ℕ) × (front ≡ line ++ 10 ∷ after) × (after ++ more ≡ rest))

cut_more : (y x : ℕ) (l rest f more : List ℕ) → y ≢ 10 → x ≡ y → Cut l rest f more →
    Cut (y ∷ l) rest (x ∷ f) more
cut_more y x l rest f more other same (inl p) = inl ((λ e. other (sym same ∙ e)), p)
cut_more y x l rest f more other same (inr p) = inr (p.0, rw (same, p.1) refl, p.2)

cut_at : (line rest front more : List ℕ) → Lacks line → front ++ more ≡ line ++ 10 ∷ rest →
    Cut line rest front more
cut_at line rest [] more q e = inl tt
cut_at [] rest (x ∷ f) more q e = inr (f, ap (λ (b : ℕ). b ∷ f) (head_is e), tail_is e)
cut_at (y ∷ l) rest (x ∷ f) more q e =
    cut_more y x l rest f more q.0 (head_is e) (cut_at l rest f more q.1 (tail_is e))

none_left : (after more : List ℕ) → after ++ more ≡ [] → more ≡ []
none_left [] more e = e
none_left (x ∷ after) more e = absurd cc

-- the items whose lines stand whole in a front, and the rest of it
record Items {H I : Type 0} (form : Form H I) (h : H) (before : List I) (front : List ℕ) : Type 0 where
  items : List I
  rest : List ℕ
  are : AreItems form h before items
  parts : front ≡ lines_of form items ++ rest
  whole : Lacks rest

none_whole : {H I : Type 0} (form : Form H I) (h : H) (before : List I) (front : List ℕ) → Lacks front →
    Items form h before front
none_whole form h before front p = record { items = []; rest = front; are = tt; parts = refl; whole = p }

one_before : {H I : Type 0} (form : Form H I) (h : H) (before : List I) (x : I) (front after : List ℕ) →
    form.IsItem h before x → front ≡ form.item_line x ++ 10 ∷ after → Items form h (before ++ x ∷ []) after →
    Items form h before front
one_before form h before x front after fits e more =
    record {
      items = x ∷ more.items;
      rest = more.rest;
      are = (fits, more.are);
      parts = e ∙ ap (λ (t : List ℕ). form.item_line x ++ 10 ∷ t) more.parts
          ∙ sym (first_line form x more.items more.rest);
      whole = more.whole;
    }

cut_items : {H I : Type 0} (form : Form H I) (h : H) (before : List I) (items : List I)
    (end front more : List ℕ) →
    IsLawful form → Stand form h before → AreItems form h before items → Lacks end → more ≢ []
    → front ++ more ≡ lines_of form items ++ ended end → Items form h before front
cut_items form h before [] end front more lawful stand all whole some e =
    ⊎_elim (none_whole form h before front) (λ p. absurd (some (none_left p.0 more p.2)))
    (cut_at end [] front more whole e)
cut_items form h before (x ∷ xs) end front more lawful stand all whole some e =
    ⊎_elim (none_whole form h before front)
    (λ p. one_before form h before x front p.0 all.0 p.1
    (cut_items form h (before ++ x ∷ []) xs end p.0 more lawful (one_further form h before x stand all.0) all.1
    whole some p.2))
    (cut_at (form.item_line x) (lines_of form xs ++ ended end) front more
    (lawful.item_whole h before x stand all.0) (e ∙ first_line form x xs (ended end)))

cut_header : {H I : Type 0} (form : Form H I) (h : H) (rest front more : List ℕ) → form.IsHeader h →
    Cut (form.header_line h) rest front more
    → ((after : List ℕ) → after ++ more ≡ rest → Items form h [] after) → IsCutShort form front
cut_header form h rest front more header (inl p) further = inl (line_from front p)
cut_header form h rest front more header (inr p) further =
    let it = further p.0 p.2 in
    inr (
      h,
      it.items,
      it.rest,
      record {
        header = header;
        each = it.are;
        parts = p.1 ∙ ap (λ (t : List ℕ). form.header_line h ++ 10 ∷ t) it.parts
            ∙ sym (broken (form.header_line h) (lines_of form it.items ++ it.rest));
      },
      line_from it.rest it.whole,
    )

pub cut_short : {H I : Type 0} (form : Form H I) → IsLawful form →
    (text : List ℕ) (h : H) (items : List I) → IsText form text h items
    → (front more : List ℕ) → front ++ more ≡ text → more ≢ [] → IsCutShort form front
cut_short form lawful text h items is front more e some =
    let rest = lines_of form items ++ ended (form.end_line items) in
    cut_header form h rest front more is.begins.header
    (cut_at (form.header_line h) rest front more (lawful.header_whole h is.begins.header) (e
    ∙ is.begins.parts ∙ broken (form.header_line h) rest))
    (λ after f. cut_items form h [] items (form.end_line items) after more lawful
    (record { header = is.begins.header; each = tt }) is.begins.each (lawful.end_whole h items
    (record { header = is.begins.header; each = is.begins.each }) is.ends) some f)
