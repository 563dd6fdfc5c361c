-- A text of a lawful form has one reading.
use Rattle.std.proofs.Common.{◌≡◌, ◌≢◌, ℕ, ◌+◌, List, [], ◌∷◌, ◌++◌, length, Option, Some, None, Ok, Err, refl, sym, ap, subst, ◌∙◌, append_assoc, append-nil, inl, inr, ◌⊎◌}
use Rattle.std.proofs.lemmas.List.Elements.{recursion_from_All}
use Rattle.streams.specs.declared.fault.TextFault.{TextFault}
use Rattle.streams.specs.declared.fault.TextFault.TheVariants.{BadHeader, BadLine, CutShort}
use Rattle.history.specs.Text.{HasNoBreak, ended}
use Rattle.streams.specs.Form.{Form, lines_of, AreItems}
use Rattle.streams.specs.Reading.{Begins, HasBadHeader, IsBadLine, Reading, IsReading}
use Rattle.streams.proofs.Lawful.{Lacks, IsLawful, Stand}
use Rattle.streams.proofs.Growing.{broken, AreItems-push}
use Rattle.streams.proofs.Lists.{head_is, tail_is}

pub lacks : (xs : List ℕ) → HasNoBreak xs → Lacks xs
lacks xs h = recursion_from_All _ xs h

-- two lines, each up to its break
pub same_lines : (a b r s : List ℕ) → Lacks a → Lacks b → a ++ 10 ∷ r ≡ b ++ 10 ∷ s → (a ≡ b) × (r ≡ s)
same_lines [] [] r s p q e = (refl, tail_is e)
same_lines [] (y ∷ b) r s p q e = absurd (q.0 (sym (head_is e)))
same_lines (x ∷ a) [] r s p q e = absurd (p.0 (head_is e))
same_lines (x ∷ a) (y ∷ b) r s p q e =
    let h = head_is e in
    let t = same_lines a b r s p.1 q.1 (tail_is e) in
    (rw (h, t.0) refl, t.1)

-- a line is not whole without its break
pub no_line : (a r t : List ℕ) → Lacks t → t ≡ a ++ 10 ∷ r → ⊥
no_line [] r [] q e = cc
no_line (x ∷ a) r [] q e = cc
no_line [] r (y ∷ t) q e = q.0 (head_is e)
no_line (x ∷ a) r (y ∷ t) q e = no_line a r t q.1 (tail_is e)

-- ---- how a text ends behind its good lines

-- one more item stands
pub one_further : {H I : Type 0} (form : Form H I) (h : H) (before : List I) (x : I) → Stand form h before →
    form.IsItem h before x → Stand form h (before ++ x ∷ [])
one_further form h before x stand fits =
    record { header = stand.header; each = AreItems-push form h [] before x stand.each fits }

abbrev Ending : {H I : Type 0} → Form H I → H → List I → List ℕ → Option TextFault → Type 0
Ending form h items tail None = (tail ≡ ended (form.end_line items)) × form.MayEnd h items
Ending form h items tail (Some CutShort) = Lacks tail
Ending form h items tail (Some BadHeader) = ⊥
Ending form h items tail (Some (BadLine m)) =
    ((line : List ℕ) × (rest : List ℕ) × (tail ≡ line ++ 10 ∷ rest) ×
    IsBadLine form h items line × (m ≡ length items + 2))
    ⊎ ((rest : List ℕ) × (tail ≡ ended (form.end_line items) ++ rest) × form.MayEnd h items × (rest ≢ [])
    × (m ≡ length items + 3))

-- a bad line isn't the end line, and nothing follows the end line
not_end : {H I : Type 0} (form : Form H I) (h : H) (items : List I) (line rest more tail : List ℕ) →
    IsLawful form → Stand form h items → IsBadLine form h items line → tail ≡ line ++ 10 ∷ rest →
    form.MayEnd h items → tail ≡ ended (form.end_line items) ++ more → ⊥
not_end form h items line rest more tail lawful stand bad p ends q =
    bad.no_end ends (same_lines line (form.end_line items) rest more (lacks line bad.whole)
    (lawful.end_whole h items stand ends) (sym p ∙ q ∙ broken (form.end_line items) more)).0

bad_end : {H I : Type 0} (form : Form H I) (h : H) (items : List I) (m : ℕ) (tail : List ℕ) →
    IsLawful form → Stand form h items → Ending form h items tail None →
    Ending form h items tail (Some (BadLine m)) → ⊥
bad_end form h items m tail lawful stand p (inl q) =
    not_end form h items q.0 q.1 [] tail lawful stand q.3 q.2 p.1
    (p.0 ∙ sym (append-nil (ended (form.end_line items))))
bad_end form h items m tail lawful stand p (inr q) =
    let end = form.end_line items in
    let e = lawful.end_whole h items stand p.1 in
    q.3 (sym (same_lines end end [] q.0 e e (sym p.0 ∙ q.1 ∙ broken end q.0)).1)

cut_bad : {H I : Type 0} (form : Form H I) (h : H) (items : List I) (m : ℕ) (tail : List ℕ) → Lacks tail →
    Ending form h items tail (Some (BadLine m)) → ⊥
cut_bad form h items m tail p (inl q) = no_line q.0 q.1 tail p q.2
cut_bad form h items m tail p (inr q) =
    no_line (form.end_line items) q.0 tail p (q.1 ∙ broken (form.end_line items) q.0)

bad_bad : {H I : Type 0} (form : Form H I) (h : H) (items : List I) (m n : ℕ) (tail : List ℕ) →
    IsLawful form → Stand form h items → Ending form h items tail (Some (BadLine m)) →
    Ending form h items tail (Some (BadLine n)) → m ≡ n
bad_bad form h items m n tail lawful stand (inl p) (inl q) = p.4 ∙ sym q.4
bad_bad form h items m n tail lawful stand (inl p) (inr q) =
    absurd (not_end form h items p.0 p.1 q.0 tail lawful stand p.3 p.2 q.2 q.1)
bad_bad form h items m n tail lawful stand (inr q) (inl p) =
    absurd (not_end form h items p.0 p.1 q.0 tail lawful stand p.3 p.2 q.2 q.1)
bad_bad form h items m n tail lawful stand (inr p) (inr q) = p.4 ∙ sym q.4

same_ending : {H I : Type 0} (form : Form H I) (h : H) (items : List I) (tail : List ℕ)
    (o u : Option TextFault) → IsLawful form → Stand form h items → Ending form h items tail o →
    Ending form h items tail u → o ≡ u
same_ending form h items tail None None lawful stand p q = refl
same_ending form h items tail None (Some CutShort) lawful stand p q =
    absurd (no_line (form.end_line items) [] tail q p.0)
same_ending form h items tail (Some CutShort) None lawful stand p q =
    absurd (no_line (form.end_line items) [] tail p q.0)
same_ending form h items tail None (Some (BadLine m)) lawful stand p q =
    absurd (bad_end form h items m tail lawful stand p q)
same_ending form h items tail (Some (BadLine m)) None lawful stand p q =
    absurd (bad_end form h items m tail lawful stand q p)
same_ending form h items tail (Some CutShort) (Some CutShort) lawful stand p q = refl
same_ending form h items tail (Some CutShort) (Some (BadLine m)) lawful stand p q =
    absurd (cut_bad form h items m tail p q)
same_ending form h items tail (Some (BadLine m)) (Some CutShort) lawful stand p q =
    absurd (cut_bad form h items m tail q p)
same_ending form h items tail (Some (BadLine m)) (Some (BadLine n)) lawful stand p q =
    ap (λ (x : ℕ). Some (BadLine x)) (bad_bad form h items m n tail lawful stand p q)
same_ending form h items tail (Some BadHeader) u lawful stand p q = absurd p
same_ending form h items tail o (Some BadHeader) lawful stand p q = absurd q

-- behind the good lines comes no good one
no_more : {H I : Type 0} (form : Form H I) (h : H) (items : List I) (tail rest : List ℕ) (x : I)
    (o : Option TextFault) → IsLawful form → Stand form h items → form.IsItem h items x
    → Ending form h items tail o → tail ≡ form.item_line x ++ 10 ∷ rest → ⊥
no_more form h items tail rest x None lawful stand fits p e =
    lawful.item_no_end h items x stand fits p.1
    (same_lines (form.item_line x) (form.end_line items) rest [] (lawful.item_whole h items x stand fits)
    (lawful.end_whole h items stand p.1) (sym e ∙ p.0)).0
no_more form h items tail rest x (Some CutShort) lawful stand fits p e =
    no_line (form.item_line x) rest tail p e
no_more form h items tail rest x (Some (BadLine m)) lawful stand fits (inl p) e =
    p.3.no_item x fits (same_lines p.0 (form.item_line x) p.1 rest (lacks p.0 p.3.whole)
    (lawful.item_whole h items x stand fits) (sym p.2 ∙ e)).0
no_more form h items tail rest x (Some (BadLine m)) lawful stand fits (inr p) e =
    lawful.item_no_end h items x stand fits p.2
    (same_lines (form.item_line x) (form.end_line items) rest p.0 (lawful.item_whole h items x stand fits)
    (lawful.end_whole h items stand p.2) (sym e ∙ p.1 ∙ broken (form.end_line items) p.0)).0
no_more form h items tail rest x (Some BadHeader) lawful stand fits p e = absurd p

pub first_line : {H I : Type 0} (form : Form H I) (x : I) (xs : List I) (tail : List ℕ) →
    lines_of form (x ∷ xs) ++ tail ≡ form.item_line x ++ 10 ∷ (lines_of form xs ++ tail)
first_line form x xs tail = append_assoc (ended (form.item_line x)) (lines_of form xs) tail
    ∙ broken (form.item_line x) (lines_of form xs ++ tail)

-- behind the same items stand the same ones
same_items : {H I : Type 0} (form : Form H I) (h : H) (before a b : List I) (t u : List ℕ)
    (o v : Option TextFault) → IsLawful form → Stand form h before → AreItems form h before a →
    AreItems form h before b → lines_of form a ++ t ≡ lines_of form b ++ u
    → Ending form h (before ++ a) t o → Ending form h (before ++ b) u v → (a ≡ b) × (t ≡ u)
same_items form h before [] [] t u o v lawful stand m n e x y = (refl, e)
same_items form h before [] (r ∷ b) t u o v lawful stand m n e x y =
    absurd (no_more form h before t (lines_of form b ++ u) r o lawful stand n.0
    (subst (λ (l : List _). Ending form h l t o) (append-nil before) x) (e ∙ first_line form r b u))
same_items form h before (s ∷ a) [] t u o v lawful stand m n e x y =
    absurd (no_more form h before u (lines_of form a ++ t) s v lawful stand m.0
    (subst (λ (l : List _). Ending form h l u v) (append-nil before) y) (sym e ∙ first_line form s a t))
same_items form h before (s ∷ a) (r ∷ b) t u o v lawful stand m n e x y =
    let l = same_lines (form.item_line s) (form.item_line r) (lines_of form a ++ t)
    (lines_of form b ++ u) (lawful.item_whole h before s stand m.0)
    (lawful.item_whole h before r stand n.0) (sym (first_line form s a t) ∙ e ∙ first_line form r b u) in
    let same : r ≡ s = sym (lawful.item_one h before s r stand m.0 n.0 l.0) in
    let others = subst (λ (z : _). AreItems form h (before ++ z ∷ []) b) same n.1 in
    let behind : before ++ r ∷ b ≡ (before ++ s ∷ []) ++ b =
    ap (λ (z : _). before ++ z ∷ b) same ∙ sym (append_assoc before (s ∷ []) b) in
    let here : before ++ s ∷ a ≡ (before ++ s ∷ []) ++ a = sym (append_assoc before (s ∷ []) a) in
    let rest =
    same_items form h (before ++ s ∷ []) a b t u o v lawful (one_further form h before s stand m.0) m.1
    others l.1 (subst (λ (z : List _). Ending form h z t o) here x)
    (subst (λ (z : List _). Ending form h z u v) behind y) in
    (rw (same, rest.0) refl, rest.1)

-- ---- a reading is one of three

abbrev answer_for : {H I : Type 0} → H → List I → Option TextFault → Reading H I
answer_for h items None = Ok (h, items)
answer_for h items (Some fault) = Err fault

record Past {H I : Type 0} (form : Form H I) (text : List ℕ) (r : Reading H I) : Type 0 where
  h : H
  items : List I
  tail : List ℕ
  ending : Option TextFault
  begins : Begins form text h items tail
  ends : Ending form h items tail ending
  is : r ≡ answer_for h items ending

abbrev Kind : {H I : Type 0} → Form H I → List ℕ → Reading H I → Type 0
Kind form text r = (Lacks text × (r ≡ Err CutShort)) ⊎ (HasBadHeader form text × (r ≡ Err BadHeader))
    ⊎ Past form text r

past : {H I : Type 0} (form : Form H I) (text : List ℕ) (h : H) (items : List I) (tail : List ℕ)
    (ending : Option TextFault) → Begins form text h items tail → Ending form h items tail ending →
    Past form text (answer_for h items ending)
past form text h items tail ending begins ends =
    record {
      h = h;
      items = items;
      tail = tail;
      ending = ending;
      begins = begins;
      ends = ends;
      is = refl;
    }

kind_of : {H I : Type 0} (form : Form H I) (text : List ℕ) (r : Reading H I) → IsReading form text r →
    Kind form text r
kind_of form text (Ok (h, xs)) p =
    inr (inr (past form text h xs (ended (form.end_line xs)) None p.begins (refl, p.ends)))
kind_of form text (Err CutShort) (inl p) = inl (lacks text p, refl)
kind_of form text (Err CutShort) (inr (h, xs, tail, begins, whole)) =
    inr (inr (past form text h xs tail (Some CutShort) begins (lacks tail whole)))
kind_of form text (Err BadHeader) p = inr (inl (p, refl))
kind_of form text (Err (BadLine m)) (inl (h, xs, line, rest, begins, bad, is)) =
    inr (inr (past form text h xs (line ++ 10 ∷ rest) (Some (BadLine m)) begins (inl (line, rest, refl, bad, is))))
kind_of form text (Err (BadLine m)) (inr (h, xs, rest, begins, may, some, is)) =
    inr (inr (past form text h xs (ended (form.end_line xs) ++ rest) (Some (BadLine m)) begins (inr (rest, refl, may, some, is))))

-- the header line of a text
header_first : {H I : Type 0} (form : Form H I) (text : List ℕ) (r : Reading H I) (p : Past form text r) →
    text ≡ form.header_line p.h ++ 10 ∷ (lines_of form p.items ++ p.tail)
header_first form text r p =
    p.begins.parts ∙ broken (form.header_line p.h) (lines_of form p.items ++ p.tail)

not_bad_header : {H I : Type 0} (form : Form H I) (text : List ℕ) (r : Reading H I) → IsLawful form →
    Past form text r → HasBadHeader form text → ⊥
not_bad_header form text r lawful p q =
    q.4 p.h p.begins.header (same_lines q.0 (form.header_line p.h) q.1 (lines_of form p.items ++ p.tail)
    (lacks q.0 q.3) (lawful.header_whole p.h p.begins.header) (sym q.2 ∙ header_first form text r p)).0

past_same : {H I : Type 0} (form : Form H I) (text : List ℕ) (a b : Reading H I) → IsLawful form →
    Past form text a → Past form text b → a ≡ b
past_same {H} {I} form text a b lawful p q =
    let l = same_lines (form.header_line p.h) (form.header_line q.h) (lines_of form p.items ++ p.tail)
    (lines_of form q.items ++ q.tail) (lawful.header_whole p.h p.begins.header)
    (lawful.header_whole q.h q.begins.header) (sym (header_first form text a p)
    ∙ header_first form text b q) in
    let h : q.h ≡ p.h = sym (lawful.header_one p.h q.h p.begins.header q.begins.header l.0) in
    let each : AreItems form p.h [] q.items = subst (λ (g : H). AreItems form g [] q.items) h q.begins.each in
    let ends : Ending form p.h q.items q.tail q.ending =
    subst (λ (g : H). Ending form g q.items q.tail q.ending) h q.ends in
    let none : Stand form p.h [] = record { header = p.begins.header; each = tt } in
    let s = same_items form p.h [] p.items q.items p.tail q.tail p.ending q.ending lawful none p.begins.each
    each l.1 p.ends ends in
    let there : Ending form p.h p.items p.tail q.ending = rw (s.0, s.1) ends in
    let stand : Stand form p.h p.items = record { header = p.begins.header; each = p.begins.each } in
    p.is ∙ rw (
      same_ending form p.h p.items p.tail p.ending q.ending lawful stand p.ends there,
      s.0,
      h,
    ) refl ∙ sym q.is

-- the cases, two by two
sorted : {H I : Type 0} (form : Form H I) (text : List ℕ) (a b : Reading H I) → IsLawful form →
    Kind form text a → Kind form text b → a ≡ b
sorted form text a b lawful (inl x) (inl y) = x.1 ∙ sym y.1
sorted form text a b lawful (inl x) (inr (inl y)) = absurd (no_line y.0.0 y.0.1 text x.0 y.0.2)
sorted form text a b lawful (inl x) (inr (inr y)) =
    absurd (no_line (form.header_line y.h) (lines_of form y.items ++ y.tail) text x.0
    (header_first form text b y))
sorted form text a b lawful (inr (inl y)) (inl x) = absurd (no_line y.0.0 y.0.1 text x.0 y.0.2)
sorted form text a b lawful (inr (inl x)) (inr (inl y)) = x.1 ∙ sym y.1
sorted form text a b lawful (inr (inl x)) (inr (inr y)) = absurd (not_bad_header form text b lawful y x.0)
sorted form text a b lawful (inr (inr y)) (inl x) =
    absurd (no_line (form.header_line y.h) (lines_of form y.items ++ y.tail) text x.0
    (header_first form text a y))
sorted form text a b lawful (inr (inr y)) (inr (inl x)) = absurd (not_bad_header form text a lawful y x.0)
sorted form text a b lawful (inr (inr x)) (inr (inr y)) = past_same form text a b lawful x y

pub one : {H I : Type 0} (form : Form H I) → IsLawful form → (text : List ℕ) (a b : Reading H I) →
    IsReading form text a → IsReading form text b → a ≡ b
one form lawful text a b p q = sorted form text a b lawful (kind_of form text a p) (kind_of form text b q)
