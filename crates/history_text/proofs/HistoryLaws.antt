-- A history text has one reading, and what is written of a history that fits is read.
use Rattle.std.proofs.Common.{◌≡◌, ⊎_elim, ℕ, ltb, if◌then◌else◌, List, reverse, Result, Ok, Err, refl, sym, ap, subst, ◌∙◌}
use Rattle.std.specs.List.{AllByRecursion}
use Rattle.std.proofs.lemmas.List.Elements.{All-from_recursion}
use Rattle.history_text.specs.Below.{Entry, Header, Base, opening_base, HistoryView, base_on, IsBaseOf, IsInRange, TextFault, Reading}
use Rattle.streams.proofs.OneReading.{one}
use Rattle.history_text.specs.Prelude.{Head, HasLine, head_of, lines_told, Fits, IsHistoryReading, IsHistoryText, IsRead, history_form, Line, lines_on, base_by}
use Rattle.history_text.proofs.BaseRetold.{good_is_told}
use Rattle.history_text.proofs.HistoryItems.{base_lines_again, base_lines_in, entries_again, entries_of, some_entries}
use Rattle.history_text.proofs.HistoryLawful.{lawful}

-- of one header, a base is known by whether it has entries, and by its lines
pub base_by_lines : (k : Header) (b : Base) → IsInRange k → IsBaseOf k b →
    b ≡ (if ltb 0 b.entries then base_by k (lines_told b) else opening_base k)
base_by_lines k b range of =
    ⊎_elim
    (λ e. subst (λ (a : Base). a ≡ (if ltb 0 a.entries then base_by k (lines_told a) else opening_base k))
    (sym e) refl)
    (λ g. (let told = good_is_told k b range (record { header = of.0; some = g.0; good = g.1 }) in
    rw (some_entries b.entries g.0) (sym told.1)))
    of.1

abbrev Said : Type 0
Said = Head × List Line

abbrev ok : Said → Result Said TextFault
ok x = Ok x

abbrev err : TextFault → Result Said TextFault
err x = Err x

same_said : (text : List ℕ) (a c : Base) (es fs : List Entry) → IsHistoryText text a es →
    IsHistoryText text c fs → (a ≡ c) × (es ≡ fs)
same_said text a c es fs p q =
    let same : (head_of a, lines_on a es) ≡ (head_of c, lines_on c fs) =
    cc (one history_form lawful text (Ok (head_of a, lines_on a es)) (Ok (head_of c, lines_on c fs)) p.is
    q.is) in
    let lines : lines_on a es ≡ lines_on c fs = ap (λ (z : Said). z.1) same in
    let told : lines_told a ≡ lines_told c =
    sym (base_lines_again a es) ∙ ap base_lines_in lines ∙ base_lines_again c fs in (
      cc (
        ap (λ (z : Said). z.0.header) same,
        ap (λ (z : Said). z.0.is_based) same,
        told,
        base_by_lines a.header a p.is.begins.header p.base,
        base_by_lines c.header c q.is.begins.header q.base,
      ),
      sym (entries_again a es) ∙ ap entries_of lines ∙ entries_again c fs,
    )

pub one_reading : (text : List ℕ) (a b : Reading Base Entry) → IsHistoryReading text a →
    IsHistoryReading text b → a ≡ b
one_reading text (Ok x) (Ok y) p q =
    let same = same_said text x.0 y.0 x.1 y.1 p q in
    ap (λ (z : Base). Ok (z, x.1)) same.0 ∙ ap (λ (z : List Entry). Ok (y.0, z)) same.1
one_reading text (Err x) (Err y) p q = cc (one history_form lawful text (Err x) (Err y) p q)
one_reading text (Ok x) (Err y) p q =
    absurd (cc (one history_form lawful text (Ok (head_of x.0, lines_on x.0 x.1)) (Err y) p.is q))
one_reading text (Err x) (Ok y) p q =
    absurd (cc (one history_form lawful text (Ok (head_of y.0, lines_on y.0 y.1)) (Err x) q.is p))

-- what was read has a text under its header
pub read_fits : (text : List ℕ) (h : Header) (kept : HistoryView) → IsRead text h kept → Fits h kept
read_fits text h kept is =
    let b = base_on h kept in
    let es = reverse kept.entries in
    let has = is.reading.is.ends in
    let same : has.1 ≡ es = sym (entries_again has.0 has.1) ∙ ap entries_of has.3 ∙ entries_again b es in
    record {
      cap = is.cap;
      base = record {
        is = subst (λ (k : Header). IsBaseOf k b) is.header is.reading.base;
        range = λ some. subst IsInRange is.header is.reading.is.begins.header;
      };
      each = All-from_recursion (HasLine h) es
          (subst (λ (k : Header). AllByRecursion (HasLine k) es) is.header
          (subst (AllByRecursion (HasLine b.header)) same has.2.each));
    }
