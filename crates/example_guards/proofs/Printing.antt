-- Parts that are printed one after the other.
use Rattle.std.proofs.Common.{◌≡◌, ◌*◌, ℕ, List, [], ◌∷◌, ◌++◌, Option, append_assoc, append-nil, refl, sym, ap, ◌∙◌, subst}
use Rattle.std.proofs.KnownBytes.{Appends-nil, Appends-trans}
use Rattle.std.specs.Io.KnownBytes.{Appends}
use Rattle.history.specs.declared.entry.Entry.{Entry}
use Rattle.history.specs.declared.header.Header.{Header}
use Rattle.history.specs.Base.{Base, folded, opening_base}
use Rattle.history.specs.Point.{CanFold}
use Rattle.history_text.specs.Pieces.{history_text}
use Rattle.example_guards.specs.Parts.{AreLegal, Plays, Prints, left_by, texts}

left_more : (b : Base) (p q : List (List Entry)) → left_by b (q ++ p) ≡ left_by (left_by b p) q
left_more b p [] = refl
left_more b p (h ∷ q) = ap (λ (c : Base). folded c h) (left_more b p q)

texts_more : (b : Base) (p q : List (List Entry)) → texts b (q ++ p) ≡ texts b p ++ texts (left_by b p) q
texts_more b p [] = sym (append-nil (texts b p))
texts_more b p (h ∷ q) =
    ap (λ (l : List ℕ). l ++ history_text (left_by b (q ++ p)) h) (texts_more b p q)
    ∙ (ap (λ (c : Base). (texts b p ++ texts (left_by b p) q) ++ history_text c h) (left_more b p q)
    ∙ append_assoc (texts b p) (texts (left_by b p) q) (history_text (left_by (left_by b p) q) h))

legal_more : (b : Base) (p q : List (List Entry)) → AreLegal b p → AreLegal (left_by b p) q →
    AreLegal b (q ++ p)
legal_more b p [] first second = first
legal_more b p (h ∷ q) first second = (
  legal_more b p q first second.0,
  subst (λ (c : Base). CanFold c h) (sym (left_more b p q)) second.1,
)

pub prints_nothing : (b : Base) (held : Option (List ℕ)) → Prints b held b held
prints_nothing b held =
    record { parts = []; legal = tt; left = refl; printed = Appends-nil held }

pub prints_more : (a : Base) (p : Option (List ℕ)) (b : Base) (q : Option (List ℕ)) (c : Base)
    (r : Option (List ℕ)) → Prints a p b q → Prints b q c r → Prints a p c r
prints_more a p b q c r first second =
    let legal : AreLegal (left_by a first.parts) second.parts =
    subst (λ (z : Base). AreLegal z second.parts) first.left second.legal in
    let printed : Appends q r (texts (left_by a first.parts) second.parts) =
    subst (λ (z : Base). Appends q r (texts z second.parts)) first.left second.printed in record {
      parts = second.parts ++ first.parts;
      legal = legal_more a first.parts second.parts first.legal legal;
      left =
          second.left ∙ (ap (λ (z : Base). left_by z second.parts) first.left
          ∙ sym (left_more a first.parts second.parts));
      printed =
          subst (Appends p r) (sym (texts_more a first.parts second.parts))
          (Appends-trans p q r (texts a first.parts) (texts (left_by a first.parts) second.parts)
          first.printed printed);
    }

-- one part
pub prints_part : (b c : Base) (h : List Entry) (p q : Option (List ℕ)) → CanFold b h → c ≡ folded b h →
    Appends p q (history_text b h) → Prints b p c q
prints_part b c h p q legal is printed =
    record { parts = h ∷ []; legal = (tt, legal); left = is; printed = printed }

pub plays : (k : Header) (rounds : ℕ) (b c : Base) (p q : Option (List ℕ)) → b ≡ opening_base k →
    c.entries ≡ 5 * rounds → Prints b p c q → Plays k rounds p q
plays k rounds b c p q is entries prints = record {
  parts = prints.parts;
  legal = subst (λ (z : Base). AreLegal z prints.parts) is prints.legal;
  entries =
      ap (λ (z : Base). (left_by z prints.parts).entries) (sym is)
      ∙ (ap (λ (z : Base). z.entries) (sym prints.left) ∙ entries);
  printed = subst (λ (z : Base). Appends p q (texts z prints.parts)) is prints.printed;
}
