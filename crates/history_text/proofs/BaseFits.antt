-- Which bases have a text under a header.
use Rattle.std.proofs.Common.{◌≡◌, ◌≤◌, inl, inr, ⊎_elim, ap, ◌∙◌, sym, subst, arith}
use Rattle.history_text.specs.Below.{Header, Base, opening_base, IsGood, IsInRange}
use Rattle.history_text.specs.HistoryText.{HasBaseText}

pub opening_text : (h : Header) (b : Base) → b.header ≡ h → b ≡ opening_base b.header → HasBaseText h b
opening_text h b header is =
    let none : b.entries ≡ 0 = ap (λ (a : Base). a.entries) is in
    record {
      is = (header, inl (is ∙ ap opening_base header));
      range = λ some. absurd (omega (arith, none, some));
    }

pub good_text : (h : Header) (b : Base) → b.header ≡ h → IsInRange b.header → (1 ≤ b.entries) × IsGood b →
    HasBaseText h b
good_text h b header range good =
    record { is = (header, inr good); range = λ some. subst IsInRange header range }

-- a base that is not the opening one is a good one, in range
pub text_good : (h : Header) (b : Base) → (b ≡ opening_base b.header → ⊥) → HasBaseText h b →
    IsInRange b.header × ((1 ≤ b.entries) × IsGood b)
text_good h b other is =
    ⊎_elim (λ e. absurd (other (e ∙ ap opening_base (sym is.is.0))))
    (λ (g : (1 ≤ b.entries) × IsGood b). (subst IsInRange (sym is.is.0) (is.range g.0), g)) is.is.1
