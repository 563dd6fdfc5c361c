-- That an entry has named the head of the queue since it could go, or was its own.
use Rattle.std.proofs.Common.{◌≡◌, ◌⊎◌, inl, inr, ℕ, true, false, List, [], ◌∷◌, Option, Some, refl, ap, ◌∙◌, eq-eqb}
use Rattle.std.proofs.lemmas.Bool.{eqb-false}
use Rattle.laws.specs.Below.{Entry, Header, is_seat, named, named_by, ready, opening}
use Rattle.history.proofs.Marking.{named_ready, told_now}
use Rattle.laws.specs.Woken.{IsWoken}

pub woken : (k : Header) (h : List Entry) (i : ℕ) → ready (opening k) h ≡ Some i → IsWoken (opening k) h i
woken k [] i r = cc
woken k (e ∷ h) i r = by (woken k h i) (told_now (ready (opening k) h) i e.seat)
  where
    by : (ready (opening k) h ≡ Some i → IsWoken (opening k) h i) →
        (named_by (ready (opening k) h) (Some i) e.seat ≡ Some i) ⊎ (e.seat ≡ i)
        ⊎ (ready (opening k) h ≡ Some i) → IsWoken (opening k) (e ∷ h) i
    by ih (inl n) = inl (rw r n)
    by ih (inr (inl own)) = inr (inl own)
    by ih (inr (inr before)) = inr (inr (before, ih before))

pub is_named : (k : Header) (h : List Entry) (e : Entry) (i : ℕ) → named (opening k) h e ≡ Some i →
    (ready (opening k) (e ∷ h) ≡ Some i) × (ready (opening k) h ≡ Some i → ⊥) × (i ≡ e.seat → ⊥)
is_named k h e i n =
    let r = named_ready (ready (opening k) h) (ready (opening k) (e ∷ h)) e.seat i n in
    (r.0, (λ q. was_not (ready (opening k) h) q r.1), eqb-false i e.seat r.2)
  where
    was_not : (before : Option ℕ) → before ≡ Some i → is_seat before i ≡ false → ⊥
    was_not before q f = let t : is_seat before i ≡ true = ap (λ o. is_seat o i) q ∙ eq-eqb i i refl in cc
