-- What a ledger represents after an entry, legal or not.
use Rattle.std.proofs.Common.{◌≡◌, ◌<◌, Bool, true, false, List, ◌∷◌, refl}
use Rattle.explaining.specs.Below.{Entry, Start, IsNext, LedgerStand}
use Rattle.audit.specs.declared.ledger.Ledger.{Ledger}
use Rattle.explaining.specs.Ways.{steps_of, ways_of}
use Rattle.explaining.proofs.Listed.{any_is_it, any_made, is_tried, made_any}

pub noted : (s : Start) (h : List Entry) (e : Entry) (new : Ledger) (b : Bool) →
    any_is_it (ways_of s h e) ≡ b → (IsNext s h e → LedgerStand s (e ∷ h) new) →
    ((IsNext s h e → ⊥) → LedgerStand s h new) → (t : Start) × (g : List Entry) × LedgerStand t g new
noted s h e new true q follows passes = (s, e ∷ h, follows (any_made s h e (steps_of s.header e.n) q))
noted s h e new false q follows passes = (s, h, passes (λ next. refused next q))
  where
    refused : IsNext s h e → any_is_it (ways_of s h e) ≡ false → ⊥
    refused next q =
        let t = made_any s h e (steps_of s.header e.n) next.0 (is_tried s h e next.0 next.1) next.1 in
        absurd (cc)
