-- What is written for a line on a terminal, piece by piece.
use Rattle.std.proofs.Common.{◌≡◌, ℕ, Bool, List, [], ◌∷◌, length, min, take, replicate, Option, refl, ap, subst, ◌∙◌}
use Rattle.aqs.specs.declared.progress.Progress.{Progress}
use Rattle.aqs.specs.Progress.{Puts, PutsAll, Shows, Wipes, line_text, wiping}

-- three pieces wipe a line
pub wiped : {E : Type 0} (held : E → Option (List ℕ)) (n k : ℕ) (a b c d : E × Bool) → Puts held a (13 ∷ []) b →
    Puts held b (take k (replicate 60 32)) c → Puts held c (13 ∷ []) d → k ≡ min n 60 → PutsAll held a (wiping n) d
wiped held n k a b c d back over back_again is =
    (b, back, (c, subst (λ (m : ℕ). Puts held b (take m (replicate 60 32)) c) is over, (d, back_again, refl)))

-- once the old line is wiped, the new one is written
pub shown : {E : Type 0} (held : E → Option (List ℕ)) (old wiped : Progress E) (error : E × Bool) (line : List ℕ)
    (n : ℕ) → Wipes held old wiped → Puts held wiped.error line error → line ≡ line_text old.size old.read →
    n ≡ length line → Shows held old (record wiped { error = error; length = n })
shown {E} held old wiped error line n wipes puts is len =
    record {
      between = wiped.error;
      wiped = wipes.wiped;
      written = subst (λ (t : List ℕ). Puts held wiped.error t error) is puts;
      others = ap (λ (p : Progress E). record p { error = error; length = n }) wipes.others
          ∙ ap (λ (m : ℕ). record old { error = error; length = m }) (len ∙ ap length is);
    }
