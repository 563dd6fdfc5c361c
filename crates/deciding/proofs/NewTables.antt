-- Tables as they are made.
use Rattle.std.proofs.Common.{◌≡◌, ℕ, zero, suc, refl}
use Rattle.std.proofs.Math.ListN.{get_or, replicate}

-- a new table has the same item everywhere
pub blank : {X : Type 0} (n i : ℕ) (d : X) → get_or (replicate n d) i d ≡ d
blank zero i d = refl
blank (suc n) zero d = refl
blank (suc n) (suc i) d = blank n i d
