-- The places of an opening, one after another.
use Rattle.std.proofs.Common.{◌≡◌, List, [], ◌∷◌, ◌++◌, length, sym, ap, ◌∙◌, append_assoc, map}
use Rattle.std.proofs.lemmas.List.{length-map, map_push}
use Rattle.aqs_c.specs.Below.{Header, blank, opening_passes}
use Rattle.monitor.proofs.Opening.{opening_count}
use Rattle.aqs_c.specs.Opening.{IsOpened, idle}
use Rattle.aqs_c.specs.declared.pass.AqsPass.{AqsPass}

-- what is done so far and what is left is all
pub placed_more : {X Y Z : Type 0} (f : X → Z) (g : Y → Z) (done : List X) (x : X) (y : Y) (rest : List Y)
    (all : List Z) → map f done ++ map g (y ∷ rest) ≡ all → f x ≡ g y →
    map f (done ++ x ∷ []) ++ map g rest ≡ all
placed_more f g done x y rest all so_far same =
    ap (λ l. l ++ map g rest) (map_push f done x)
    ∙ (append_assoc (map f done) (f x ∷ []) (map g rest)
    ∙ (ap (λ z. map f done ++ z ∷ map g rest) same ∙ so_far))

-- an opening makes as many passes as there are seats
pub opened_count : (h : Header) (places : List AqsPass) → IsOpened h places → length places ≡ h.seats
opened_count h places opened =
    sym (length-map places (λ p. p.held.value))
    ∙ (ap length opened.passes
    ∙ (length-map (opening_passes opened.lock (blank h) 0 h.seats) idle
    ∙ opening_count opened.lock (blank h) 0 h.seats))
