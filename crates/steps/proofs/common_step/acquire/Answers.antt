use Rattle.std.proofs.Common.{ℕ, List, refl, ◌++◌, codes, ap, ◌∙◌, arith}
use Rattle.streams.proofs.AskingOnce.{one_spelt}
use Rattle.steps.proofs.common_step.acquire.Goals as goal

pub returns : goal.returns
returns c =
    let asked = c.in_ok-asked.ensures ∙ ap (λ (t : List ℕ). codes "ire " ++ t) c.in_ok-rest.ensures in
    let named = c.in_ok-name_end.ensures ∙ ap (λ (t : List ℕ). codes "acqu" ++ t) asked in
    (omega arith, rw one_spelt (c.in_ok-rest.rest.now, named, refl))
