use Rattle.std.proofs.Common.{[], ◌∷◌, ap, ◌∙◌, refl}
use Rattle.explaining.specs.Below.{based, first_of, line, ready}
use Rattle.explaining.specs.Naming.{naming_by}
use Rattle.explaining.specs.Ways.{ways_of}
use Rattle.explaining.proofs.Listed.{any_is_it}
use Rattle.explaining.proofs.Noted.{noted}
use Rattle.explaining.proofs.explanation.explain.Goals as goal

pub naming_of-naming-requires : goal.naming_of-naming-requires
naming_of-naming-requires c =
    let s = based c.args.base.now in
    let stand = c.in_ok-ledger.ensures.stand in
    noted s [] c.args.entry c.note.new.self (any_is_it (ways_of s [] c.args.entry)) refl
    (λ next. c.note.ensures.follows s [] stand c.requires.seat next)
    (λ refused. c.note.ensures.passes s [] stand refused)

pub returns-clause-naming : goal.returns-clause-naming
returns-clause-naming c next =
    let s = based c.args.base.now in
    let e = c.args.entry in
    let stand = c.in_ok-ledger.ensures.stand in
    c.naming_of-naming.ensures s (e ∷ []) (c.note.ensures.follows s [] stand c.requires.seat next)
    ∙ ap (λ before. naming_by before (first_of (line s (e ∷ []))) (ready s (e ∷ [])) e.seat)
    (c.ready-before.ensures.ready s [] stand)
