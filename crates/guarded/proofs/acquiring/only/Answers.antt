use Rattle.std.proofs.Common.{◌∙◌, ◌++◌, Option, ap}
use Rattle.std.specs.Option.{option_to_list}
use Rattle.guarded.proofs.Shelving.{of_first}
use Rattle.guarded.proofs.acquiring.only.Goals as goal

pub returns-clause-kept : goal.returns-clause-kept
returns-clause-kept g c =
    of_first g.I.Keeps.invariant c.args.items c.in-Some.item c.pop_front.new.self
    (c.pop_front.ensures.items ∙ ap (λ (z : Option _). option_to_list z ++ c.pop_front.new.self) c.in-Some.is)
    c.requires.kept
