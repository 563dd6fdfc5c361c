use Rattle.script.proofs.NameLemmas.{placed, unplaced}
use Rattle.script.proofs.name.position_of.Goals as goal

pub returns-clause-found : goal.returns-clause-found
returns-clause-found c =
    placed c.args.name.now c.args.objects.now.entries c.get_index_of.result c.get_index_of.ensures.index

pub returns-clause-none : goal.returns-clause-none
returns-clause-none c =
    unplaced c.args.name.now c.args.objects.now.entries c.get_index_of.result c.get_index_of.ensures.found
