use Rattle.std.proofs.Common.{List, ℕ, Some, ◌∙◌, subst}
use Rattle.fault_places.specs.declared.report.Report.TheVariants.{History, Right, Wrong}
use Rattle.tasks.specs.Perform.{Performs}
use Rattle.tasks.specs.declared.task.Task.TheVariants.{Explain}
use Rattle.tasks.proofs.Explaining.{explained}
use Rattle.tasks.proofs.explain.explain.Goals as goal

pub returns-in-Right-clause-explains : goal.returns-in-Right-clause-explains
returns-in-Right-clause-explains g c =
    explained c.args.at c.args.notation (g.R.Source.left c.args.reader.now) (g.R.Source.left c.read_all.new.reader)
    c.in_ok-text.text.items c.deref.result.now c.in_ok-kind.field-0 (Right c.in-Right.kind)
    (g.W.Sink.held c.args.writer.now) (g.W.Sink.held c.write_told.new.writer) c.write_told.result
    c.in_ok-text.ensures.all c.in_ok-text.ensures.end c.deref.ensures.value c.in_ok-kind.ensures c.in-Right.is
    (_, c.write_told.ensures.says)

pub returns-in-Wrong-clause-explains : goal.returns-in-Wrong-clause-explains
returns-in-Wrong-clause-explains g c =
    explained c.args.at c.args.notation (g.R.Source.left c.args.reader.now) (g.R.Source.left c.read_all.new.reader)
    c.in_ok-text.text.items c.deref.result.now c.in_ok-kind.field-0 (Wrong c.in-Wrong.wrong)
    (g.W.Sink.held c.args.writer.now) (g.W.Sink.held c.write_told-in-Wrong.new.writer)
    c.write_told-in-Wrong.result c.in_ok-text.ensures.all c.in_ok-text.ensures.end c.deref.ensures.value
    c.in_ok-kind.ensures c.in-Wrong.is (_, c.write_told-in-Wrong.ensures.says)

pub returns-clause-explains : goal.returns-clause-explains
returns-clause-explains g c =
    let old = g.W.Sink.held c.args.writer.now in
    let new = g.W.Sink.held c.perform.new.writer in
    explained c.args.at c.args.notation (g.R.Source.left c.args.reader.now) (g.R.Source.left c.read_all.new.reader)
    c.in_ok-text.text.items c.deref.result.now c.in_ok-kind.field-0 History old new c.perform.result
    c.in_ok-text.ensures.all c.in_ok-text.ensures.end c.deref.ensures.value c.in_ok-kind.ensures c.in-History.is
    (subst (λ (t : List ℕ). Performs (Explain c.args.at c.args.notation) (Some t) old new c.perform.result)
    (c.new-source.ensures ∙ c.deref-in-History.ensures.value) c.perform.ensures.performs)
