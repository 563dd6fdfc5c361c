use Rattle.std.proofs.Common.{rules, ◌≡◌, ◌∷◌, ap, arith, length, subst, string_bytes}
use Rattle.std.specs.List.{All}
use Rattle.std.proofs.lemmas.List.Elements.{All-tail}
use Rattle.script.specs.Script.{named}
use Rattle.run_text.specs.inner.{IsJudged}
use Rattle.run_text.proofs.Texts.{parts_more}
use Rattle.run_text.proofs.report_text.parts_of.Goals as goal

pub loop-object-preserved : goal.loop-object-preserved
loop-object-preserved c =
    let part = c.in-Some.object in
    let rest' = c.next.new.self.rest.items in
    let second : c.loop-object.object-iterator.rest.items ≡ part ∷ rest' = search rules in
    let first : c.loop-object.names
    ≡ (c.in-Some-next.name.now, c.in-Some-next.field-0-1.now) ∷ c.next-in-loop-object.new.self =
    search rules in
    let names = ap named first in (
      All-tail IsJudged part rest' (subst (All IsJudged) second c.loop-object.invariant.0),
      omega (arith, c.loop-object.invariant.1, ap length names, ap length second),
      rw c.in_ok-push.ensures.items (parts_more (named c.loop-object.names)
          (named c.next-in-loop-object.new.self)
          (string_bytes c.in-Some-next.name.now, c.in-Some-next.field-0-1.now)
          c.loop-object.object-iterator.rest.items
          rest' part c.loop-object.parts.items _ _ names second
          (rw c.as_bytes.ensures.value at c.in_ok-of.ensures.text) c.loop-object.invariant.2),
    )
