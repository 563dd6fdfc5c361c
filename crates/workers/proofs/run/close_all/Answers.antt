use Rattle.std.proofs.Common.{rules, ◌≡◌, ◌∷◌, arith}
use Rattle.std.proofs.lemmas.List.{nil_from_length}
use Rattle.workers.proofs.Columns.{column_own, column_whole, columns_cut, parts_end, parts_on}
use Rattle.workers.proofs.run.close_all.Goals as goal

pub close-requires-clause-own : goal.close-requires-clause-own
close-requires-clause-own g c =
    let first : c.loop-object.object-iterator.rest.items ≡ c.in-Some.object ∷ c.next.new.self.rest.items =
    search rules in
    let second : c.loop-object.columns.rest.items
    ≡ c.in-Some-next.passes ∷ c.next-in-loop-object.new.self.rest.items = search rules in
    let cut = columns_cut c.loop-object.object-iterator.rest.items c.next.new.self.rest.items c.in-Some.object
    c.loop-object.columns.rest.items c.next-in-loop-object.new.self.rest.items
    c.in-Some-next.passes first second
    c.loop-object.invariant.0 in
    column_own c.in-Some.object c.in-Some.object.header.seats c.in-Some-next.passes cut.0

pub close-requires-clause-all : goal.close-requires-clause-all
close-requires-clause-all g c =
    let first : c.loop-object.object-iterator.rest.items ≡ c.in-Some.object ∷ c.next.new.self.rest.items =
    search rules in
    let second : c.loop-object.columns.rest.items
    ≡ c.in-Some-next.passes ∷ c.next-in-loop-object.new.self.rest.items = search rules in
    let cut = columns_cut c.loop-object.object-iterator.rest.items c.next.new.self.rest.items c.in-Some.object
    c.loop-object.columns.rest.items c.next-in-loop-object.new.self.rest.items
    c.in-Some-next.passes first second
    c.loop-object.invariant.0 in
    column_whole c.in-Some.object c.in-Some.object.header.seats c.in-Some-next.passes cut.0

pub loop-object-preserved : goal.loop-object-preserved
loop-object-preserved g c =
    let left = c.loop-object.object-iterator.rest.items in
    let next = c.next.new.self.rest.items in
    let columns = c.loop-object.columns.rest.items in
    let nexts = c.next-in-loop-object.new.self.rest.items in
    let first : left ≡ c.in-Some.object ∷ next = search rules in
    let second : columns ≡ c.in-Some-next.passes ∷ nexts = search rules in
    let cut = columns_cut left next c.in-Some.object columns nexts c.in-Some-next.passes first second
    c.loop-object.invariant.0 in (
      cut.1,
      parts_on c.args.objects.items c.args.columns.items left next c.in-Some.object columns nexts
          c.in-Some-next.passes c.loop-object.parts.items c.push.new.self.items c.close.result first
          second c.in_ok-push.ensures.items c.close.ensures c.loop-object.invariant.1,
    )

pub returns-clause-parts : goal.returns-clause-parts
returns-clause-parts g c =
    let out = c.in-None.ensures.steps.0 in
    let fits = c.loop-object.object-iterator.rest.ok.0 in
    let none = nil_from_length c.loop-object.object-iterator.rest.items (omega (arith, out, fits)) in
    parts_end c.args.objects.items c.loop-object.object-iterator.rest.items c.args.columns.items
    c.loop-object.columns.rest.items c.loop-object.parts.items none c.loop-object.invariant.0
    c.loop-object.invariant.1
