use Rattle.std.proofs.Common.{◌+◌, ◌++◌, drop, map, subst, ap, sym, ◌∙◌, arith, List}
use Rattle.std.specs.List.{AllByRecursion}
use Rattle.history_text.specs.Prelude.{BaseLine, Sleeps, IsBaseLine, sleeper_lines, lines_text}
use Rattle.history_text.proofs.BaseWritten.{front_kept, lines_written, lists_left}
use Rattle.history_text.proofs.Lists.{each_back, each_front}
use Rattle.history_text.proofs.base_writing.put_sleepers.Goals as goal

pub put_asleep-requires : goal.put_asleep-requires
put_asleep-requires c =
    let is = c.deref.ensures.value ∙ ap (λ v. v.items) c.index-lists-condition.is in
    let left = lists_left (λ list. list.items) c.args.lists.now c.loop-condition.condition
    c.index-lists-condition.result c.deref.result.now c.loop-condition-test.true is in
    each_front IsBaseLine _ _ (subst (AllByRecursion IsBaseLine) left c.loop-condition.invariant.each)

pub loop-condition-preserved : goal.loop-condition-preserved
loop-condition-preserved c =
    let i = c.loop-condition.condition in
    let was = c.loop-condition.invariant in
    let is = c.deref.ensures.value ∙ ap (λ v. v.items) c.index-lists-condition.is in
    let left = lists_left (λ list. list.items) c.args.lists.now i c.index-lists-condition.result
    c.deref.result.now c.loop-condition-test.true is in
    let first = map (Sleeps i) c.deref.result.now in
    let rest = sleeper_lines (i + 1) (drop (i + 1) (map (λ list. list.items) c.args.lists.now)) in
    record {
      lines = lines_written c.loop-condition.out.items c.put_asleep.new.out.items first rest _
          (ap (λ (l : List BaseLine). c.loop-condition.out.items ++ lines_text l) (sym left) ∙ was.lines)
          c.in_ok-put_asleep.ensures.ok;
      kept = front_kept _ _ _ _ was.kept c.in_ok-put_asleep.ensures.ok;
      each = each_back IsBaseLine first rest (subst (AllByRecursion IsBaseLine) left was.each);
      inside = omega (arith, c.loop-condition-test.true);
    }
