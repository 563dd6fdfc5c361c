use Rattle.std.proofs.Common.{sym, ap, subst, ◌∙◌, arith}
use Rattle.history_text.specs.Below.{Base, IsInRange}
use Rattle.history_text.specs.BaseText.{calls_sum}
use Rattle.history_text.proofs.HeadWritten.{good_spelt, head_written, sum_few}
use Rattle.history_text.proofs.history_text.put_base_head.Goals as goal

pub put_base-requires-clause-each : goal.put_base-requires-clause-each
put_base-requires-clause-each c =
    good_spelt c.args.base.now (record {
      range = subst IsInRange (sym c.requires.base.0) c.requires.range;
      some = c.requires.some;
      good = c.requires.base.1;
    })

pub calls_of-requires : goal.calls_of-requires
calls_of-requires c =
    rw (c.deref.ensures.value, ap (λ (x : Base). x.seats) c.base.view_is)
    (omega (arith, sum_few c.args.base.now c.requires.base.1, c.requires.base.1.entries))

pub returns-clause-ok : goal.returns-clause-ok
returns-clause-ok c =
    let b = c.args.base.now in
    let folded = ap (λ (x : Base). x.entries) c.base.view_is in
    let seats = c.deref.ensures.value ∙ ap (λ (x : Base). x.seats) c.base.view_is in
    let calls = c.calls_of.ensures ∙ ap calls_sum seats in
    let few = sum_few b c.requires.base.1 in
    record {
      lines = head_written b c.args.header.now c.args.out.now.items c.put_first_line.new.out.items
          c.put_base.new.out.items c.requires.some c.requires.base.0 c.in_ok-put_first_line.ensures.ok
          c.in_ok-put_base.ensures.ok;
      folded = folded;
      few = omega (arith, folded, c.requires.base.1.entries);
      calls = calls;
      some = omega (arith, folded, calls, few);
    }
