use Rattle.std.proofs.Common.{[], length, ap, sym, arith, ◌∙◌, map, replicate}
use Rattle.workers.specs.Below.{blank, opening_passes}
use Rattle.workers.specs.Prelude.{header_of, headers_of, opening_rows, dealt}
use Rattle.monitor.proofs.Opening.{opening_count}
use Rattle.workers.proofs.Columns.{headers_more, rows_count, rows_more, rows_none}
use Rattle.workers.proofs.run.open_all.Goals as goal

pub loop-place-init : goal.loop-place-init
loop-place-init c =
    let n = length c.args.script.now.workers in (
      ap (map header_of) c.new-objects.ensures.items,
      c.in_ok-rows.ensures ∙ ap (λ z. replicate (length z) []) c.workers.ensures.value ∙ rows_none 0 n
          ∙ ap (λ z. opening_rows z 0 n) (sym c.new-objects.ensures.items),
    )

pub deal-requires : goal.deal-requires
deal-requires c =
    let n = length c.args.script.now.workers in
    let object = c.in_ok-object.object in
    let dealt_out = ap length c.in_ok-object.ensures.passes
    ∙ opening_count object (blank object.header) 0 c.header_at.result.seats in
    let rows = ap length c.loop-place.invariant.1 ∙ rows_count c.loop-place.objects.items 0 n in
    let seats = c.header_at.ensures.seats in
    omega (arith, dealt_out, rows, seats)

pub loop-place-preserved : goal.loop-place-preserved
loop-place-preserved c =
    let n = length c.args.script.now.workers in
    let object = c.in_ok-object.object in
    let pushed = c.in_ok-push.ensures.items in (
      ap (map header_of) pushed
          ∙ headers_more c.loop-place.objects.items object (headers_of c.args.script.now) c.loop-place.place
          c.header_at.result c.loop-place.invariant.0 c.header_at.ensures.header
          c.in_ok-object.ensures.header,
      c.in_ok-deal.ensures
          ∙ ap (λ z. dealt z c.loop-place.rows.items) (c.in_ok-object.ensures.passes
          ∙ ap (λ k. opening_passes object (blank object.header) 0 k) c.header_at.ensures.seats)
          ∙ ap (dealt (opening_passes object (blank object.header) 0 n)) c.loop-place.invariant.1
          ∙ rows_more c.loop-place.objects.items object 0 n ∙ ap (λ z. opening_rows z 0 n) (sym pushed),
    )
