use Rattle.std.proofs.Common.{rules, ◌≡◌, ◌∷◌, Some, arith, length, ap, refl, sym, ◌∙◌}
use Rattle.std.proofs.lemmas.Option.{slice_get_read}
use Rattle.std.specs.List.{slice_get}
use Rattle.std.specs.declared.thread.PromisedHandle.{PromisedHandle}
use Rattle.workers.specs.declared.threads.Works.{Works}
use Rattle.workers.specs.declared.work.Worked.{Worked}
use Rattle.workers.proofs.Starting.{each_more, left_at, left_more}
use Rattle.workers.proofs.threads.start_all.Goals as goal

pub loop-passes-preserved : goal.loop-passes-preserved
loop-passes-preserved g c =
    let i = c.loop-passes.invariant in
    let k = c.loop-passes.place in
    let old = c.loop-passes.handles.items in
    let all = c.push.new.self.items in
    let rest = c.next.new.self.rest.items in
    let cut : c.loop-passes.passes-iterator.rest.items ≡ c.in-Some.passes ∷ rest = search rules in
    let left = i.1 ∙ cut in
    let count = i.2 in
    let whole = ap length cut in
    let fewer = i.0 in let capacity = c.loop-passes.handles.ok.0 in
    let pushed = c.in_ok-push.ensures.items in
    let grown = c.in_ok-push.ensures.len in
    let as_many : length old ≡ k = omega (arith, fewer, capacity) in
    let promise = c.in-Ok.ensures.ok in
    let worker =
    slice_get_read c.args.workers.now (length c.args.workers.now) k c.index-workers-place.result refl
    (omega (arith, count, whole)) c.index-workers-place.is in (
      omega (arith, fewer, grown),
      left_more c.args.rows.items k c.in-Some.passes rest left,
      omega (arith, count, whole),
      each_more (λ n (h : PromisedHandle Worked (Works g.row.G.Denot)). h.promise.gate.now ≡
          c.args.gate.now) old
          c.in-Ok.handle k all pushed as_many i.3 (ap (λ (p : Works g.row.G.Denot). p.gate.now) promise),
      each_more (λ n (h : PromisedHandle Worked (Works g.row.G.Denot)). h.promise.seat ≡ n) old
          c.in-Ok.handle k all
          pushed as_many i.4 (ap (λ (p : Works g.row.G.Denot). p.seat) promise),
      each_more (λ n (h : PromisedHandle Worked (Works g.row.G.Denot)).
          slice_get c.args.workers.now n ≡ Some h.promise.worker.now) old c.in-Ok.handle k all
          pushed as_many i.5
          (worker ∙ ap Some (sym (ap (λ (p : Works g.row.G.Denot). p.worker.now) promise))),
      each_more (λ n (h : PromisedHandle Worked (Works g.row.G.Denot)).
          slice_get c.args.rows.items n ≡ Some h.promise.passes.value) old c.in-Ok.handle k all
          pushed as_many i.6
          (left_at c.args.rows.items k c.in-Some.passes rest left
          ∙ ap Some (sym (ap (λ (p : Works g.row.G.Denot). p.passes.value) promise ∙ c.of.ensures))),
    )
