use Rattle.std.proofs.Common.{rules, ◌≡◌, ◌∷◌, ◌∙◌, length, ap, sym, arith, length-append}
use Rattle.std.specs.List.{All}
use Rattle.std.proofs.lemmas.List.Elements.{All-head, All-tail, All-same, All-push}
use Rattle.monitor.specs.Shown.{Shown}
use Rattle.word_lock.specs.Ticket.{LockId}
use Rattle.example_guards.specs.Worker.{IsAt}
use Rattle.example_guards.proofs.latch_workers.worker.part.Goals as goal

pub loop-worker-preserved : goal.loop-worker-preserved
loop-worker-preserved c =
    let s : LockId = c.args.shift.now.start in
    let e : LockId = c.args.shift.now.end in
    let cut : c.loop-worker.worker-iterator.rest.items ≡ c.in-Some.worker ∷ c.next.new.self.rest.items =
    search rules in
    let all : All (IsAt s e) (c.in-Some.worker ∷ c.next.new.self.rest.items) =
    All-same (IsAt s e) _ _ (sym cut) c.loop-worker.invariant.0 in
    let here : IsAt s e c.in-Some.worker = All-head (IsAt s e) _ _ all in
    let fewer = ap length cut in
    let start_more = ap length c.in_ok-push.ensures.items ∙ length-append c.loop-worker.starts.items _ in
    let end_more = ap length c.in_ok-push-2.ensures.items ∙ length-append c.loop-worker.ends.items _ in
    let starts = c.loop-worker.invariant.3 in
    let ends = c.loop-worker.invariant.4 in (
      All-tail (IsAt s e) _ _ all,
      All-same (λ (p : Shown). p.lock ≡ s) _ _ c.in_ok-push.ensures.items
          (All-push (λ (p : Shown). p.lock ≡ s) _ c.in-Some.worker.start c.loop-worker.invariant.1 here.0),
      All-same (λ (p : Shown). p.lock ≡ e) _ _ c.in_ok-push-2.ensures.items
          (All-push (λ (p : Shown). p.lock ≡ e) _ c.in-Some.worker.end c.loop-worker.invariant.2 here.1),
      omega (arith, fewer, start_more, starts),
      omega (arith, fewer, end_more, ends),
    )
