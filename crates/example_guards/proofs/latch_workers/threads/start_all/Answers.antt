use Rattle.std.proofs.Common.{rules, ◌≡◌, ◌∷◌, ap, sym}
use Rattle.std.specs.List.{All}
use Rattle.std.specs.declared.thread.PromisedHandle.{PromisedHandle}
use Rattle.std.proofs.lemmas.List.Elements.{All-tail, All-same, All-push}
use Rattle.word_lock.specs.Ticket.{LockId}
use Rattle.example_guards.specs.Worker.{IsAt}
use Rattle.example_guards.specs.declared.latch_workers.threads.ComesBack.{ComesBack}
use Rattle.example_guards.specs.declared.latch_workers.worker.Worker.{Worker}
use Rattle.example_guards.proofs.latch_workers.threads.start_all.Goals as goal

pub loop-worker-preserved : goal.loop-worker-preserved
loop-worker-preserved g c =
    let s : LockId = c.args.shift.now.start in
    let e : LockId = c.args.shift.now.end in
    let cut : c.loop-worker.worker-iterator.rest.items ≡ c.in-Some.worker ∷ c.next.new.self.rest.items =
    search rules in
    let all : All (IsAt s e) (c.in-Some.worker ∷ c.next.new.self.rest.items) =
    All-same (IsAt s e) _ _ (sym cut) c.loop-worker.invariant.0 in (
      All-tail (IsAt s e) _ _ all,
      All-same (λ (h : PromisedHandle Worker ComesBack). h.promise.shift.now ≡ c.args.shift.now) _ _
          c.in_ok-push.ensures.items
          (All-push (λ (h : PromisedHandle Worker ComesBack). h.promise.shift.now ≡ c.args.shift.now) _
          c.in-Ok.handle c.loop-worker.invariant.1 (ap (λ (p : ComesBack). p.shift.now) c.in-Ok.ensures.ok)),
    )
