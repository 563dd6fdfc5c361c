use Rattle.std.proofs.Common.{rules, ◌≡◌, ◌∷◌, sym}
use Rattle.std.specs.List.{All}
use Rattle.std.proofs.lemmas.List.Elements.{All-head, All-tail, All-same, All-push}
use Rattle.monitor.specs.Shown.{Shown}
use Rattle.word_lock.specs.Ticket.{LockId}
use Rattle.example_guards.specs.Worker.{IsAt}
use Rattle.example_guards.specs.declared.latch_workers.worker.Worker.{Worker}
use Rattle.example_guards.proofs.latch_workers.worker.pair_up.Goals as goal

pub loop-end-preserved : goal.loop-end-preserved
loop-end-preserved c =
    let s : LockId = c.args.shift.now.start in
    let e : LockId = c.args.shift.now.end in
    let starts : c.loop-end.starts.rest.items ≡ c.in-Some-next.start ∷
    c.next-in-loop-end.new.self.rest.items =
    search rules in
    let ends : c.loop-end.end-iterator.rest.items ≡ c.in-Some.end ∷ c.next.new.self.rest.items =
    search rules in
    let left : All (λ (p : Shown). p.lock ≡ s) (c.in-Some-next.start ∷
    c.next-in-loop-end.new.self.rest.items) =
    All-same (λ (p : Shown). p.lock ≡ s) _ _ (sym starts) c.loop-end.invariant.0 in
    let right : All (λ (p : Shown). p.lock ≡ e) (c.in-Some.end ∷ c.next.new.self.rest.items) =
    All-same (λ (p : Shown). p.lock ≡ e) _ _ (sym ends) c.loop-end.invariant.1 in
    let worker : Worker = record { start = c.in-Some-next.start; end = c.in-Some.end } in (
      All-tail (λ (p : Shown). p.lock ≡ s) _ _ left,
      All-tail (λ (p : Shown). p.lock ≡ e) _ _ right,
      All-same (IsAt s e) _ _ c.in_ok-push.ensures.items
          (All-push (IsAt s e) _ worker c.loop-end.invariant.2
          (All-head (λ (p : Shown). p.lock ≡ s) _ _ left, All-head (λ (p : Shown). p.lock ≡ e) _ _ right)),
    )
