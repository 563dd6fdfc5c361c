use Rattle.std.proofs.Common.{rules, ◌≡◌, ◌∷◌, subst, sym}
use Rattle.std.specs.List.{All}
use Rattle.std.specs.declared.thread.PromisedHandle.{PromisedHandle}
use Rattle.std.proofs.lemmas.List.Elements.{All-head, All-tail, All-same, All-push}
use Rattle.example_guards.specs.Worker.{IsAt}
use Rattle.example_guards.specs.declared.latch_workers.shift.Shift.{Shift}
use Rattle.example_guards.specs.declared.latch_workers.threads.ComesBack.{ComesBack}
use Rattle.example_guards.specs.declared.latch_workers.worker.Worker.{Worker}
use Rattle.example_guards.proofs.latch_workers.threads.join_all.Goals as goal

pub loop-handle-preserved : goal.loop-handle-preserved
loop-handle-preserved g c =
    let shift : Shift = c.args.shift.now in
    let cut : c.loop-handle.handle-iterator.rest.items ≡ c.in-Some.handle ∷ c.next.new.self.rest.items =
    search rules in
    let all : All (λ (h : PromisedHandle Worker ComesBack). h.promise.shift.now ≡ shift)
    (c.in-Some.handle ∷ c.next.new.self.rest.items) =
    All-same (λ (h : PromisedHandle Worker ComesBack). h.promise.shift.now ≡ shift) _ _ (sym cut)
    c.loop-handle.invariant.0 in
    let here : c.in-Some.handle.promise.shift.now ≡ shift =
    All-head (λ (h : PromisedHandle Worker ComesBack). h.promise.shift.now ≡ shift) _ _ all in
    let back : IsAt shift.start shift.end c.join.result =
    subst (λ (z : Shift). IsAt z.start z.end c.join.result) here c.join.ensures in (
      All-tail (λ (h : PromisedHandle Worker ComesBack). h.promise.shift.now ≡ shift) _ _ all,
      All-same (IsAt shift.start shift.end) _ _ c.in_ok-push.ensures.items
          (All-push (IsAt shift.start shift.end) _ c.join.result c.loop-handle.invariant.1 back),
    )
