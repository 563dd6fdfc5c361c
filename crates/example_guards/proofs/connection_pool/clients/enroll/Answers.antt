use Rattle.std.proofs.Common.{rules, ◌≡◌, ◌∷◌, sym}
use Rattle.std.specs.List.{All}
use Rattle.std.proofs.lemmas.List.Elements.{All-head, All-tail, All-same, All-push}
use Rattle.monitor.specs.Shown.{Shown}
use Rattle.word_lock.specs.Ticket.{LockId}
use Rattle.example_guards.specs.Client.{IsOf}
use Rattle.example_guards.proofs.connection_pool.clients.enroll.Goals as goal

pub loop-pass-preserved : goal.loop-pass-preserved
loop-pass-preserved c =
    let s : LockId = c.args.pool.now.lock in
    let cut : c.loop-pass.pass-iterator.rest.items ≡ c.in-Some.pass ∷ c.next.new.self.rest.items = search rules in
    let left : All (λ (p : Shown). p.lock ≡ s) (c.in-Some.pass ∷ c.next.new.self.rest.items) =
    All-same (λ (p : Shown). p.lock ≡ s) _ _ (sym cut) c.loop-pass.invariant.0 in (
      All-tail (λ (p : Shown). p.lock ≡ s) _ _ left,
      All-same (IsOf s) _ _ c.in_ok-push.ensures.items
          (All-push (IsOf s) _ _ c.loop-pass.invariant.1 (All-head (λ (p : Shown). p.lock ≡ s) _ _ left)),
    )
