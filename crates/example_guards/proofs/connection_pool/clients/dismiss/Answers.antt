use Rattle.std.proofs.Common.{rules, ◌≡◌, ◌∷◌, sym}
use Rattle.std.specs.List.{All}
use Rattle.std.proofs.lemmas.List.Elements.{All-head, All-tail, All-same, All-push}
use Rattle.monitor.specs.Shown.{Shown}
use Rattle.word_lock.specs.Ticket.{LockId}
use Rattle.example_guards.specs.Client.{IsOf}
use Rattle.example_guards.proofs.connection_pool.clients.dismiss.Goals as goal

pub loop-client-preserved : goal.loop-client-preserved
loop-client-preserved c =
    let s : LockId = c.args.pool.now.lock in
    let cut : c.loop-client.client-iterator.rest.items ≡ c.in-Some.client ∷ c.next.new.self.rest.items =
    search rules in
    let all : All (IsOf s) (c.in-Some.client ∷ c.next.new.self.rest.items) =
    All-same (IsOf s) _ _ (sym cut) c.loop-client.invariant.0 in (
      All-tail (IsOf s) _ _ all,
      All-same (λ (p : Shown). p.lock ≡ s) _ _ c.in_ok-push.ensures.items
          (All-push (λ (p : Shown). p.lock ≡ s) _ c.in-Some.client.pass c.loop-client.invariant.1
          (All-head (IsOf s) _ _ all)),
    )
