use Rattle.std.proofs.Common.{rules, ◌≡◌, ℕ, suc, ◌+◌, ◌<◌, ◌∷◌, ◌++◌, ap, ◌∙◌, sym, arith, []}
use Rattle.word_lock.specs.Ticket.{opening_tickets}
use Rattle.monitor.specs.Prelude.{blank, opening_passes, shown}
use Rattle.monitor.proofs.Opening.{next_ticket, none_left, opening_is_pass, opening_passes_more}
use Rattle.monitor.proofs.monitor.give_passes.Goals as goal

pub invariant_of-push_reserved : goal.invariant_of-push_reserved
invariant_of-push_reserved g c =
    let i = c.loop-token.invariant.0 in let lock = c.args.lock.now in
    let cut : c.loop-token.token-iterator.rest.items ≡ c.in-Some.token ∷ c.next.new.self.rest.items =
    search rules in
    let t = next_ticket lock (blank lock.header) c.loop-token.seat i.0 c.in-Some.token
    c.next.new.self.rest.items (sym i.2 ∙ cut) in
    let n : i.0 ≡ suc t.0 = t.1 in
    let below : c.loop-token.seat < lock.header.seats = let a = i.1 in let b =
    c.requires.seats in omega (arith, n, a, b) in
    opening_is_pass lock c.in-Some.token c.loop-token.seat t.2 below c.requires.lawful

pub loop-token-preserved : goal.loop-token-preserved
loop-token-preserved g c =
    let i = c.loop-token.invariant.0 in let lock = c.args.lock.now in let k : ℕ = c.loop-token.seat in
    let cut : c.loop-token.token-iterator.rest.items ≡ c.in-Some.token ∷ c.next.new.self.rest.items =
    search rules in
    let t = next_ticket lock (blank lock.header) k i.0 c.in-Some.token c.next.new.self.rest.items
    (sym i.2 ∙ cut) in
    let n : i.0 ≡ suc t.0 = t.1 in let a = i.1 in
    let up : suc k ≡ k + 1 = omega arith in let here : k ≡ 0 + k = omega arith in (
      (t.0, omega (arith, n, a), t.3 ∙ ap (λ (z : ℕ). opening_tickets lock (blank lock.header) z t.0) up),
      c.push_reserved.ensures.items
          ∙ ((λ d. c.loop-token.invariant.1 d ++ shown (t.2 d) k 0 ∷ [])
          ∙ (opening_passes_more lock (blank lock.header) 0 k k here
          ∙ ap (λ (z : ℕ). opening_passes lock (blank lock.header) 0 z) up)),
      search rules,
      search rules,
      search rules,
    )

pub returns-clause-passes : goal.returns-clause-passes
returns-clause-passes g c =
    let i = c.loop-token.invariant.0 in let lock = c.args.lock.now in
    let none : c.loop-token.token-iterator.rest.items ≡ [] = search rules in
    let n : i.0 ≡ 0 = none_left lock (blank lock.header) c.loop-token.seat i.0 (sym i.2 ∙ none) in
    let all : c.loop-token.seat ≡ c.args.seats = let a = i.1 in omega (arith, a, n) in
    c.loop-token.invariant.1 ∙ ap (λ (z : ℕ). opening_passes lock (blank lock.header) 0 z) all
