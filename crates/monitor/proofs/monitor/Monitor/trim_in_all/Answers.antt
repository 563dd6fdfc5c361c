use Rattle.std.proofs.Common.{ℕ, ◌∙◌, sym, ap}
use Rattle.word_lock.specs.Held.{held_ticket}
use Rattle.monitor.specs.Below.{CoreView, Point}
use Rattle.monitor.specs.Lawful.{point_of}
use Rattle.monitor.specs.Stepping.{in_all}
use Rattle.monitor.proofs.Sections.{call_woken}
use Rattle.monitor.proofs.Trims.{Trim, follows_trimmed, trim_called, trim_is, trim_of, trim_pass, trim_seen}
use Rattle.monitor.proofs.monitor.Monitor.trim_in_all.Goals as goal

pub unlock-requires-clause-follows : goal.unlock-requires-clause-follows
unlock-requires-clause-follows g c =
    follows_trimmed c.pass.inside.token _ c.lock-turn.result.value.laden.value.core _ _ c.pass.inside.share
    c.trim-trimmed.result c.lock-turn.ensures.taken.1 c.pass.invariant c.lock-turn.ensures.fact.0
    c.trim-trimmed.ensures.kept c.trim-trimmed.ensures.trimmed

trims : (g : _) (c : goal.After-in_all g) → Trim c.pass.inside.token (held_ticket c.lock-turn.result)
    c.unlock.new.token (point_of c.lock-turn.result.value.laden.value.core)
    (point_of c.trim-trimmed.new.self.laden.value.core) c.pass.inside.seat c.pass.inside.share
    c.trim-trimmed.result
trims g c =
    trim_of _ _ c.lock-turn.result.value.laden.value.core c.trim-trimmed.new.self.laden.value.core _ _ _ _
    c.lock-turn.ensures.taken.1 c.unlock.ensures.token c.pass.invariant c.lock-turn.ensures.begins
    c.lock-turn.ensures.entries c.lock-turn.ensures.fact.0 c.trim-trimmed.ensures.kept c.trim-trimmed.ensures.trimmed

pub invariant_of-pass : goal.invariant_of-pass
invariant_of-pass g c = trim_pass _ _ _ _ _ _ _ _ (trims g c)

pub returns-clause-trimmed : goal.returns-clause-trimmed
returns-clause-trimmed g c =
    let count = c.trim-trimmed.result in
    rw (← c.pass.view_is) (
      count,
      trim_is _ _ _ _ _ _ _ _ (trims g c),
      c.in_all.ensures
          ∙ (ap (λ (n : ℕ). in_all count n) c.folded_in-folded.ensures
          ∙ (ap (λ (v : CoreView). in_all count v.base.entries) c.core.ensures
          ∙ ap (λ (p : Point). in_all count p.base.entries) (sym (trim_seen _ _ _ _ _ _ _ _ (trims g c))))),
    )

pub returns-clause-called : goal.returns-clause-called
returns-clause-called g c =
    rw (← c.pass.view_is) (call_woken _ _ (trim_called _ _ _ _ _ _ _ _ (trims g c)) c.unlock.ensures.woken)
