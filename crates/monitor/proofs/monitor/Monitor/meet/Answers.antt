use Rattle.std.proofs.Common.{subst}
use Rattle.monitor.specs.Prelude.{CalledQuietly, Shown, IsPass, shown}
use Rattle.monitor.proofs.Sections.{met, met_called}
use Rattle.monitor.proofs.monitor.Monitor.meet.Goals as goal

first : (g : _) (c : goal.After-meet-a g) → IsPass c.meet-a.result.0 c.one.inside.seat c.one.inside.share
first g c =
    let m = c.meet-a.ensures in
    met c.one.inside.token _ _ c.one.inside.seat c.one.inside.share m.one c.one.invariant m.sound m.begins.0 m.entries.0

second : (g : _) (c : goal.After-meet-a g) → IsPass c.meet-a.result.1 c.two.inside.seat c.two.inside.share
second g c =
    let m = c.meet-a.ensures in
    met c.two.inside.token _ _ c.two.inside.seat c.two.inside.share m.two c.two.invariant m.sound m.begins.1 m.entries.1

pub invariant_of-one : goal.invariant_of-one
invariant_of-one g c = first g c

pub invariant_of-two : goal.invariant_of-two
invariant_of-two g c = second g c

pub returns-clause-called : goal.returns-clause-called
returns-clause-called g c =
    let m = c.meet-a.ensures in (
      subst (λ (s : Shown). CalledQuietly s (shown c.meet-a.result.0 c.one.inside.seat c.one.inside.share)) c.one.view_is
          (met_called c.one.inside.token c.meet-a.result.0 _ _ _ m.one (first g c) m.begins.0),
      subst (λ (s : Shown). CalledQuietly s (shown c.meet-a.result.1 c.two.inside.seat c.two.inside.share)) c.two.view_is
          (met_called c.two.inside.token c.meet-a.result.1 _ _ _ m.two (second g c) m.begins.1),
    )
