use Rattle.std.proofs.Common.{◌≡◌, replicate, rules}
use Rattle.audit.specs.Waiting.{never_slept}
use Rattle.audit.proofs.WaitingFollow.{nobody_waits, stands_opened}
use Rattle.audit.proofs.waiting.Waiting.open.Goals as goal

pub returns-clause-nobody : goal.returns-clause-nobody
returns-clause-nobody c =
    let r : c.in_ok-last_sleep.last_sleep.items ≡ replicate c.args.header.seats never_slept =
    c.in_ok-last_sleep.ensures.items_if_clones_equal (λ y q. search rules) in
    let line = c.in_ok-line.ensures in
    let asleep = c.in_ok-asleep.ensures in
    nobody_waits c.args.header _ line.empty line.joined line.seats asleep.empty asleep.awake asleep.conditions
    asleep.seats r

pub returns-clause-stand : goal.returns-clause-stand
returns-clause-stand c =
    let r : c.in_ok-last_sleep.last_sleep.items ≡ replicate c.args.header.seats never_slept =
    c.in_ok-last_sleep.ensures.items_if_clones_equal (λ y q. search rules) in
    let line = c.in_ok-line.ensures in
    let asleep = c.in_ok-asleep.ensures in
    stands_opened c.args.header _
    (nobody_waits c.args.header _ line.empty line.joined line.seats asleep.empty asleep.awake
    asleep.conditions
    asleep.seats r)
