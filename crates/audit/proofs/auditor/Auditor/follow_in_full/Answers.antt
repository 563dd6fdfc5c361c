use Rattle.std.proofs.Common.{arith, sym, ◌∙◌}
use Rattle.std.proofs.lemmas.Bool.{false≢true}
use Rattle.audit.proofs.Fronts.{has_seat, wrong_now, wrong_still}
use Rattle.audit.proofs.auditor.Auditor.follow_in_full.Goals as goal
use Rattle.audit.proofs.auditor.Auditor.follow_in_full.Goals.{in-Some, in-None+then-admits, in-None+else-admits}

pub admits-requires : goal.admits-requires
admits-requires c =
    let r = c.requires in
    has_seat r.start r.entries c.args.self.now.ledger c.args.entry.seat
    (rw c.in-None.is at r.judged.so_far) r.seat r.room

pub follow-requires-clause-next : goal.follow-requires-clause-next
follow-requires-clause-next c = λ s h st. (c.admits.ensures s h st).0 c.if-admits.true

pub returns : goal.returns
returns c = λ s h was seat.
    let e = c.args.entry in
    elim c.match-self.branch [
      | in-Some w ↦
          let so_far = rw w.in-Some.is at was.so_far in
          rw w.self-is (record {
            count = omega (arith, was.count);
            so_far = rw w.in-Some.is (wrong_still s h e _ so_far.0 so_far.1);
          })
      | in-None+then-admits w ↦
          let stands = rw w.in-None.is at was.so_far in
          rw w.self-is (record {
            count = omega (arith, was.count);
            so_far = rw w.in-None.is (w.follow.ensures s h stands seat);
          })
      | in-None+else-admits w ↦
          let stands = rw w.in-None.is at was.so_far in
          let wrong =
          wrong_now s h e stands.past.legal (λ next. false≢true (sym w.if-admits.false
          ∙ (w.admits.ensures s h stands).1 next)) in
          rw w.self-is (record { count = omega (arith, was.count); so_far = rw was.count wrong })
    ]
