use Rattle.std.proofs.Common.{◌≡◌, ◌<◌, ◌∷◌, None, ap, ◌∙◌, sym, subst, arith, length, get_or, length-set, is_some}
use Rattle.std.proofs.lemmas.List.{get_or_read}
use Rattle.history.specs.Line.{line}
use Rattle.summing.specs.Prelude.{Passing, SeatTally, count, is_grant, more, passed, taken_anew, higher, IsPassing, no_passing, no_condition_tally, no_tally, tally, tally_after, begun}
use Rattle.summing.specs.inner.Tables.{IsFewTally}
use Rattle.summing.proofs.ConditionsFollow.{conditions_follow, few_conditions, noted_long}
use Rattle.summing.proofs.PassingsFollow.{noted_few, passed_few, passing_of, passings_follow, taken_few}
use Rattle.summing.proofs.SeatsFollow.{count_few, few_tally, tallies_follow}
use Rattle.summing.proofs.summing.Summing.follow.Goals as goal

pub passed_at-passed-requires-clause-few : goal.passed_at-passed-requires-clause-few
passed_at-passed-requires-clause-few c =
    let r = c.requires in
    let s = r.start in
    let h = r.entries in
    let i = c.args.entry.seat in
    let table = c.args.self.now.passings.items in
    let within : i < length table = omega (arith, r.seat, r.summed.passings) in
    let at : c.index-2.result.now ≡ get_or table i no_passing =
    get_or_read table i c.index-2.result.now within c.index-2.ensures no_passing in
    let noted = noted_few (is_some (begun s h i)) (taken_anew s h) (passed s h i) (get_or table i no_passing)
    (r.summed.passes i r.seat) in (
      omega (arith, r.room, passed_few s h i, noted, ap (λ (p : Passing). p.passed) at),
      omega (arith, r.room, r.summed.taken, taken_few s h),
    )

pub more-self-requires : goal.more-self-requires
more-self-requires c =
    let r = c.requires in
    omega (arith, r.room, r.summed.taken, taken_few r.start r.entries)

pub tally_after-requires : goal.tally_after-requires
tally_after-requires c =
    let r = c.requires in
    let i = c.args.entry.seat in
    let table = c.args.self.now.seats.items in
    let within : i < length table = omega (arith, r.seat, r.summed.seats) in
    let at : c.index.result.now ≡ tally r.start r.entries i =
    get_or_read table i c.index.result.now within c.index.ensures (no_tally None) ∙ r.summed.tallies i r.seat in
    subst (λ n. IsFewTally n c.index.result.now) (sym r.summed.number)
    (subst (IsFewTally (length r.entries)) (sym at)
    (few_tally r.start r.entries i (omega (arith, r.room))))

pub note_condition-requires : goal.note_condition-requires
note_condition-requires c =
    let r = c.requires in
    few_conditions r.entries c.args.self.now.conditions.items r.start.header.conditions r.summed.conditions
    (omega (arith, r.room)) r.summed.signals

pub more-self-requires-2 : goal.more-self-requires-2
more-self-requires-2 c =
    let r = c.requires in
    omega (arith, r.room, r.summed.grants, count_few (λ e. is_grant e.word) r.entries)

pub returns : goal.returns
returns c = λ s h was seat next.
    let e = c.args.entry in
    let old = c.args.self.now in
    let i = e.seat in
    let stand = c.note.ensures.follows s h was.stand seat next in
    let in_seats : i < length old.seats.items = omega (arith, seat, was.seats) in
    let in_passings : i < length old.passings.items = omega (arith, seat, was.passings) in
    let tallied : c.index.result.now ≡ tally s h i =
    get_or_read old.seats.items i c.index.result.now in_seats c.index.ensures (no_tally None)
    ∙ was.tallies i seat in
    let read : c.index-2.result.now ≡ get_or old.passings.items i no_passing =
    get_or_read old.passings.items i c.index-2.result.now in_passings c.index-2.ensures no_passing in
    let waits : c.is_some.result ≡ is_some (begun s h i) =
    c.is_some.ensures ∙ ap (λ (t : SeatTally). is_some t.begun) tallied in
    let passing : IsPassing c.is_some.result old.taken (passed s h i) c.index-2.result.now =
    passing_of c.is_some.result (is_some (begun s h i)) old.taken (taken_anew s h) (passed s h i)
    c.index-2.result.now (get_or old.passings.items i no_passing) waits was.taken read (was.passes i seat) in
    let taken : c.more-self.result ≡ taken_anew s (e ∷ h) =
    c.more-self.ensures ∙ ap (λ n. more n c.takes_anew-is_taken.result) was.taken
    ∙ ap (more (taken_anew s h)) (c.takes_anew-is_taken.ensures s h was.stand) in
    record {
      stand = stand;
      number = omega (arith, was.number);
      grants = c.more-self-2.ensures ∙ ap (λ n. more n c.is_grant.result) was.grants
          ∙ ap (more (count (λ x. is_grant x.word) h)) c.is_grant.ensures;
      taken = taken;
      highest = c.higher-self.ensures
          ∙ ap (λ n. higher n old.count old.peak) (c.queue_length.ensures s (e ∷ h) stand)
          ∙ ap (λ n. higher (length (line s (e ∷ h))) n old.peak) was.number
          ∙ ap (higher (length (line s (e ∷ h))) (length h)) was.highest;
      seats = length-set old.seats.items i c.tally_after.result ∙ was.seats;
      passings = length-set old.passings.items i
          (record { passed = c.passed_at-passed.result; mark = c.more-self.result }) ∙ was.passings;
      conditions = ap length c.note_condition.ensures ∙ noted_long e old.conditions.items ∙ was.conditions;
      tallies = tallies_follow s e h old.seats.items c.tally_after.result (no_tally None) in_seats
          (c.tally_after.ensures ∙ ap (λ n. tally_after e n c.index.result.now) was.number
          ∙ ap (tally_after e (length h)) tallied) was.tallies;
      passes = passings_follow s e h old.passings.items
          (record { passed = c.passed_at-passed.result; mark = c.more-self.result }) no_passing in_passings
          (c.passed_at-passed.ensures (passed s h i) passing) taken was.passes;
      signals = λ k lt. ap (λ xs. get_or xs k no_condition_tally) c.note_condition.ensures
          ∙ conditions_follow e h old.conditions.items s.header.conditions was.conditions was.signals k lt;
    }
