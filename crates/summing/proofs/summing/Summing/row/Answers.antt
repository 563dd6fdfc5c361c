use Rattle.std.proofs.Common.{◌≡◌, ◌<◌, ◌≤◌, None, IfSome, ap, ◌∙◌, sym, subst, arith, length, get_or, is_some}
use Rattle.std.proofs.lemmas.List.{get_or_read}
use Rattle.summing.specs.Prelude.{Passing, SeatTally, passed, taken_anew, no_passing, no_tally, tally, begun}
use Rattle.summing.proofs.PassingsFollow.{noted_few, passed_few, taken_few}
use Rattle.summing.proofs.SeatsFollow.{begun_within}
use Rattle.summing.proofs.summing.Summing.row.Goals as goal

pub longest_at-requires : goal.longest_at-requires
longest_at-requires c =
    let r = c.requires.0 in
    let i = c.args.seat in
    let seat : i < r.start.header.seats = omega (arith, c.requires.1, r.summed.seats) in
    let at : c.index-tally.result.now ≡ tally r.start r.entries i =
    get_or_read c.args.self.now.seats.items i c.index-tally.result.now c.requires.1 c.index-tally.ensures
    (no_tally None) ∙ r.summed.tallies i seat in
    subst (λ (t : SeatTally). IfSome t.begun (λ place. place ≤ c.args.self.now.count)) (sym at)
    (subst (λ n. IfSome (begun r.start r.entries i) (λ place. place ≤ n)) (sym r.summed.number)
    (begun_within r.start r.entries i))

pub passed_at-requires-clause-few : goal.passed_at-requires-clause-few
passed_at-requires-clause-few c =
    let r = c.requires.0 in
    let s = r.start in
    let h = r.entries in
    let i = c.args.seat in
    let seat : i < s.header.seats = omega (arith, c.requires.1, r.summed.seats) in
    let table = c.args.self.now.passings.items in
    let within : i < length table = omega (arith, seat, r.summed.passings) in
    let at : c.index-passing.result.now ≡ get_or table i no_passing =
    get_or_read table i c.index-passing.result.now within c.index-passing.ensures no_passing in
    let noted = noted_few (is_some (begun s h i)) (taken_anew s h) (passed s h i) (get_or table i no_passing)
    (r.summed.passes i seat) in (
      omega (arith, r.few, passed_few s h i, noted, ap (λ (p : Passing). p.passed) at),
      omega (arith, r.few, r.summed.taken, taken_few s h),
    )
