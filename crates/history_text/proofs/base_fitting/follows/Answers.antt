use Rattle.std.proofs.Common.{true, false, List, map, refl, ap, subst, ◌∙◌}
use Rattle.history_text.specs.Below.{LinePlace, Base}
use Rattle.history_text.specs.Prelude.{Stands, seat_lines, sleeper_lines}
use Rattle.history_text.specs.inner.BaseFollowing.{HaveFollowed}
use Rattle.history_text.proofs.BaseFollowed.{behind_seats, first_taken, last_taken, neither, refused, seats_taken, taken}
use Rattle.history_text.proofs.base_fitting.follows.Goals as goal

pub returns-then-not-follow_seats : goal.returns-then-not-follow_seats
returns-then-not-follow_seats c =
    let b = c.args.base.now in
    let first = first_taken b _ c.follow.new.so_far _ c.new-so_far.ensures c.first_line.ensures
    c.if-not-follow.ensures in
    neither (refused b _ _ _ _ (seat_lines 0 b.seats) (behind_seats b) refl first
    c.if-not-follow_seats.ensures)

pub returns-then-not-follow_standings : goal.returns-then-not-follow_standings
returns-then-not-follow_standings c =
    let b = c.args.base.now in
    let line = c.deref.ensures.value ∙ ap (λ (a : Base). a.line) c.base.view_is in
    let seats = seats_taken b _ c.follow.new.so_far c.follow_seats.new.so_far _ c.new-so_far.ensures
    c.first_line.ensures c.if-not-follow.ensures c.if-not-follow_seats.ensures in
    neither (refused b _ _ _ _ (map Stands b.line) (sleeper_lines 0 b.sleepers) refl seats
    (subst (λ (l : List LinePlace). HaveFollowed false b c.follow_seats.new.so_far
    c.follow_standings.new.so_far (map Stands l)) line c.if-not-follow_standings.ensures))

pub returns : goal.returns
returns c =
    let b = c.args.base.now in
    let line = c.deref.ensures.value ∙ ap (λ (a : Base). a.line) c.base.view_is in
    let seats = seats_taken b _ c.follow.new.so_far c.follow_seats.new.so_far _ c.new-so_far.ensures
    c.first_line.ensures c.if-not-follow.ensures c.if-not-follow_seats.ensures in
    let standings = taken b _ _ c.follow_standings.new.so_far _ _ (map Stands b.line)
    (sleeper_lines 0 b.sleepers) refl seats (subst (λ (l : List LinePlace). HaveFollowed true b c.follow_seats.new.so_far
    c.follow_standings.new.so_far (map Stands l)) line c.if-not-follow_standings.ensures) in
    last_taken _ b _ c.follow_sleepers.new.so_far _ standings c.follow_sleepers.ensures
