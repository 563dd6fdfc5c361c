use Rattle.std.proofs.Common.{refl}
use Rattle.driver.proofs.Judging.{follows_on, on_ok}
use Rattle.driver.proofs.judged.Following.follow.Goals as goal

pub follow-requires : goal.follow-requires
follow-requires c =
    let r = c.requires in
    record {
      start = r.start;
      entries = r.entries;
      judged = r.follows.judged;
      seat = r.seat;
      room = r.room;
    }

pub sum_up-requires : goal.sum_up-requires
sum_up-requires c =
    let r = c.requires in
    record {
      start = r.start;
      entries = r.entries;
      sums = r.follows.sums;
      seat = r.seat;
      room = r.room;
      legal = c.is_legal.ensures r.start _ (c.follow.ensures r.start r.entries r.follows.judged r.seat);
    }

pub returns-clause-follows : goal.returns-clause-follows
returns-clause-follows c =
    on_ok c.keep.result (λ kept s h was seat room.
    follows_on c.args.self.now _ c.args.entry s h refl c.follow.ensures kept
    (λ sums. c.sum_up.ensures.sums s h sums seat room
    (c.is_legal.ensures s _ (c.follow.ensures s h was.judged seat))) was seat) c.keep.ensures
