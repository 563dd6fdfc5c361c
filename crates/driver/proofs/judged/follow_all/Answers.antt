use Rattle.std.proofs.Common.{Option, [], refl, subst, arith, ◌∷◌, ◌++◌, ◌∙◌, reverse}
use Rattle.std.specs.Option.{option_copied}
use Rattle.driver.specs.Below.{Header, Base, based, or_opening, head_of}
use Rattle.driver.specs.HistoryReader.{base_held}
use Rattle.driver.specs.inner.Judged.{Follows}
use Rattle.streams.proofs.Faults.{err_is}
use Rattle.driver.proofs.EntriesAhead.{entries_memory, entries_memory_at_end, entries_no_further}
use Rattle.driver.proofs.Judging.{all_followed, reading_on, room_on, seat_based}
use Rattle.driver.proofs.ReadingAhead.{goes_on}
use Rattle.driver.proofs.judged.follow_all.Goals as goal

pub loop-following-init : goal.loop-following-init
loop-following-init g c =
    let first = c.args.entries.now in
    record {
      going = c.requires.reader;
      reading = record {
        entries = [];
        read = λ text were. were;
        follows = subst (λ (o : Option Base). Follows (based (or_opening first.header o)) [] c.in-Ok.following)
            c.base.ensures.value
            (subst (λ (k : Header). Follows (based (or_opening k (option_copied c.base.result))) []
            c.in-Ok.following) c.header-header.ensures.value c.in-Ok.ensures.follows);
        header = refl;
        base = refl;
        count = c.requires.fresh.count;
        calls = c.requires.fresh.calls;
        few = omega arith;
        summing = c.in-Ok.ensures.summing ∙ c.is_summed.ensures;
        range = c.header-header.ensures.range;
        well = c.base.ensures.well;
      };
    }

pub follow-requires : goal.follow-requires
follow-requires g c =
    let was = c.loop-following in
    let j = was.invariant.reading in
    let counted = rw c.in-Some.is at c.in_ok-entry.ensures.counted in
    record {
      start = based (base_held c.args.entries.now);
      entries = j.entries;
      follows = j.follows;
      seat = seat_based c.args.entries.now was.entries c.next.new.self c.in-Some.entry j.header j.well counted;
      room = room_on c.args.entries.now was.entries c.next.new.self c.in-Some.entry _ j.header counted j.count j.range;
    }

pub loop-following-preserved : goal.loop-following-preserved
loop-following-preserved g c =
    let was = c.loop-following in
    record {
      going = goes_on c.in_ok-entry.field-0 (g.R.Source.failed c.next.new.reader)
          (λ t. c.in_ok-entry.ensures.failing.1 t);
      reading =
          reading_on c.args.entries.now was.entries c.next.new.self (g.R.Source.left c.args.reader.now)
          (g.R.Source.left was.reader) (g.R.Source.left c.next.new.reader) c.args.telling was.following
          c.follow.new.self c.in-Some.entry
          (rw c.in-Some.is at c.in_ok-entry.ensures.next) c.in_ok-entry.ensures.header
          c.in_ok-entry.ensures.base (rw c.in-Some.is at c.in_ok-entry.ensures.counted)
          c.in-Ok-follow.ensures.follows c.follow.ensures.summing
          was.invariant.reading;
    }

pub returns-clause-ok : goal.returns-clause-ok
returns-clause-ok g c =
    let was = c.loop-following in
    all_followed c.args.entries.now was.entries c.next.new.self (g.R.Source.left c.args.reader.now)
    (g.R.Source.left was.reader) (g.R.Source.left c.next.new.reader) c.args.telling was.following
    (rw c.in_default-2.is at c.in_ok-entry.ensures.next) c.in_ok-entry.ensures.header
    c.in_ok-entry.ensures.base (rw c.in_default-2.is at c.in_ok-entry.ensures.counted)
    was.invariant.reading

pub returns-in_default-clause-err : goal.returns-in_default-clause-err
returns-in_default-clause-err g c = λ text were.
    let first = c.args.entries.now in
    entries_no_further (head_of (base_held first)) (base_held first) [] first.place text first.bytes
    (g.R.Source.left c.args.reader.now) c.header-header.ensures.held were

pub returns-in_err-entry-clause-err : goal.returns-in_err-entry-clause-err
returns-in_err-entry-clause-err g c =
    let was = c.loop-following in
    let passed = c.from_residual in
    let j = was.invariant.reading in
    rw (err_is passed.result c.in_err-entry.field-0.0 passed.ensures) (λ text were.
    c.in_err-entry.ensures.next text (reverse j.entries) (j.read text were))

pub returns-in-Err-clause-err : goal.returns-in-Err-clause-err
returns-in-Err-clause-err g c =
    let j = c.loop-following.invariant.reading in
    let next = rw c.in-Some.is at c.in_ok-entry.ensures.next in
    entries_memory c.args.entries.now c.next.new.self (reverse j.entries ++ c.in-Some.entry ∷ [])
    (g.R.Source.left c.args.reader.now) (g.R.Source.left c.next.new.reader) c.in_ok-entry.ensures.held
    (λ text were. next text (reverse j.entries) (j.read text were))

pub returns-clause-memory : goal.returns-clause-memory
returns-clause-memory g c =
    let was = c.loop-following in
    let j = was.invariant.reading in
    entries_memory_at_end c.args.entries.now was.entries c.next.new.self (reverse j.entries)
    (g.R.Source.left c.args.reader.now) (g.R.Source.left was.reader) (g.R.Source.left c.next.new.reader)
    c.in_ok-entry.ensures.held (rw c.in_default-2.is at c.in_ok-entry.ensures.stands) j.read
