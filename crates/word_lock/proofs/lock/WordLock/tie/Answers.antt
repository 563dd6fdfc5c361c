use Rattle.std.proofs.Common.{rules, sym, ap, ◌∙◌}
use Rattle.std.specs.declared.option.Option.{Option as Maybe}
use Rattle.atomic_table.specs.Table.{Me}
use Rattle.word_lock.specs.declared.view.View.{View}
use Rattle.word_lock.proofs.Joining.{joins}
use Rattle.word_lock.proofs.Looking.{looks}
use Rattle.word_lock.proofs.Meeting.{tied}
use Rattle.word_lock.proofs.lock.WordLock.tie.Goals as goal

pub join_seat-requires : goal.join_seat-requires
join_seat-requires g c = let t = g.T.Chronicle in let i = c.requires.idle in (
  search rules,
  search rules,
  i.1,
  search rules,
  joins t.point t.fact t.sound _ _ _ _ _ i.2.0 i.3.0 i.2.1 i.3.1,
)

pub load-requires : goal.load-requires
load-requires g c = let t = g.T.Chronicle in let i = c.requires.idle in
    let M : Type 0 = Me (Maybe g.row.T.Denot) View in
    let joined = c.join_seat.ensures.2 in (
      search rules,
      search rules,
      looks t.point t.fact t.sound _ _ _ _ (ap (λ (m : M). m.0.holds) joined ∙ i.2.0)
          (ap (λ (m : M). m.0.live) joined ∙ i.2.1),
    )

pub returns : goal.returns
returns g c = let told = c.load.ensures.2 in
    let M : Type 0 = Me (Maybe g.row.T.Denot) View in
    let both =
    tied g.T.Chronicle.sound c.args.one.me.0 c.args.two.me.0 c.join_seat.new.seat.me.0 told.0
    c.load.new.seat.me.0.seen
    (ap (λ (m : M). m.0) c.join_seat.ensures.2) c.requires.idle.2.2 (sym (ap (λ (m : M). m.0.seen) told.1))
    told.2 in
    record {
      own = search rules;
      idle = search rules;
      both = search rules;
      begins = both.begins;
      header = both.header;
      sound = both.is_sound;
      entries = both.all;
      each = both.each;
    }
