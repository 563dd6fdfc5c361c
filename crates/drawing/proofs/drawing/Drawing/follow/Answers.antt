use Rattle.std.proofs.Common.{◌<◌, ◌≤◌, ◌++◌, ◌∷◌, length, map, Vec, Global, ap, ◌∙◌, sym, subst, arith}
use Rattle.std.specs.List.{flat_map}
use Rattle.std.proofs.lemmas.Result.{on_ok_weaker}
use Rattle.drawing.specs.declared.bar.Stretch.{Stretch}
use Rattle.drawing.specs.Prelude.{AreStretches, ended_by, marks, mark_of, point, amount_of, sign_at, tracks}
use Rattle.drawing.specs.inner.Stretches.{GoesOn}
use Rattle.drawing.proofs.StretchesFollow.{none_ends, seat_waits}
use Rattle.drawing.proofs.MarksFollow.{no_mark, no_point, one_mark, one_point}
use Rattle.drawing.proofs.drawing.Drawing.follow.Goals as goal

pub barges-is_barging-requires : goal.barges-is_barging-requires
barges-is_barging-requires c =
    let r = c.requires in
    record {
      start = r.start;
      entries = r.entries;
      stand = r.drawn.stand;
      count = r.drawn.asking;
      seat = r.seat;
      room = r.room;
    }

pub askers_after-self-requires : goal.askers_after-self-requires
askers_after-self-requires c =
    let r = c.requires in
    record {
      start = r.start;
      entries = r.entries;
      stand = r.drawn.stand;
      count = r.drawn.asking;
      seat = r.seat;
      room = r.room;
    }

pub note-requires : goal.note-requires
note-requires c =
    let r = c.requires in
    record { start = r.start; front = r.entries; stand = r.drawn.stand; seat = r.seat; room = r.room }

pub overflow_add-self : goal.overflow_add-self
overflow_add-self c = let r = c.requires in omega (arith, r.drawn.count, r.room)

pub go_on_drawn-requires : goal.go_on_drawn-requires
go_on_drawn-requires c =
    let r = c.requires in
    record {
      start = r.start;
      entries = r.entries;
      stand = c.note.ensures.follows r.start r.entries r.drawn.stand r.seat r.next;
      seat = r.seat;
      number = r.drawn.count;
      drawn = c.if-number-self.false;
      stretches = subst (λ from. AreStretches r.start from r.entries
          (map (λ (list : Vec Stretch Global). list.items) c.args.self.now.stretches.items))
          (sym r.drawn.begins) r.drawn.under_way;
    }

pub put_point-requires : goal.put_point-requires
put_point-requires c =
    let r = c.requires in
    (r.start, c.args.entry ∷ r.entries, c.note.ensures.follows r.start r.entries r.drawn.stand r.seat r.next)

pub returns-then-number-self : goal.returns-then-number-self
returns-then-number-self c = λ s from h was seat next.
    let e = c.args.entry in
    let less : length h < from = omega (arith, c.if-number-self.true, was.count, was.begins) in
    record {
      begins = was.begins;
      count = omega (arith, was.count);
      stand = c.note.ensures.follows s h was.stand seat next;
      asking = c.askers_after-self.ensures s h was.stand was.asking seat;
      under_way = record {
        seats = was.under_way.seats;
        each = λ i l. was.under_way.each i l ∙ seat_waits s from e h i less;
      };
      ended = was.ended ∙ none_ends s from e h less;
      marked = was.marked ∙ no_mark s from e h less;
      points = was.points ∙ no_point s from e h less;
    }

pub returns : goal.returns
returns c =
    on_ok_weaker c.put_point.result (λ pointed s from h was seat next.
    let e = c.args.entry in
    let old = c.args.self.now in
    let drawn : from ≤ length h = omega (arith, c.if-number-self.false, was.count, was.begins) in
    let barging = c.barges-is_barging.result in
    let stand = c.note.ensures.follows s h was.stand seat next in
    let went = subst (λ n. GoesOn s n e h
    (map (λ (list : Vec Stretch Global). list.items) c.go_on_drawn.new.stretches.items) old.bars.items
    c.go_on_drawn.new.bars.items) was.begins
    (c.in_ok-go_on_drawn.ensures s h stand was.count
    (subst (λ n. AreStretches s n h (map (λ (list : Vec Stretch Global). list.items) old.stretches.items))
    (sym was.begins) was.under_way)) in
    record {
      begins = was.begins;
      count = omega (arith, was.count);
      stand = stand;
      asking = c.askers_after-self.ensures s h was.stand was.asking seat;
      under_way = went.stretches;
      ended = went.bars ∙ ap (λ xs. xs ++ flat_map (ended_by s from e h) (tracks s.header)) was.ended;
      marked = c.in_ok-put_mark.ensures
          ∙ ap (λ xs. xs ++ mark_of old.count e.seat (sign_at barging e.word e.end)) was.marked
          ∙ ap (λ n. marks s from h ++ mark_of n e.seat (sign_at barging e.word e.end)) was.count
          ∙ ap (λ b. marks s from h ++ mark_of (length h) e.seat (sign_at b e.word e.end))
          (c.barges-is_barging.ensures s h was.stand was.asking seat)
          ∙ one_mark s from e h drawn;
      points = pointed s (e ∷ h) stand
          ∙ ap (λ xs. xs ++ point (amount_of s.header.object s (e ∷ h))) was.points
          ∙ one_point s from e h drawn;
    })
    c.put_point.ensures
