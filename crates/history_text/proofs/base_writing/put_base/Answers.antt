use Rattle.std.proofs.Common.{◌≡◌, ◌∷◌, ◌++◌, List, [], map, ap, ◌∙◌}
use Rattle.std.proofs.lemmas.Result.{on_ok_weaker}
use Rattle.history_text.specs.Below.{SeatBase, Sleeper, LinePlace, Base}
use Rattle.history_text.specs.Prelude.{BaseLine, Stands, IsBaseLine, first_line, seat_lines, sleeper_lines, lines_text}
use Rattle.history_text.proofs.BaseWritten.{four_written}
use Rattle.history_text.proofs.Lists.{each_back, each_front}
use Rattle.history_text.proofs.base_writing.put_base.Goals as goal

pub put_standings-requires : goal.put_standings-requires
put_standings-requires c =
    let b = c.args.base.now in
    rw (c.deref-2.ensures.value, ap (λ (x : Base). x.line) c.base.view_is)
    (each_front IsBaseLine (map Stands b.line) (sleeper_lines 0 b.sleepers)
    (each_back IsBaseLine (seat_lines 0 b.seats) _ c.requires.each.1))

pub put_sleepers-requires-clause-each : goal.put_sleepers-requires-clause-each
put_sleepers-requires-clause-each c =
    let b = c.args.base.now in
    rw (c.deref-3.ensures.value, ap (λ (x : Base). x.sleepers) c.base.view_is)
    (each_back IsBaseLine (map Stands b.line) (sleeper_lines 0 b.sleepers)
    (each_back IsBaseLine (seat_lines 0 b.seats) _ c.requires.each.1))

pub returns-clause-ok : goal.returns-clause-ok
returns-clause-ok c =
    let b = c.args.base.now in
    let seats : c.deref.result.now ≡ b.seats =
    c.deref.ensures.value ∙ ap (λ (x : Base). x.seats) c.base.view_is in
    let line : c.deref-2.result.now ≡ b.line =
    c.deref-2.ensures.value ∙ ap (λ (x : Base). x.line) c.base.view_is in
    let lists : map (λ list. list.items) c.deref-3.result.now ≡ b.sleepers =
    ap (map (λ list. list.items)) c.deref-3.ensures.value ∙ ap (λ (x : Base). x.sleepers) c.base.view_is in
    on_ok_weaker c.put_sleepers.result (λ written. four_written c.args.out.now.items c.put_line.new.out.items
    c.put_seats.new.out.items c.put_standings.new.out.items c.put_sleepers.new.out.items
    (first_line b.header.object b) (seat_lines 0 b.seats) (map Stands b.line) (sleeper_lines 0 b.sleepers)
    (c.in_ok-put_line.ensures.ok ∙ ap (λ (x : BaseLine). c.args.out.now.items ++ lines_text (x ∷ []))
    c.first_line.ensures)
    (c.in_ok-put_seats.ensures.ok ∙ ap (λ (l : List SeatBase). c.put_line.new.out.items
    ++ lines_text (seat_lines 0 l)) seats)
    (c.in_ok-put_standings.ensures.ok ∙ ap (λ (l : List LinePlace). c.put_seats.new.out.items
    ++ lines_text (map Stands l)) line)
    (written ∙ ap (λ (l : List (List Sleeper)). c.put_standings.new.out.items
    ++ lines_text (sleeper_lines 0 l)) lists)) c.put_sleepers.ensures.ok
