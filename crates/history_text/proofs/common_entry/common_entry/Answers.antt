use Rattle.std.proofs.Common.{◌-◌, decimal, drop, take, length, sym, ◌∙◌, arith}
use Rattle.std.proofs.lemmas.List.{take_rest}
use Rattle.history_text.specs.Below.{entry_words, line_of}
use Rattle.history_text.proofs.CommonLines.{line_begins}
use Rattle.history_text.proofs.common_entry.common_entry.Goals as goal

pub returns : goal.returns
returns c =
    let text = c.args.text.now in
    let seat_at = c.in_ok-seat_at.seat_at in
    let from_seat = take (length text - seat_at) (drop seat_at text) in
    let words_at = c.in_ok-seat.words_at in
    let entry = c.in_ok-entry.entry in
    let found = c.in_ok-entry.ensures in
    let seat = found.seat in
    let words = found.begins in (
      rw seat (omega (arith, c.if-from-seat.false)),
      words.0,
      (
        words.1.0,
        line_begins (decimal c.args.number) (decimal entry.seat) (line_of (entry_words entry)) text
            (drop seat_at text) (drop words_at from_seat) words.1.0 c.in_ok-seat_at.ensures.number
            (sym (take_rest text seat_at) ∙ rw seat c.in_ok-seat.ensures.seat)
            (sym (take_rest from_seat words_at) ∙ words.1.1),
        words.1.2,
      ),
    )
