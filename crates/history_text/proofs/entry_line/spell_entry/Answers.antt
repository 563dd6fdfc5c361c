use Rattle.std.proofs.Common.{◌≡◌, ◌+◌, drop, ◌∙◌, arith}
use Rattle.std.proofs.lemmas.Grind.{common_steps}
use Rattle.history.proofs.PieceFronts.{rest_behind}
use Rattle.history_text.proofs.entry_line.spell_entry.Goals as goal

pub returns-clause-rest : goal.returns-clause-rest
returns-clause-rest c =
    let m = c.args.at + 108 in
    let space : drop m c.put_byte-seat_at.new.line ≡ drop m c.args.line.now = grind (arith, rest_behind) in
    let seat : drop m c.spell-gap_at.new.line ≡ drop m c.put_byte-seat_at.new.line =
    grind (arith, rest_behind) in
    let gap : drop m c.put_byte-words_at.new.line ≡ drop m c.spell-gap_at.new.line =
    grind (arith, rest_behind) in
    let words : drop m c.spell_words.new.line ≡ drop m c.put_byte-words_at.new.line =
    grind (arith, rest_behind) in
    words ∙ gap ∙ seat ∙ space

pub returns-clause-line : goal.returns-clause-line
returns-clause-line c = grind (arith, common_steps)
