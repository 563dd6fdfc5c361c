use Rattle.std.proofs.Common.{rules, ◌+◌, ◌≤◌, ◌∙◌, arith}
use Rattle.history.proofs.PieceFronts.{rest_behind}
use Rattle.history.proofs.entry.Entry.spell_words.Goals as goal

pub returns-in-Refused-clause-rest : goal.returns-in-Refused-clause-rest
returns-in-Refused-clause-rest c =
    let asked : c.args.at + 7 + 23 ≤ c.args.at + 64 = omega arith in
    let space : c.put_byte-name_at.result ≤ c.args.at + 64 =
    omega (arith, c.put_byte-name_at.ensures.end, c.put_asked-space_at.ensures.end) in
    let name : c.put_bytes-in-Refused.result ≤ c.args.at + 64 = search rules in
    rest_behind c.put_byte-name_at.new.line c.put_bytes-in-Refused.new.line _ _
    c.put_bytes-in-Refused.ensures.rest name
    ∙ rest_behind c.put_asked-space_at.new.line c.put_byte-name_at.new.line _ _
    c.put_byte-name_at.ensures.rest space
    ∙ rest_behind c.args.line.now c.put_asked-space_at.new.line _ _ c.put_asked-space_at.ensures.rest asked

pub returns-in-Drained-clause-words : goal.returns-in-Drained-clause-words
returns-in-Drained-clause-words c = search rules
