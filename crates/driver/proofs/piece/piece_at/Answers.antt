use Rattle.std.proofs.Common.{ℕ, List, [], ◌-◌, get_or, ap, sym, ◌∙◌, arith}
use Rattle.driver.proofs.Coding.{part_words, words_spelt}
use Rattle.driver.proofs.piece.piece_at.Goals as goal

pub returns-else-number-eq-NOBODY : goal.returns-else-number-eq-NOBODY
returns-else-number-eq-NOBODY c =
    c.words_piece.ensures ∙ ap (λ (ws : List (List ℕ)). get_or ws (c.args.number - 512) []) words_spelt
    ∙ sym (part_words c.args.number (omega (arith, c.if-number-lt-NOBODY.false, c.if-number-eq-NOBODY.false)))
