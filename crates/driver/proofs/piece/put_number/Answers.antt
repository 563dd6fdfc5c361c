use Rattle.std.proofs.Common.{◌≡◌, ℕ, ◌+◌, List, [], ◌∷◌, ◌++◌, take, decimal, ap, ◌∙◌, arith}
use Rattle.driver.proofs.Coding.{front_kept}
use Rattle.driver.proofs.piece.put_number.Goals as goal

pub returns-then-is_shown-clause-bytes : goal.returns-then-is_shown-clause-bytes
returns-then-is_shown-clause-bytes c =
    let old = c.args.line.now in
    let mid = c.put_byte-dash_end.new.line in
    let put = c.put_byte-dash_end.ensures in
    let none : c.from.result ≡ 0 = rw c.if-is_shown.true at c.from.ensures in
    let front : take c.args.at mid ≡ take c.args.at old =
    front_kept old mid (45 ∷ []) c.args.at c.put_byte-dash_end.result (omega arith) (omega arith) put.bytes in
    rw c.if-is_shown.true (c.spell-end.ensures.bytes
    ∙ ap (λ (n : ℕ). take n mid ++ decimal c.args.number) (omega (arith, none))
    ∙ ap (λ (t : List ℕ). t ++ decimal c.args.number) front)

pub returns-else-is_shown-clause-bytes : goal.returns-else-is_shown-clause-bytes
returns-else-is_shown-clause-bytes c =
    let mid = c.put_byte-dash_end.new.line in
    let one : c.from.result ≡ 1 = rw c.if-is_shown.false at c.from.ensures in
    let at = c.args.at + c.from.result in
    let same : at ≡ c.put_byte-dash_end.result = omega (arith, one, c.put_byte-dash_end.ensures.end) in
    rw (c.if-is_shown.false, ← same) (front_kept mid c.spell-end.new.line (decimal c.args.number) at
    c.spell-end.result (omega arith) (omega arith) c.spell-end.ensures.bytes
    ∙ ap (λ (n : ℕ). take n mid) same ∙ c.put_byte-dash_end.ensures.bytes)
