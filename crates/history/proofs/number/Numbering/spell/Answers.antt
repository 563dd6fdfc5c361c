use Rattle.std.proofs.Common.{◌≡◌, ◌/◌, append_assoc, ap, ◌∙◌, arith}
use Rattle.history.specs.Numbering.{Kept}
use Rattle.history.proofs.LastDigit.{last_two}
use Rattle.history.proofs.PieceFronts.{front_of_piece}
use Rattle.history.proofs.number.Numbering.spell.Goals as goal

pub returns-clause-bytes : goal.returns-clause-bytes
returns-clause-bytes c =
    let hundreds : c.self.inside.hundreds ≡ c.args.number / 100 =
    ap (λ (k : Kept). k.hundreds) c.self.view_is ∙ c.keep.ensures in
    let front =
    front_of_piece c.args.line.now c.put_bytes.new.line c.self.inside.front c.args.at c.put_bytes.result
    c.self.inside.digits (omega arith) (omega (arith, c.self.invariant.0)) c.put_bytes.ensures.bytes in
    c.put_byte.ensures.bytes
    ∙ rw (
      c.put_byte-last_at.ensures.bytes,
      front,
      c.self.invariant.1,
      hundreds,
      last_two c.args.number (omega (arith, c.if-hundreds-eq0.false)) (omega arith),
    ) (simp append_assoc)
