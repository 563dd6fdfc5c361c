use Rattle.std.proofs.Common.{◌≡◌, ◌∙◌, Bool, None, Some, sym, ap, arith}
use Rattle.picture.specs.Reading.{after_line, reading}
use Rattle.picture.specs.inner.{given_if}
use Rattle.picture.proofs.LinesFollow.{line_left, right_line, shorter, wrong_line}
use Rattle.picture.proofs.naming.reading.read_names.Goals as goal

pub returns-in-Ok-false : goal.returns-in-Ok-false
returns-in-Ok-false c =
    let is = c.in-Ok-false in
    let wrong : None ≡ after_line c.lines.names c.in-Some.line.now =
    ap (λ (b : Bool). given_if b c.take_line.new.names) (sym is.field-0-test) ∙ is.ensures in
    wrong_line c.lines.names c.lines.number c.lines.rest.now c.in-Some.line.now c.in-Some.after.now
    (reading c.args.text.now) c.in-Some.ensures.0 c.in-Some.ensures.1 wrong c.lines.invariant.said

pub lines-preserved : goal.lines-preserved
lines-preserved c =
    let is = c.in-Ok-true in
    let right : Some c.take_line.new.names ≡ after_line c.lines.names c.in-Some.line.now =
    ap (λ (b : Bool). given_if b c.take_line.new.names) (sym is.field-0-test) ∙ is.ensures in
    record {
      said = right_line c.lines.names c.take_line.new.names c.lines.number c.lines.rest.now c.in-Some.line.now
          c.in-Some.after.now (reading c.args.text.now) c.in-Some.ensures.0 c.in-Some.ensures.1 right
          c.lines.invariant.said;
      count = omega (
        arith,
        c.lines.invariant.count,
        shorter c.lines.rest.now c.in-Some.line.now c.in-Some.after.now c.in-Some.ensures.0,
      );
    }

pub returns-then-rest-gt0 : goal.returns-then-rest-gt0
returns-then-rest-gt0 c =
    line_left c.lines.names c.lines.number c.lines.rest.now (reading c.args.text.now) c.in_default.ensures
    c.if-rest-gt0.true c.lines.invariant.said
