use Rattle.std.proofs.Common.{◌≡◌, ℕ, ◌-◌, List, length, take, take_all, drop, drop-drop, get_or, length-drop, arith}
use Rattle.driver.specs.declared.code.Code.{Code}
use Rattle.driver.specs.inner.Codes.{kept_in}
use Rattle.driver.proofs.Gathering.{front_of_all, gathered_more, gathers_failed}
use Rattle.driver.proofs.Taping.{at_code, one_entry, one_written}
use Rattle.streams.proofs.Written.{not_true}
use Rattle.driver.proofs.tape.put_codes.Goals as goal

abbrev no_code : Code
no_code = record { seat = 0; kind = 0; named = 0 }

behind : (k : ℕ) (text : List ℕ) → take (length text - k) (drop k text) ≡ drop k text
behind k text = take_all (length text - k) (drop k text) (omega (arith, length-drop k text))

pub returns-in_err-put_code-clause-adds : goal.returns-in_err-put_code-clause-adds
returns-in_err-put_code-clause-adds g c =
    let so_far = c.loop-code.invariant.added in
    let left =
    at_code c.args.codes.now c.loop-code.code-index no_code _ _ _ so_far.0 c.loop-code-test.true so_far.2 in
    gathers_failed _ _ c.args.lines.now.bytes _ _ c.from_residual.result c.from_residual.ensures.0
    (front_of_all _ _ _ c.args.lines.now.bytes c.loop-code.lines.bytes so_far.0 _ _ _ so_far.1
    (rw (behind c.loop-code.kept c.args.text.now) at c.in_err-put_code.ensures.adds) (one_written _ _ _ _ _ so_far.0 left).lines)

pub loop-code-preserved : goal.loop-code-preserved
loop-code-preserved g c =
    let so_far = c.loop-code.invariant.added in
    let code = get_or c.args.codes.now c.loop-code.code-index no_code in
    let left =
    at_code c.args.codes.now c.loop-code.code-index no_code _ _ _ so_far.0 c.loop-code-test.true so_far.2 in
    record {
      going =
          not_true (g.W.Sink.failed c.put_code.new.writer) (λ t. c.in_ok-put_code.ensures.failing.0 t);
      few = omega (arith, c.loop-code.invariant.few, c.entries-added.ensures, one_entry code);
      within = omega (
        arith,
        c.loop-code.invariant.within,
        c.kept-bytes.ensures,
        left.kept,
        length-drop c.loop-code.kept c.args.text.now,
      );
      added = (
        _,
        gathered_more _ _ _ c.args.lines.now.bytes c.loop-code.lines.bytes c.put_code.new.self.bytes so_far.0 _
            so_far.1 (rw (behind c.loop-code.kept c.args.text.now) at c.in_ok-put_code.ensures.adds),
        rw (c.entries-added.ensures, c.kept-bytes.ensures, ← drop-drop (kept_in code) c.loop-code.kept c.args.text.now)
            (one_written _ _ _ _ _ so_far.0 left),
      );
    }
