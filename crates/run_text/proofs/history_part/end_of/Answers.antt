use Rattle.std.proofs.Common.{◌≡◌, ◌+◌, ◌<◌, ◌^◌, ◌++◌, ℕ, List, ap, arith, length, ◌∙◌}
use Rattle.history.proofs.AllCalls.{calls_told}
use Rattle.run_text.specs.Below.{based, calls, counts_line}
use Rattle.run_text.specs.RunText.{base_of}
use Rattle.run_text.proofs.Texts.{end_lines}
use Rattle.run_text.proofs.history_part.end_of.Goals as goal

pub returns-clause-ok : goal.returns-clause-ok
returns-clause-ok c =
    let part = c.args.part.now in
    let b = base_of part in
    let h = part.history.entries in
    let folded = c.requires.folded in
    let entries : c.args.folded + c.len.result ≡ b.entries + length h =
    omega (arith, folded, c.len.ensures.value) in
    let few : length h < 2 ^ 32 = omega (arith, c.len.ensures.value, c.len.ensures.few) in
    let counted : c.calls-calls.result ≡ calls (based b) h =
    calls_told part.header part.history c.calls-calls.result c.requires.sound.1 few
    c.calls-calls.ensures in
    end_lines part _ _ _ _ entries counted
    (c.in_ok-put_counts.ensures.ok
    ∙ ap (λ (t : List ℕ). t ++ counts_line (c.args.folded + c.len.result) c.calls-calls.result) c.new-end.ensures.items)
    c.in_ok-push.ensures.items
