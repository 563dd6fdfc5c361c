use Rattle.std.proofs.Common.{◌≡◌, ◌+◌, ◌<◌, ◌^◌, ◌++◌, ℕ, List, ap, arith, length, ◌∙◌}
use Rattle.history.proofs.AllCalls.{calls_told}
use Rattle.run_text.specs.Below.{based, calls, counts_line, Header}
use Rattle.audit.proofs.Beginnings.{header_from}
use Rattle.run_text.specs.RunText.{base_of}
use Rattle.run_text.proofs.Texts.{foot_lines}
use Rattle.run_text.proofs.part.foot_of.Goals as goal

pub returns-clause-ok : goal.returns-clause-ok
returns-clause-ok c =
    let part = c.args.part.now in
    let b = base_of part in
    let h = part.history.entries in
    let folded = c.requires.folded in
    let object =
    ap (λ (k : Header). k.object) (header_from part.header part.history.base c.requires.judged.0.1) in
    let entries : c.args.head.now.entries + c.len.result ≡ b.entries + length h =
    omega (arith, folded, c.len.ensures.value) in
    let few : length h < 2 ^ 32 = omega (arith, c.len.ensures.value, c.len.ensures.few) in
    let calls : c.calls-calls.result ≡ calls (based b) h =
    calls_told part.header part.history c.calls-calls.result c.requires.judged.0.1 few
    c.calls-calls.ensures in
    let said = c.in_ok-audit.ensures b h object folded entries calls c.requires.judged.1 in
    let end = counts_line (c.args.head.now.entries + c.len.result) c.calls-calls.result in
    foot_lines part _ _ _ _ _ _ entries calls
    (c.in_ok-put_counts.ensures.ok ∙ ap (λ (t : List ℕ). t ++ end) c.new-foot.ensures.items)
    c.in_ok-push.ensures.items
    (c.in_ok-extend_from_slice.ensures.items
    ∙ ap (λ (t : List ℕ). c.push.new.self.items ++ t) (c.deref.ensures.value ∙ said))
    c.in_ok-put_line.ensures
