use Rattle.std.proofs.Common.{◌≡◌, ℕ, ◌+◌, ◌<◌, ◌^◌, List, length, reverse, sym, ap, ◌∙◌, arith, ◌++◌}
use Rattle.std.proofs.lemmas.Option.{slice_get_within}
use Rattle.history_text.specs.Below.{Entry, base_on, ended}
use Rattle.history_text.specs.Prelude.{entry_line, head_line, head_of, lines_told, entry_lines, lines_text}
use Rattle.history.proofs.AllCalls.{calls_told}
use Rattle.history_text.proofs.Heads.{based_well}
use Rattle.history_text.proofs.HistoryWriting.{past}
use Rattle.history_text.proofs.TextWritten.{all_lines, more_lines}
use Rattle.history_text.proofs.history_text.written.Goals as goal

pub loop-entry-preserved : goal.loop-entry-preserved
loop-entry-preserved c =
    let b = base_on c.args.header.now c.args.history.now in
    let xs = reverse c.args.history.now.entries in
    let number = c.loop-entry.number in
    let head = rw c.base.ensures at c.in_ok-folded.ensures.ok in
    let lt : number < length xs = slice_get_within xs number c.in-Some.entry (sym c.in-Some.ensures) in
    record {
      lines = more_lines b.entries xs (ended (head_line (head_of b)) ++ lines_text (lines_told b))
          c.loop-entry.out.items c.put_entry.new.out.items c.push.new.self.items number c.in-Some.entry
          (sym c.in-Some.ensures) c.loop-entry.invariant.lines
          (c.in_ok-put_entry.ensures.ok
          ∙ ap (λ (n : ℕ). c.loop-entry.out.items ++ entry_line (n + number) c.in-Some.entry) head.folded)
          c.in_ok-push.ensures.items;
      inside = omega (arith, lt);
    }

pub returns : goal.returns
returns c =
    let k = c.args.header.now in
    let b = base_on k c.args.history.now in
    let xs = reverse c.args.history.now.entries in
    let head = rw c.base.ensures at c.in_ok-folded.ensures.ok in
    let all = past xs c.loop-entry.number (sym c.in_default.ensures) in
    let lines =
    c.loop-entry.invariant.lines
    ∙ ap (λ (l : List Entry). (ended (head_line (head_of b)) ++ lines_text (lines_told b))
    ++ entry_lines b.entries l) all in
    let count : c.in_ok-folded.folded + c.len-2.result ≡ b.entries + length c.args.history.now.entries =
    omega (arith, head.folded, c.len-2.ensures.value) in
    let few : length c.args.history.now.entries < 2 ^ 32 =
    omega (arith, c.len-2.ensures.value, c.len-2.ensures.few) in
    let calls =
    calls_told k c.args.history.now c.calls.result
    (based_well k c.args.history.now.base c.requires.range c.requires.base) few c.calls.ensures in
    all_lines b c.args.history.now.entries c.loop-entry.out.items c.put_counts.new.out.items
    c.push-2.new.self.items (c.in_ok-folded.folded + c.len-2.result) c.calls.result lines count calls
    c.in_ok-put_counts.ensures.ok c.in_ok-push-2.ensures.items
