use Rattle.std.proofs.Common.{◌≡◌, refl, ℕ, ◌∷◌, ◌+◌, max, [], length, reverse, arith, ap, ◌∙◌}
use Rattle.std.proofs.lemmas.List.{reverse-append}
use Rattle.history_text.specs.Below.{HistoryView, or_opening, ends_call, whole_pages, ended}
use Rattle.streams.proofs.Faults.{fault_passed}
use Rattle.streams.proofs.UnderWay.{left_over}
use Rattle.history_text.specs.Prelude.{entry_line, history_form}
use Rattle.history_text.proofs.EntriesRead.{read_all, read_one}
use Rattle.history.proofs.Lists.{one_at_most}
use Rattle.history_text.proofs.reading.read_entries.Goals as goal

pub next_entry-requires-clause-few : goal.next_entry-requires-clause-few
next_entry-requires-clause-few c = c.loop-history.invariant.few

pub next_entry-requires-clause-lines : goal.next_entry-requires-clause-lines
next_entry-requires-clause-lines c =
    let was = c.loop-history.invariant in
    omega (arith, was.few, was.lines, c.requires.place.lines, c.requires.range.cap)

pub returns-in_err-entry : goal.returns-in_err-entry
returns-in_err-entry c = λ text read.
    fault_passed history_form _ text c.from_residual.result c.in_err-entry.field-0.0 c.from_residual.ensures
    (c.in_err-entry.ensures.line text c.args.head.now _ _ refl (c.loop-history.invariant.read text read))

pub returns : goal.returns
returns c = λ text was.
    let h = c.args.head.now in
    let old = c.loop-history.history.entries in
    let base = or_opening h.header c.args.empty.base in
    let here = c.loop-history.invariant.read text was in
    let all = read_all text h base (reverse old) c.loop-history.place c.loop-history.rest.now here
    (rw c.in_default.is at c.in_ok-entry.ensures.line) in
    record {
      reading = rw c.loop-history.invariant.base all;
      header = rw c.loop-history.invariant.base here.history.base.0;
      none = rw c.loop-history.invariant.base c.requires.none;
      cap = c.loop-history.invariant.cap;
      owed = c.loop-history.invariant.owed;
      places = c.loop-history.invariant.places;
    }

-- the pages of one entry more
pages_more : (places owed len : ℕ) → owed ≡ 0 → places ≡ whole_pages len →
    max places (whole_pages (len + owed + 1)) ≡ whole_pages (len + 1)
pages_more places owed len none was = omega arith

pub loop-history-preserved : goal.loop-history-preserved
loop-history-preserved c =
    let h = c.args.head.now in
    let old = c.loop-history.history.entries in
    let e = c.in-Some.entry in
    let p = c.loop-history.place in
    let rest = c.loop-history.rest.now in
    let base = or_opening h.header c.args.empty.base in
    let entries : c.add.new.self.entries ≡ e ∷ old = ap (λ (v : HistoryView). v.entries) c.add.ensures
    ∙ ap (λ (v : HistoryView). e ∷ v.entries) c.make_room.ensures.same in
    let cap : c.add.new.self.cap ≡ h.header.cap = ap (λ (v : HistoryView). v.cap) c.add.ensures
    ∙ ap (λ (v : HistoryView). v.cap) c.make_room.ensures.same ∙ c.loop-history.invariant.cap in
    let line = rw c.in-Some.is at c.in_ok-entry.ensures.line in
    record {
      read = λ text was.
          let one = read_one text h base (reverse old) p rest (c.loop-history.invariant.read text was) e
          c.in-Some.left line.1.0 (rw c.in-Some.is at c.in_ok-entry.ensures.within) line line.1.1 in
          let same = left_over rest (ended (entry_line (p.folded + p.count) e)) line.1.0 c.in-Some.left
          line.1.1 line.1.2 in
          rw (entries, reverse-append (e ∷ []) old, same, c.behind-place.ensures) one;
      base = ap (λ (v : HistoryView). v.base) c.add.ensures
          ∙ ap (λ (v : HistoryView). v.base) c.make_room.ensures.same ∙ c.loop-history.invariant.base;
      cap = cap;
      owed = ap (λ (v : HistoryView). v.owed) c.add.ensures;
      places = ap (λ (v : HistoryView). v.places) c.add.ensures ∙ c.in-Ok.ensures.places
          ∙ pages_more c.loop-history.history.places c.loop-history.history.owed (length old)
          c.loop-history.invariant.owed c.loop-history.invariant.places
          ∙ ap whole_pages (omega (arith, ap length entries));
      lines = rw c.behind-place.ensures c.loop-history.invariant.lines;
      folded = rw c.behind-place.ensures c.loop-history.invariant.folded;
      count = rw (c.behind-place.ensures, entries) (omega (arith, c.loop-history.invariant.count));
      few = rw c.behind-place.ensures
          (omega (arith, c.loop-history.invariant.count, ap length entries, c.len.ensures));
      calls = rw (c.behind-place.ensures, entries)
          (omega (arith, c.loop-history.invariant.calls, one_at_most (ends_call e.word)));
    }
