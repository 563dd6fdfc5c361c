use Rattle.std.proofs.Common.{arith, ◌≡◌, ◌-◌, ◌^◌, min, reverse, ap, subst}
use Rattle.std.proofs.lemmas.List.{length-reverse}
use Rattle.history.specs.Entries.{HistoryView, all_calls, calls_before}
use Rattle.history.proofs.Lists.{ended_calls_le}
use Rattle.history.proofs.entries.History.calls.Goals as goal

pub returns-in-None : goal.returns-in-None
returns-in-None c =
    let a = c.self.inside in
    let k = c.self.invariant in
    let counted = k.counted in
    let within = k.within_cap in
    let short = k.short in
    let few = ended_calls_le (reverse a.pages.entries) in
    let same = length-reverse a.pages.entries in
    let none = ap calls_before c.in-None.is in
    subst (λ (v : HistoryView). a.calls ≡ min (all_calls v) (2 ^ 64 - 1)) c.self.view_is
    (omega (arith, counted, within, short, few, same, none))
