-- All calls of a history on a good base.
use Rattle.std.proofs.Common.{◌≡◌, ℕ, ◌+◌, ◌-◌, ◌<◌, ◌^◌, min, Option, Some, None, length, ap, arith}
use Rattle.history.specs.Prelude.{Header, Base, based, opening_base, HistoryView, IsBasedWell, all_calls, calls_before, ended_calls, or_opening, start_on, calls, Start}
use Rattle.history.proofs.Lists.{calls-ended, ended_calls_le}
use Rattle.history.proofs.OpeningBase.{based_opening}

-- what `History::calls` returns is the number of calls that ended since the opening
pub calls_told : (k : Header) (v : HistoryView) (n : ℕ) → IsBasedWell k v.base → length v.entries < 2 ^ 32 →
    n ≡ min (all_calls v) (2 ^ 64 - 1) → n ≡ calls (start_on k v) v.entries
calls_told k v n well few is = by v.base well is
  where
    by : (o : Option Base) → IsBasedWell k o →
        n ≡ min (calls_before o + ended_calls v.entries) (2 ^ 64 - 1) →
        n ≡ calls (based (or_opening k o)) v.entries
    by None well is =
        let all = calls-ended (based (opening_base k)) v.entries in
        let none = ap (λ (s : Start). s.calls) (based_opening k) in
        let ends = ended_calls_le v.entries in
        omega (arith, all, none, ends, few, is)
    by (Some b) well is =
        let all = calls-ended (based b) v.entries in
        let before = well.1.calls in
        let folded = well.1.entries in
        let ends = ended_calls_le v.entries in
        omega (arith, all, before, folded, ends, few, is)
