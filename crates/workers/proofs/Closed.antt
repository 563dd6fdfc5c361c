-- What a closed object leaves is a history as an audit asks for it.
use Rattle.std.proofs.Common.{◌≡◌, ◌∙◌, refl, sym, subst}
use Rattle.workers.specs.Below.{Header, HistoryView, base_on, start_on, IsInRange, IsHistory, IsBased, left_by, IsLawful, LockId}

pub closed_history : (lock : LockId) (kept : HistoryView) (k : Header) → k ≡ lock.header → IsInRange k →
    IsBased lock kept → IsLawful (left_by lock kept) → IsHistory (start_on lock.header kept) kept.entries
closed_history lock kept k same range based lawful =
    record {
      base = base_on lock.header kept;
      good = lawful.may_fold.can.good;
      start = refl;
      range = subst IsInRange (same ∙ sym based.1) range;
      legal = lawful.legal;
      seated = lawful.seated;
    }
