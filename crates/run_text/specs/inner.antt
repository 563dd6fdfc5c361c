-- What only contracts of private functions cite: no promise of the crate rests on it.
use Rattle.std.specs.Prelude.{◌≡◌, ◌≤◌, ℕ, ◌+◌, List, ◌++◌, length, true}
use Rattle.script.specs.Script.{WorkerView}
use Rattle.script.specs.declared.limits.TheConstants.{MOST_CALLS, MOST_ROUNDS}
use Rattle.run_text.specs.Below.{IsJudgement, verdict_of, audit_text, Base, based, start_on, calls, ended, counts_line, head_line, head_of, lines_told, lines_text, ObjectReport, IsSound, is_legal}
use Rattle.run_text.specs.RunText.{base_of, name_line, shares_line}

-- the history is sound, and the judgement is that of the history
abbrev pub IsJudged : ObjectReport → Type 0
IsJudged part =
    IsSound part × IsJudgement (start_on part.header part.history) part.history.entries part.judgement

-- the audit judges the history of an object legal
abbrev pub IsLegalPart : ObjectReport → Type 0
IsLegalPart part = is_legal part.judgement ≡ true

-- what comes before the lines of its entries, and what comes after them
abbrev pub head_text : List ℕ → Base → List ℕ
head_text name b = ended (name_line name) ++ ended (head_line (head_of b)) ++ lines_text (lines_told b)

abbrev pub foot_text : ObjectReport → List ℕ
foot_text part =
    ended (counts_line ((base_of part).entries + length part.history.entries)
    (calls (based (base_of part)) part.history.entries))
    ++ audit_text (base_of part) part.history.entries (verdict_of part.judgement)
    ++ ended (shares_line part.share)

-- the same of a history text alone
abbrev pub history_head : Base → List ℕ
history_head b = ended (head_line (head_of b)) ++ lines_text (lines_told b)

abbrev pub end_text : ObjectReport → List ℕ
end_text part =
    ended (counts_line ((base_of part).entries + length part.history.entries)
    (calls (based (base_of part)) part.history.entries))

abbrev pub HasFewCalls : WorkerView → Type 0
HasFewCalls w = (w.repeat ≤ MOST_ROUNDS) × (length w.calls ≤ MOST_CALLS)
