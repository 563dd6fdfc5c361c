-- What a report says of each object.
use Rattle.std.proofs.Common.{◌≡◌, List, [], ◌∷◌, length, suc, refl, ap, sym, subst, ◌∙◌}
use Rattle.std.specs.List.{All}
use Rattle.std.proofs.lemmas.List.{length-map}
use Rattle.run_text.specs.Below.{totals_of, IsJudgement, Legal, Header, start_on, Shown, ScriptView, LockId, ObjectReport, Report, AreParts, IsPart, IsReport, IsSound, header_of, is_legal}
use Rattle.workers.proofs.Columns.{each_part}
use Rattle.run_text.specs.inner.{IsJudged, IsLegalPart}

part_judged : (lock : LockId) (passes : List Shown) (part : ObjectReport) → IsPart lock passes part →
    IsSound part → IsJudged part
part_judged lock passes part is sound =
    let judged = subst
    (λ (k : Header). part.judgement ≡ Legal (totals_of (start_on k part.history) part.history.entries))
    (sym is.header) is.judged in (
      sound,
      subst (IsJudgement (start_on part.header part.history) part.history.entries) (sym judged)
          (sound.2, refl),
    )

-- each part's judgement is the audit's
pub parts_judged : (locks : List LockId) (columns : List (List Shown)) (parts : List ObjectReport) →
    AreParts locks columns parts → All IsSound parts → All IsJudged parts
parts_judged locks columns parts are sound = λ i d below.
    each_part (λ part. IsSound part → IsJudged part) part_judged locks columns parts are i d below
    (sound i d below)

parts_count : (locks : List LockId) (columns : List (List Shown)) (parts : List ObjectReport) →
    AreParts locks columns parts → length parts ≡ length locks
parts_count [] [] [] are = refl
parts_count [] [] (part ∷ parts) are = absurd are
parts_count [] (column ∷ columns) parts are = absurd are
parts_count (lock ∷ locks) [] parts are = absurd are
parts_count (lock ∷ locks) (column ∷ columns) [] are = absurd are
parts_count (lock ∷ locks) (column ∷ columns) (part ∷ parts) are =
    ap suc (parts_count locks columns parts are.1)

-- each part has a name
pub parts_named : (s : ScriptView) (r : Report) → IsReport s r → length r.objects.items ≡ length s.objects
parts_named s r is =
    parts_count is.locks _ r.objects.items is.parts ∙ sym (length-map is.locks header_of)
    ∙ ap length is.headers ∙ length-map s.objects (λ o. o.1)

-- each part is judged legal
pub histories_legal : (s : ScriptView) (r : Report) → IsReport s r → All IsLegalPart r.objects.items
histories_legal s r is =
    each_part IsLegalPart (λ lock column part here. ap is_legal here.judged) is.locks _ r.objects.items
    is.parts
