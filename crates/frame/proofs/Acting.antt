-- Steps and trims done in turn.
use Rattle.std.proofs.Common.{◌≡◌, ◌≢◌, ⊎_elim, ℕ, ◌+◌, false, cond, ltb, List, [], ◌∷◌, ◌++◌, length, Result, Ok, Err, refl, ap, ◌∙◌, sym, subst, lt-ltb, le-ltb}
use Rattle.std.proofs.lemmas.Bool.{cases_lt}
use Rattle.frame.specs.Below.{Fault, OutOfMemory, TrimFull, Step, answer, folded, most_folded, marks_after}
use Rattle.frame.specs.Prelude.{Act, Do, Trim, Done, Trimmed, AreDone, IsDone, IsOutcome, NoneLacks, Outcome, as_answered, as_trimmed, behind_one, marks_behind, outcome, CoreView, IsTrimmed, marks_of, start_of}
use Rattle.frame.proofs.Runs.{answered_so}

-- one act more
pub done_more : (old mid new : CoreView) (acts : List Act) (done : List (Result Done Fault)) (act : Act)
    (r : Result Done Fault) → AreDone old acts done mid → IsDone mid act r new →
    AreDone old (acts ++ act ∷ []) (done ++ r ∷ []) new
done_more old mid new [] [] act r a is =
    let P : CoreView → Type 0 = λ v. IsDone v act r new in
    (new, subst P a is, refl)
done_more old mid new (t ∷ acts) (q ∷ done) act r a is =
    (a.0, a.1, done_more a.0 mid new acts done act r a.2 is)
done_more old mid new [] (q ∷ done) act r a is = absurd a
done_more old mid new (t ∷ acts) [] act r a is = absurd a

-- one act of the definitions
abbrev Goes : CoreView → Act → List Act → Result Done Fault → CoreView → Type 0
Goes old act acts r mid =
    (outcome old.base old.entries (act ∷ acts) ≡ behind_one r (outcome mid.base mid.entries acts))
    × (mid.header ≡ old.header)
    × (marks_behind old.base old.entries (marks_of old) (act ∷ acts)
    ≡ marks_behind mid.base mid.entries (marks_of mid) acts)

step_goes : (old mid : CoreView) (i : ℕ) (step : Step) (acts : List Act) (r : Result Done Fault) →
    r ≢ Err OutOfMemory → IsDone old (Do i step) r mid → Goes old (Do i step) acts r mid
step_goes old mid i step acts r ne is =
    let now = answered_so old mid i step is.0 (λ q. ne (is.1 ∙ ap as_answered q)) is.2 in (
      ap (λ x. behind_one (as_answered x) (outcome old.base (answer (start_of old) old.entries i step).1
          acts))
          (sym now.answer)
          ∙ ap (λ x. behind_one x (outcome old.base (answer (start_of old) old.entries i step).1 acts))
          (sym is.1)
          ∙ ap (λ h. behind_one r (outcome old.base h acts)) (sym now.entries)
          ∙ ap (λ b. behind_one r (outcome b mid.entries acts)) (sym now.base),
      now.header,
      ap (λ x. marks_behind old.base (answer (start_of old) old.entries i step).1
          (marks_after (start_of old) old.entries i x (marks_of old)) acts) (sym now.answer)
          ∙ ap (λ m. marks_behind old.base (answer (start_of old) old.entries i step).1 m acts) (sym is.3)
          ∙ ap (λ h. marks_behind old.base h (marks_of mid) acts) (sym now.entries)
          ∙ ap (λ b. marks_behind b mid.entries (marks_of mid) acts) (sym now.base),
    )

trim_goes : (old mid : CoreView) (acts : List Act) (r : Result Done Fault) (count : Result ℕ Fault) →
    r ≡ as_trimmed count → IsTrimmed old count mid → Goes old Trim acts r mid
trim_goes old mid acts r (Ok n) q is = (
  ap (λ t. cond t (behind_one (Err TrimFull) (outcome old.base old.entries acts))
      (behind_one (Ok (Trimmed (length old.entries))) (outcome (folded old.base old.entries) [] acts))) fits
      ∙ ap (λ x. behind_one x (outcome (folded old.base old.entries) [] acts))
      (ap (λ m. as_trimmed (Ok m)) (sym is.1) ∙ sym q)
      ∙ ap (λ (v : CoreView). behind_one r (outcome v.base v.entries acts)) (sym is.2),
  ap (λ (v : CoreView). v.header) is.2,
  ap (λ t. cond t (marks_behind old.base old.entries (marks_of old) acts)
      (marks_behind (folded old.base old.entries) [] (marks_of old) acts)) fits
      ∙ ap (λ (v : CoreView). marks_behind v.base v.entries (marks_of v) acts) (sym is.2),
)
  where
    fits : ltb most_folded (old.base.entries + length old.entries) ≡ false
    fits =
        ⊎_elim (λ over. absurd (is.0 over)) (λ few. le-ltb _ _ few)
        (cases_lt most_folded (old.base.entries + length old.entries))
trim_goes old mid acts r (Err f) q is = (
  ap (λ t. cond t (behind_one (Err TrimFull) (outcome old.base old.entries acts))
      (behind_one (Ok (Trimmed (length old.entries))) (outcome (folded old.base old.entries) [] acts)))
      (lt-ltb _ _ is.0)
      ∙ ap (λ x. behind_one x (outcome old.base old.entries acts))
      (ap (λ g. as_trimmed (Err g)) (sym is.1) ∙ sym q)
      ∙ ap (λ (v : CoreView). behind_one r (outcome v.base v.entries acts)) (sym is.2),
  ap (λ (v : CoreView). v.header) is.2,
  ap (λ t. cond t (marks_behind old.base old.entries (marks_of old) acts)
      (marks_behind (folded old.base old.entries) [] (marks_of old) acts)) (lt-ltb _ _ is.0)
      ∙ ap (λ (v : CoreView). marks_behind v.base v.entries (marks_of v) acts) (sym is.2),
)

act_goes : (old mid : CoreView) (act : Act) (acts : List Act) (r : Result Done Fault) →
    r ≢ Err OutOfMemory → IsDone old act r mid → Goes old act acts r mid
act_goes old mid (Do i step) acts r ne is = step_goes old mid i step acts r ne is
act_goes old mid Trim acts r ne is = trim_goes old mid acts r is.0 is.1 is.2

-- where memory is never refused, all is as the definitions say
pub all_done : (old new : CoreView) (acts : List Act) (done : List (Result Done Fault)) →
    AreDone old acts done new → NoneLacks done → IsOutcome old acts done new
all_done old new [] [] a none =
    record {
      done_are = refl;
      base_is = ap (λ (v : CoreView). v.base) a;
      entries_are = ap (λ (v : CoreView). v.entries) a;
      header_is = ap (λ (v : CoreView). v.header) a;
      told_are = ap marks_of a;
    }
all_done old new (act ∷ acts) (r ∷ done) a none =
    let one = act_goes old a.0 act acts r none.0 a.1 in
    let rest = all_done a.0 new acts done a.2 none.1 in
    record {
      done_are = ap (λ l. r ∷ l) rest.done_are ∙ ap (λ (o : Outcome). o.done) (sym one.0);
      base_is = rest.base_is ∙ ap (λ (o : Outcome). o.base) (sym one.0);
      entries_are = rest.entries_are ∙ ap (λ (o : Outcome). o.entries) (sym one.0);
      header_is = rest.header_is ∙ one.1;
      told_are = rest.told_are ∙ sym one.2;
    }
all_done old new [] (r ∷ done) a none = absurd a
all_done old new (act ∷ acts) [] a none = absurd a
