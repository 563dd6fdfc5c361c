-- Steps answered in turn.
use Rattle.std.proofs.Common.{◌≡◌, ◌≢◌, ⊎_elim, ℕ, List, [], ◌∷◌, ◌++◌, Result, Err, refl, ap, ◌∙◌, subst}
use Rattle.frame.specs.Below.{Fault, OutOfMemory, Answer, Step, answer, results, Base, based, marks, marks_after}
use Rattle.frame.specs.Core.{CoreView, marks_of, start_of, IsAnswer, IsAnswered, IsTold, LacksMemory}
use Rattle.frame.specs.Runs.{AreAnswered, AreResults, NoneLacksMemory}

-- one step more
pub answered_more : (old mid new : CoreView) (steps : List (ℕ × Step))
    (answers : List (Result Answer Fault)) (s : ℕ × Step) (r : Result Answer Fault) →
    AreAnswered old steps answers mid → IsAnswered mid s.0 s.1 r new → IsTold mid s.0 r new →
    AreAnswered old (steps ++ s ∷ []) (answers ++ r ∷ []) new
answered_more old mid new [] [] s r a is told =
    let P : CoreView → Type 0 = λ v. IsAnswered v s.0 s.1 r new in
    let T : CoreView → Type 0 = λ v. IsTold v s.0 r new in
    (new, subst P a is, subst T a told, refl)
answered_more old mid new (t ∷ steps) (q ∷ answers) s r a is told =
    (a.0, a.1, a.2, answered_more a.0 mid new steps answers s r a.3 is told)
answered_more old mid new [] (q ∷ answers) s r a is told = absurd a
answered_more old mid new (t ∷ steps) [] s r a is told = absurd a

-- where memory is never refused, each answer is that of the definitions
pub answered_so : (old new : CoreView) (i : ℕ) (step : Step) (r : Result Answer Fault) → r ≢ Err OutOfMemory →
    IsAnswered old i step r new →
    IsAnswer old (answer (start_of old) old.entries i step) r new
answered_so old new i step r ne is =
    ⊎_elim (λ a. a) (λ (l : (r ≡ Err OutOfMemory) × LacksMemory old _ new). absurd (ne l.0)) is

pub all_results : (old new : CoreView) (steps : List (ℕ × Step)) (answers : List (Result Answer Fault)) →
    AreAnswered old steps answers new → NoneLacksMemory answers → AreResults old steps answers new
all_results old new [] [] a none =
    record {
      answers_are = refl;
      entries_are = ap (λ (v : CoreView). v.entries) a;
      header_is = ap (λ (v : CoreView). v.header) a;
      base_is = ap (λ (v : CoreView). v.base) a;
      told_are = ap marks_of a;
    }
all_results old new (s ∷ steps) (r ∷ answers) a none =
    let now = answered_so old a.0 s.0 s.1 r none.0 a.1 in
    let rest = all_results a.0 new steps answers a.3 none.1 in
    let there : results (start_of a.0) a.0.entries steps
    ≡ results (start_of old) (answer (start_of old) old.entries s.0 s.1).1 steps =
    ap (λ (b : Base). results (based b) a.0.entries steps) now.base
    ∙ ap (λ h. results (start_of old) h steps) now.entries in
    record {
      answers_are =
          ap (λ x. x ∷ answers) now.answer
          ∙ ap (λ l. (answer (start_of old) old.entries s.0 s.1).0 ∷ l) (rest.answers_are
          ∙ ap (λ p. p.0) there);
      entries_are = rest.entries_are ∙ ap (λ p. p.1) there;
      header_is = rest.header_is ∙ now.header;
      base_is = rest.base_is ∙ now.base;
      told_are =
          rest.told_are
          ∙ ap (λ (b : Base). marks (based b) a.0.entries (marks_of a.0) steps) now.base
          ∙ ap (λ h. marks (start_of old) h (marks_of a.0) steps) now.entries
          ∙ ap (λ m. marks (start_of old) (answer (start_of old) old.entries s.0 s.1).1 m steps)
          (a.2 ∙ ap (λ x. marks_after (start_of old) old.entries s.0 x (marks_of old)) now.answer);
    }
all_results old new [] (r ∷ answers) a none = absurd a
all_results old new (s ∷ steps) [] a none = absurd a
