-- The acts of a text are done as their lines are read.
use Rattle.std.proofs.Common.{◌≡◌, ℕ, ◌+◌, false, ltb, List, [], ◌∷◌, ◌++◌, length, Option, None, Some, Result, Ok, Err, IfSome, inl, inr, refl, ap, sym, ◌∙◌, subst, arith, append_assoc, append-nil, lt-ltb}
use Rattle.std.proofs.lemmas.Bool.Decides.{nat_tests}
use Rattle.driver.specs.Below.{Act, Do, Trim, as_answered, CoreView, IsAnswered, IsTrimmed, start_of, Fault, OutOfMemory, Answer, Step, answer, MOST_FOLDED, opening_base, ended, IsText, StepsHeader, steps_form}
use Rattle.driver.specs.Prelude.{Form, Replay, History, AllAnswers, answers_text, AreAnswersBehind, IsLawful, answer_text, answer_line, behind_acts, entries_of, Told, told_more, trim_line, Progress, IsNext, WereRead}
use Rattle.driver.specs.ReplayText.{done_line, done_lines, entries_done}
use Rattle.driver.specs.inner.Answering.{Answered, answers_with}
use Rattle.driver.specs.inner.Logged.{IsLogged}
use Rattle.driver.specs.inner.ReplayStream.{IsAnswerTo}

-- ---- one act

step_told : (old new : CoreView) (i : ℕ) (step : Step) (r : Result Answer Fault) →
    IsAnswered old i step r new → (r ≡ Err OutOfMemory → ⊥)
    → (r ≡ (answer (start_of old) old.entries i step).0)
    × (new.entries ≡ (answer (start_of old) old.entries i step).1)
step_told old new i step r (inl a) refused = (a.answer, a.entries)
step_told old new i step r (inr a) refused = absurd (refused a.0)

step_line : (number seat : ℕ) (step : Step) (r : Result Answer Fault) →
    (done_line number (Do seat step) (as_answered r) ≡ answer_line number seat r)
    × (entries_done (as_answered r) ≡ entries_of r)
step_line number seat step r = (grind arith, grind arith)

-- a trim leaves what the definitions say
trim_done : (header : StepsHeader) (core core' : CoreView) (told : Told) (r : Result ℕ Fault) (left : List Act)
    → IsTrimmed core r core' → answers_with header core told (Trim ∷ left)
    ≡ answers_with header core' (told_more told (ended (trim_line r)) 0) left
unfolding answers_with
trim_done header core core' told (Ok count) left t =
    let few : ltb MOST_FOLDED (core.base.entries + length core.entries) ≡ false = grind (arith, nat_tests, t.0) in
    grind (arith, few, t.1, t.2, append_assoc {A = ℕ})
trim_done header core core' told (Err fault) left t =
    grind (arith, lt-ltb _ _ t.0, t.1, t.2, append_assoc {A = ℕ})

act_done : (header : StepsHeader) (act : Act) (core core' : CoreView) (told told' : Told) (left : List Act) →
    IsLogged core told act core' told' →
    answers_with header core told (act ∷ left) ≡ answers_with header core' told' left
unfolding answers_with
act_done header (Do i step) core core' told told' left is =
    let now = step_told core core' i step is.0 is.1.answered is.2 in
    let line = step_line told.count i step is.0 in
    grind (arith, now.0, now.1, is.1.base, is.3, line.0, line.1, append_assoc {A = ℕ})
act_done header Trim core core' told told' left is =
    rw is.2 (trim_done header core core' told is.0 left is.1)

same_object : (act : Act) (core core' : CoreView) (told told' : Told) → IsLogged core told act core' told' →
    core'.header ≡ core.header
same_object (Do i step) core core' told told' is = is.1.header
same_object Trim core core' told told' is = grind (arith, is.1)

pub answered_act : (old new : Progress StepsHeader Act) (act : Act) (core core' : CoreView)
    (told told' : Told) (left : Option (List ℕ))
    → IsNext steps_form old (Ok (Some act)) new left → new.so_far.header ≡ old.so_far.header →
    IsLogged core told act core' told' → Answered old new core told core' told'
answered_act old new act core core' told told' left next same is =
    record {
      acts = act ∷ [];
      read = next;
      answers = λ left. rw same (act_done old.so_far.header act core core' told told' left is);
      same = same;
      object = same_object act core core' told told' is;
    }

-- ---- many acts

pub answered_none : (p : Progress StepsHeader Act) (core : CoreView) (told : Told) →
    Answered p p core told core told
answered_none p core told =
    record {
      acts = [];
      read = λ text items were. subst (λ (l : List Act). WereRead steps_form text p l) (sym (append-nil items)) were;
      answers = λ left. refl;
      same = refl;
      object = refl;
    }

pub answered_more : (a b c : Progress StepsHeader Act) (core mid core' : CoreView) (told half told' : Told) →
    Answered a b core told mid half → Answered b c mid half core' told' → Answered a c core told core' told'
answered_more a b c core mid core' told half told' p q =
    record {
      acts = p.acts ++ q.acts;
      read = λ text items were. subst (λ (l : List Act). WereRead steps_form text c l)
          (append_assoc items p.acts q.acts) (q.read text (items ++ p.acts) (p.read text items were));
      answers = λ left.
          ap (answers_with a.so_far.header core told) (append_assoc p.acts q.acts left)
          ∙ p.answers (q.acts ++ left) ∙ q.answers left;
      same = q.same ∙ p.same;
      object = q.object ∙ p.object;
    }

-- ---- all acts

-- the answers to all acts of a text
abbrev answers_to : StepsHeader → List Act → AllAnswers
answers_to header acts =
    let o = behind_acts header acts in
    record { header = header; base = o.base; entries = o.entries; lines = done_lines 0 acts o.done }

text_is : (form : Form) (header : StepsHeader) (acts : List Act) →
    answers_text form (answers_to header acts) ≡ answer_text form header acts
text_is Replay header acts = refl
text_is History header acts = refl

answer_is : (form : Form) (text : Option (List ℕ)) (header : StepsHeader) (acts : List Act) →
    IsLawful (behind_acts header acts).base (behind_acts header acts).entries →
    IfSome text (λ t. IsText steps_form t header acts) →
    IsAnswerTo form text (answers_text form (answers_to header acts))
answer_is form None header acts lawful is = tt
answer_is form (Some t) header acts lawful is =
    record { header = header; acts = acts; is = is; lawful = lawful; written = text_is form header acts }

all_are : (header : StepsHeader) (core core' : CoreView) (told' : Told) (acts : List Act) →
    core.base ≡ opening_base header.header → core.entries ≡ [] →
    answers_with header core (record { lines = []; count = 0 }) (acts ++ [])
    ≡ answers_with header core' told' [] → answers_to header acts
    ≡ record { header = header; base = core'.base; entries = core'.entries; lines = told'.lines }
unfolding answers_with
all_are header core core' told' acts base none is =
    grind (arith, base, none, is, append-nil acts, append-nil told'.lines)

pub answered_all : (first now new : Progress StepsHeader Act) (core core' : CoreView) (told' : Told)
    (left : Option (List ℕ)) →
    core.base ≡ opening_base first.so_far.header.header → core.entries ≡ [] →
    IsNext steps_form now (Ok None) new left → IsLawful core'.base core'.entries →
    Answered first now core (record { lines = []; count = 0 }) core' told' →
    AreAnswersBehind first (record {
      header = first.so_far.header;
      base = core'.base;
      entries = core'.entries;
      lines = told'.lines;
    })
answered_all first now new core core' told' left base none all lawful a = λ form text were.
    let header = first.so_far.header in
    let are = all_are header core core' told' a.acts base none (rw a.same at a.answers []) in
    subst (λ (answers : AllAnswers). IsAnswerTo form text (answers_text form answers)) are
    (answer_is form text header a.acts
    (subst (λ (answers : AllAnswers). IsLawful answers.base answers.entries) (sym are) lawful)
    (subst (λ (k : StepsHeader). IfSome text (λ t. IsText steps_form t k a.acts)) a.same
    (all text a.acts (a.read text [] were))))
