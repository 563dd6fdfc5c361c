-- Pieces that are appended one after another, all but the last for sure.
use Rattle.std.proofs.Common.{◌≡◌, ℕ, List, [], ◌∷◌, ◌++◌, append_assoc, codes, decimal, Result, Ok, Err, OnOk, ◌∙◌, if◌then◌else◌}
use Rattle.std.specs.Result.{is_ok}
use Rattle.std.proofs.lemmas.Result.{on_ok_weaker}
use Rattle.history.specs.EntryWords.{mode_word}
use Rattle.history.specs.Text.{line_of}
use Rattle.history.specs.declared.entry.Mode.{Mode}
use Rattle.monitor.specs.declared.how.How.TheVariants.{Timed}
use Rattle.script.specs.CallText.{action_words}
use Rattle.script.specs.declared.action.Action.TheVariants.{Acquire, AwaitOn}
use Rattle.run_text.specs.Lines.{numbered}

pub two : {A E : Type 0} (r : Result A E) (o p q x y : List ℕ) → p ≡ o ++ x → OnOk r (q ≡ p ++ y) →
    OnOk r (q ≡ o ++ (x ++ y))
two r o p q x y first last = on_ok_weaker r (λ (is : q ≡ p ++ y). is ∙ rw first (simp append_assoc)) last

-- what a vector has after an extension, unless memory is refused
pub extended : {A E : Type 0} (r : Result A E) (new all old : List ℕ) →
    new ≡ (if is_ok r then all else old) → OnOk r (new ≡ all)
extended (Ok a) new all old is = is
extended (Err e) new all old is = tt

-- the words of a timed call, and its milliseconds
one_word_more : (a b c d : List ℕ) → line_of (a ∷ b ∷ c ∷ []) ++ 32 ∷ d ≡ line_of (a ∷ b ∷ c ∷ d ∷ [])
one_word_more a b c d = simp append_assoc

pub timed_acquire : {A E : Type 0} (r : Result A E) (o p q : List ℕ) (m : Mode) (n ms : ℕ) →
    p ≡ o ++ line_of (codes "acquire-timed" ∷ mode_word m ∷ decimal n ∷ []) →
    OnOk r (q ≡ p ++ numbered (codes " ") ms) → OnOk r (q ≡ o ++ line_of (action_words (Acquire m n (Timed ms))))
timed_acquire r o p q m n ms first last =
    rw (← one_word_more (codes "acquire-timed") (mode_word m) (decimal n) (decimal ms))
    (two r o p q (line_of (codes "acquire-timed" ∷ mode_word m ∷ decimal n ∷ [])) (32 ∷ decimal ms) first last)

pub timed_await : {A E : Type 0} (r : Result A E) (o p q : List ℕ) (c ms : ℕ) →
    p ≡ o ++ numbered (codes "await-timed ") c → OnOk r (q ≡ p ++ numbered (codes " ") ms) →
    OnOk r (q ≡ o ++ line_of (action_words (AwaitOn c (Timed ms))))
timed_await r o p q c ms first last =
    two r o p q (numbered (codes "await-timed ") c) (32 ∷ decimal ms) first last
