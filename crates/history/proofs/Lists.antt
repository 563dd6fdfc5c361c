-- Lists of entries, the newest first.
use Rattle.std.proofs.Common.{◌≡◌, ◌+◌, ◌≤◌, Bool, true, false, cond, List, [], ◌∷◌, ◌++◌, length, reverse, refl, ap, ◌∙◌, arith}
use Rattle.std.specs.List.{AllByRecursion}
use Rattle.std.proofs.lemmas.List.{reverse-append}
use Rattle.history.specs.Prelude.{Entry, ends_call, ended_calls, calls, Start}

-- one entry more at the end of a list is the first from behind
pub reverse_push : {X : Type 0} (xs : List X) (x : X) → reverse (xs ++ x ∷ []) ≡ x ∷ reverse xs
reverse_push xs x = reverse-append xs (x ∷ [])

-- what follows from what holds of each
pub each-as : {A : Type 0} (P Q : A → Type 0) (xs : List A) → ((x : A) → P x → Q x) → AllByRecursion P xs →
    AllByRecursion Q xs
each-as P Q [] next all = tt
each-as P Q (x ∷ xs) next all = (next x all.0, each-as P Q xs next all.1)

pub one_at_most : (b : Bool) → cond b 1 0 ≤ 1
one_at_most true = omega arith
one_at_most false = omega arith

-- no more calls end than there are entries
pub ended_calls_le : (h : List Entry) → ended_calls h ≤ length h
ended_calls_le [] = omega arith
ended_calls_le (e ∷ h) = omega (arith, ended_calls_le h, one_at_most (ends_call e.word))

pub ended_append : (h g : List Entry) → ended_calls (h ++ g) ≡ ended_calls h + ended_calls g
ended_append [] g = omega arith
ended_append (e ∷ h) g = omega (arith, ended_append h g)

pub ended_calls-reverse : (h : List Entry) → ended_calls (reverse h) ≡ ended_calls h
ended_calls-reverse [] = refl
ended_calls-reverse (e ∷ h) =
    ap ended_calls (reverse-append (e ∷ []) h) ∙ ended_append (reverse h) (e ∷ [])
    ∙ omega (arith, ended_calls-reverse h)

-- the calls of a history are those that ended before its start and in its entries
pub calls-ended : (s : Start) (h : List Entry) → calls s h ≡ s.calls + ended_calls h
calls-ended s [] = omega arith
calls-ended s (e ∷ h) = omega (arith, calls-ended s h)
