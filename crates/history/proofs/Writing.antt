-- Bytes that are written by several calls.
use Rattle.std.proofs.Common.{◌≡◌, ℕ, List, ◌++◌, append_assoc, ◌∙◌, Ok, Err, Result, OnOk, is_ok, if◌then◌else◌}
use Rattle.std.proofs.lemmas.Result.{on_ok_weaker}

-- a piece is put, or nothing
pub all_put : {T E : Type 0} (r : Result T E) (old new piece : List ℕ) →
    new ≡ (if is_ok r then old ++ piece else old) → OnOk r (new ≡ old ++ piece)
all_put (Ok x) old new piece is = is
all_put (Err e) old new piece is = tt

-- a name and two pieces are put first, and then the rest
pub rest_put : {T E : Type 0} (r : Result T E) (old between new a b c rest : List ℕ) →
    between ≡ old ++ a ++ (b ++ c) → OnOk r (new ≡ between ++ rest) →
    OnOk r (new ≡ old ++ (a ++ (b ++ (c ++ rest))))
rest_put r old between new a b c rest first second =
    on_ok_weaker r (λ e. e ∙ rw first (simp append_assoc)) second

-- two names, each with what follows it
pub two_parts : {T E : Type 0} (r : Result T E) (old between new a b xs ys : List ℕ) →
    between ≡ old ++ a ++ xs → OnOk r (new ≡ between ++ b ++ ys) →
    OnOk r (new ≡ old ++ (a ++ (xs ++ (b ++ ys))))
two_parts r old between new a b xs ys first second =
    on_ok_weaker r (λ e. e ∙ rw first (simp append_assoc)) second
