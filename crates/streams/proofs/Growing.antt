-- One more line is read.
use Rattle.std.proofs.Common.{◌≡◌, ℕ, List, [], ◌∷◌, ◌++◌, sym, subst, ◌∙◌, append_assoc, append-nil}
use Rattle.history.specs.Text.{ended}
use Rattle.streams.specs.Form.{Form, lines_of, AreItems}
use Rattle.streams.specs.Reading.{Begins}

-- a break, and what follows it
pub broken : (line rest : List ℕ) → ended line ++ rest ≡ line ++ 10 ∷ rest
broken line rest = append_assoc line (10 ∷ []) rest

pub lines_of-push : {H I : Type 0} (form : Form H I) (xs : List I) (x : I) →
    lines_of form (xs ++ x ∷ []) ≡ lines_of form xs ++ ended (form.item_line x)
lines_of-push form [] x = append-nil (ended (form.item_line x))
lines_of-push form (y ∷ ys) x = simp (lines_of-push form ys x, append_assoc)

pub AreItems-push : {H I : Type 0} (form : Form H I) (h : H) (before xs : List I) (x : I) →
    AreItems form h before xs → form.IsItem h (before ++ xs) x → AreItems form h before (xs ++ x ∷ [])
AreItems-push form h before [] x all here =
    (subst (λ (l : List _). form.IsItem h l x) (append-nil before) here, tt)
AreItems-push form h before (y ∷ ys) x all here =
    let next : before ++ y ∷ ys ≡ (before ++ y ∷ []) ++ ys = sym (append_assoc before (y ∷ []) ys) in (
      all.0,
      AreItems-push form h (before ++ y ∷ []) ys x all.1
          (subst (λ (l : List _). form.IsItem h l x) next here),
    )

pub one_more : {H I : Type 0} (form : Form H I) (text : List ℕ) (h : H)
    (xs : List I) (rest line after : List ℕ) (x : I)
    → Begins form text h xs rest → rest ≡ line ++ 10 ∷ after → form.IsItem h xs x →
    line ≡ form.item_line x → Begins form text h (xs ++ x ∷ []) after
one_more form text h xs rest line after x begun whole fits is =
    record {
      header = begun.header;
      each = AreItems-push form h [] xs x begun.each fits;
      parts = begun.parts ∙ simp (whole, is, lines_of-push form xs x, append_assoc);
    }

-- the end line is there
pub at_end : {H I : Type 0} (form : Form H I) (text : List ℕ) (h : H) (xs : List I) (rest line after : List ℕ)
    → Begins form text h xs rest → rest ≡ line ++ 10 ∷ after → line ≡ form.end_line xs →
    Begins form text h xs (ended (form.end_line xs) ++ after)
at_end form text h xs rest line after begun whole is =
    record {
      header = begun.header;
      each = begun.each;
      parts = begun.parts ∙ simp (whole, is, append_assoc);
    }
