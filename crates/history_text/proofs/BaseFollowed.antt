-- Lines of a base, taken up one after another.
use Rattle.std.proofs.Common.{◌≡◌, ℕ, ◌+◌, ◌<◌, ◌≤◌, Bool, true, false, IsTrue, List, [], ◌∷◌, ◌++◌, length, map, get_or, drop, refl, sym, ap, subst, ◌∙◌}
use Rattle.std.proofs.lemmas.List.{drop_all, drop_more}
use Rattle.history_text.specs.Below.{Sleeper, Base}
use Rattle.history_text.specs.Prelude.{BaseLine, Sleeps, Stands, after_told, base_lines, first_line, seat_lines, sleeper_lines, BaseSums, with_sums, no_sums}
use Rattle.history_text.specs.inner.BaseFollowing.{AllFollow, HaveFollowed}
use Rattle.history_text.proofs.BaseWhole.{told-append}

-- lines behind lines
follow-append : (b : Base) (t : BaseSums) (xs ys : List BaseLine) → AllFollow b t xs →
    AllFollow b (after_told t xs) ys → AllFollow b t (xs ++ ys)
follow-append b t [] ys p q = q
follow-append b t (x ∷ xs) ys p q = (p.0, follow-append b (with_sums t x) xs ys p.1 q)

follow_front : (b : Base) (t : BaseSums) (xs ys : List BaseLine) → AllFollow b t (xs ++ ys) → AllFollow b t xs
follow_front b t [] ys p = tt
follow_front b t (x ∷ xs) ys p = (p.0, follow_front b (with_sums t x) xs ys p.1)

follow_behind : (b : Base) (t : BaseSums) (xs ys : List BaseLine) → AllFollow b t (xs ++ ys) →
    AllFollow b (after_told t xs) ys
follow_behind b t [] ys p = p
follow_behind b t (x ∷ xs) ys p = follow_behind b (with_sums t x) xs ys p.1

-- What is left of lines, where the others were taken up: all of them may follow exactly if these may.
pub record Left (b : Base) (first now : BaseSums) (all left : List BaseLine) : Type 0 where
  pub to : AllFollow b now left → AllFollow b first all
  pub from : AllFollow b first all → AllFollow b now left
  pub sums : after_told now left ≡ after_told first all

pub none_yet : (b : Base) (t : BaseSums) (all : List BaseLine) → Left b t t all all
none_yet b t all = record { to = λ p. p; from = λ p. p; sums = refl }

-- some more are taken up
pub taken : (b : Base) (first now next : BaseSums) (all left xs rest : List BaseLine) → left ≡ xs ++ rest →
    Left b first now all left → AllFollow b now xs × (next ≡ after_told now xs) → Left b first next all rest
taken b first now next all left xs rest e was is =
    record {
      to = λ p. was.to (rw e (follow-append b now xs rest is.0 (rw is.1 at p)));
      from = λ p. rw is.1 (follow_behind b now xs rest (rw e at (was.from p)));
      sums = ap (λ (t : BaseSums). after_told t rest) is.1 ∙ sym (told-append now xs rest)
          ∙ ap (after_told now) (sym e) ∙ was.sums;
    }

-- some may not follow
pub refused : (b : Base) (first now : BaseSums) (all left xs rest : List BaseLine) → left ≡ xs ++ rest →
    Left b first now all left → (AllFollow b now xs → ⊥) → AllFollow b first all → ⊥
refused b first now all left xs rest e was not_these p =
    not_these (follow_front b now xs rest (subst (AllFollow b now) e (was.from p)))

-- all were taken up
pub all_taken : (b : Base) (first now : BaseSums) (all : List BaseLine) → Left b first now all [] →
    HaveFollowed true b first now all
all_taken b first now all is = (is.to tt, is.sums)

-- ---- lines of the parts of a base, from one on

module _ {X : Type 0} (f : X → BaseLine) (xs : List X) (i : ℕ) (b : Base) (first now : BaseSums)
    (left : Left b first now (map f xs) (map f (drop i xs))) where
  pub one_taken : (d : X) (next : BaseSums) → i < length xs →
      HaveFollowed true b now next (f (get_or xs i d) ∷ []) →
      Left b first next (map f xs) (map f (drop (i + 1) xs))
  one_taken d next lt is =
      taken b first now next (map f xs) (map f (drop i xs)) (f (get_or xs i d) ∷ [])
      (map f (drop (i + 1) xs)) (ap (map f) (drop_more xs i d lt)) left is

  pub one_refused : (d : X) → i < length xs → (AllFollow b now (f (get_or xs i d) ∷ []) → ⊥) →
      AllFollow b first (map f xs) → ⊥
  one_refused d lt =
      refused b first now (map f xs) (map f (drop i xs)) (f (get_or xs i d) ∷ []) (map f (drop (i + 1) xs))
      (ap (map f) (drop_more xs i d lt)) left

  pub list_taken : length xs ≤ i → HaveFollowed true b first now (map f xs)
  list_taken le =
      all_taken b first now (map f xs)
      (subst (λ l. Left b first now (map f xs) (map f l)) (drop_all i xs le) left)

pub sleepers_left : (lists : List (List Sleeper)) (c : ℕ) (list : List Sleeper) → c < length lists →
    list ≡ get_or lists c [] →
    sleeper_lines c (drop c lists) ≡ map (Sleeps c) list ++ sleeper_lines (c + 1) (drop (c + 1) lists)
sleepers_left lists c list lt is = rw is (ap (sleeper_lines c) (drop_more lists c [] lt))

-- ---- the lines of a base, part by part

abbrev pub behind_seats : Base → List BaseLine
behind_seats b = map Stands b.line ++ sleeper_lines 0 b.sleepers

abbrev pub behind_first : Base → List BaseLine
behind_first b = seat_lines 0 b.seats ++ behind_seats b

-- its first line was taken up
pub first_taken : (b : Base) (t next : BaseSums) (x : BaseLine) → t ≡ no_sums →
    x ≡ first_line b.header.object b → HaveFollowed true b t next (x ∷ []) →
    Left b no_sums next (base_lines b) (behind_first b)
first_taken b t next x at is follow =
    taken b no_sums no_sums next (base_lines b) (base_lines b) (first_line b.header.object b ∷ [])
    (behind_first b) refl (none_yet b no_sums (base_lines b))
    (subst (λ (s : BaseSums). HaveFollowed true b s next (first_line b.header.object b ∷ [])) at
    (subst (λ (y : BaseLine). HaveFollowed true b t next (y ∷ [])) is follow))

-- and those of its seats
pub seats_taken : (b : Base) (t next after : BaseSums) (x : BaseLine) → t ≡ no_sums →
    x ≡ first_line b.header.object b → HaveFollowed true b t next (x ∷ []) →
    HaveFollowed true b next after (seat_lines 0 b.seats) →
    Left b no_sums after (base_lines b) (behind_seats b)
seats_taken b t next after x at is follow seats =
    taken b no_sums next after (base_lines b) (behind_first b) (seat_lines 0 b.seats) (behind_seats b) refl
    (first_taken b t next x at is follow) seats

pub neither : {A : Type 0} → (A → ⊥) → (IsTrue false → A) × (A → IsTrue false)
neither not_so = (λ f. cc, λ a. absurd (not_so a))

-- what the last lines answer, the whole base does
pub last_taken : (r : Bool) (b : Base) (t next : BaseSums) (xs : List BaseLine) →
    Left b no_sums t (base_lines b) xs → HaveFollowed r b t next xs →
    (IsTrue r → AllFollow b no_sums (base_lines b)) × (AllFollow b no_sums (base_lines b) → IsTrue r)
last_taken true b t next xs left follow = (λ q. left.to follow.0, λ p. refl)
last_taken false b t next xs left follow = neither (λ p. follow (left.from p))
