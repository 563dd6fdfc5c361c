-- What each word of a lock's history changes, and what it leaves.
use Rattle.std.proofs.Common.{◌≡◌, ℕ, ◌-◌, Bool, true, false, ◌&&◌, cond, eqb, List, [], ◌∷◌, ◌++◌, refl, ap, ◌∙◌, ℤ, arith}
use mathlib.Core.Path.{fun_ext}
use Rattle.std.specs.List.{filter}
use Rattle.history.specs.Prelude.{Entry, Arrival, Mode, Word, Queued, Missed, Left, Refused, Start, Object, ends_arrival, same_mode, counts, held, holds_after, free, free_after, count, counted, counted_after, opening_count, line, arrivals_by}
use Rattle.history.proofs.LineLemmas.{line_after, stays}

-- the words that change no number
abbrev pub counts_nothing : Word → Bool
counts_nothing Queued = true
counts_nothing Missed = true
counts_nothing Left = true
counts_nothing (Refused f) = true
counts_nothing _ = false

-- the numbers after an entry
held_kept : (o : Object) (w : Word) (n x : ℕ) → counts_nothing w ≡ true → holds_after o w n x ≡ x
held_kept o w n x t = grind arith

free_kept : (w : Word) (n : ℕ) (x : ℤ) → counts_nothing w ≡ true → free_after w n x ≡ x
free_kept w n x t = grind arith

counted_kept : (w : Word) (x : ℕ) → counts_nothing w ≡ true → counted_after w x ≡ x
counted_kept w x t = grind arith

pub either_way : {A : Type 0} (b : Bool) (x y : A) → x ≡ y → cond b x y ≡ y
either_way true x y e = e
either_way false x y e = refl

pub held_same : (s : Start) (e : Entry) (h : List Entry) (i : ℕ) (m : Mode) → counts_nothing e.word ≡ true →
    held s (e ∷ h) i m ≡ held s h i m
held_same s e h i m t =
    either_way (eqb e.seat i && same_mode e.mode m) _ _ (held_kept s.header.object e.word e.n
    (held s h i m) t)

pub counts_same : (s : Start) (e : Entry) (h : List Entry) → counts_nothing e.word ≡ true →
    counts s (e ∷ h) ≡ counts s h
counts_same s e h t =
    let f : held s (e ∷ h) ≡ held s h = fun_ext (λ i. fun_ext (λ m. held_same s e h i m t)) in
    let g : free s (e ∷ h) ≡ free s h = free_kept e.word e.n (free s h) t in
    let c : count s (e ∷ h) ≡ count s h =
    ap (λ x. opening_count s.header.object - x) (counted_kept e.word (counted s h) t) in
    λ i. record { object = s.header.object; seats = s.header.seats; held = f i; free = g i; count = c i }

-- the line after an entry
pub all_stay : (w : Word) (i : ℕ) (q : List Arrival) → ends_arrival w ≡ false → filter (stays w i) q ≡ q
all_stay w i [] t = refl
all_stay w i (a ∷ q) t = grind (arith, all_stay w i q t)

pub line_queued : (s : Start) (e : Entry) (h : List Entry) → e.word ≡ Queued →
    line s (e ∷ h) ≡ line s h ++ record { seat = e.seat; mode = e.mode; n = e.n; back = false } ∷ []
line_queued s e h t =
    line_after s e h
    ∙ ap (λ w. filter (stays w e.seat) (line s h) ++ arrivals_by s w e h) t
    ∙ ap (λ l. l ++ record { seat = e.seat; mode = e.mode; n = e.n; back = false } ∷ [])
    (all_stay Queued e.seat (line s h) refl)
