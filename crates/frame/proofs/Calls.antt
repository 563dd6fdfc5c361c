-- The calls of a table of seats.
use Rattle.std.proofs.Common.{◌≡◌, ◌≢◌, ⊎_elim, ℕ, ◌+◌, ◌<◌, ◌≤◌, Bool, true, ◌&&◌, cond, eqb, List, [], ◌∷◌, length, get_or, set, replicate, Option, Some, None, refl, ap, ◌∙◌, sym, subst, arith, IfSome, eq-eqb, ne_eqb, get_or-set_other, get_or-set_same}
use Rattle.std.proofs.lemmas.Bool.{cases_eq}
use Rattle.std.proofs.lemmas.List.{get_or-replicate}
use Rattle.frame.specs.Below.{SeatBase, Entry, Header, Object, Base, calls_of, folded, nothing, opening_base, seat_of, ends_call, IsGood}
use Rattle.history.proofs.Folding.{get_or-each, seat_folded}
use Rattle.history.proofs.Lists.{one_at_most}
use Rattle.history.proofs.Times.{total_part}
use Rattle.frame.specs.Prelude.{Seat, AreCalled, no_holds, seat_after, telling, with_mark}

-- seats of an object as opened
pub called_opened : (k : Header) (t : List Seat) → t ≡ replicate k.seats no_holds →
    AreCalled k.seats (opening_base k) [] t
called_opened k t free i l =
    ap (λ (x : Seat). x.calls)
    (ap (λ y. get_or y i no_holds) free ∙ get_or-replicate k.seats i no_holds no_holds l)
    ∙ sym (ap (λ (x : SeatBase). x.calls) (get_or-each k.seats (λ j. nothing) i nothing l))

-- after an entry
other_calls : (b : Base) (h : List Entry) (e : Entry) (i : ℕ) → e.seat ≢ i →
    calls_of b (e ∷ h) i ≡ calls_of b h i
other_calls b h e i ne = rw (ne_eqb e.seat i ne) (omega arith)

own_calls : (b : Base) (h : List Entry) (e : Entry) →
    calls_of b (e ∷ h) e.seat ≡ calls_of b h e.seat + cond (ends_call e.word) 1 0
own_calls b h e = rw (eq-eqb e.seat e.seat refl) refl

pub called_next : (n : ℕ) (b : Base) (h : List Entry) (e : Entry) (o : Object) (t : List Seat) →
    length t ≡ n → e.seat < n → AreCalled n b h t →
    AreCalled n b (e ∷ h) (set t e.seat (seat_after o e (get_or t e.seat no_holds)))
called_next n b h e o t sized seat all i l = ⊎_elim own other (cases_eq e.seat i)
  where
    x : Seat
    x = seat_after o e (get_or t e.seat no_holds)

    own : e.seat ≡ i → (get_or (set t e.seat x) i no_holds).calls ≡ calls_of b (e ∷ h) i
    own same =
        subst (λ j. (get_or (set t e.seat x) j no_holds).calls ≡ calls_of b (e ∷ h) j) same
        (ap (λ (y : Seat). y.calls) (get_or-set_same t e.seat x no_holds (omega (arith, seat, sized)))
        ∙ ap (λ m. m + cond (ends_call e.word) 1 0) (all e.seat seat)
        ∙ sym (own_calls b h e))

    other : e.seat ≢ i → (get_or (set t e.seat x) i no_holds).calls ≡ calls_of b (e ∷ h) i
    other ne =
        ap (λ (y : Seat). y.calls) (get_or-set_other t e.seat i x no_holds (λ q. ne (sym q)))
        ∙ all i l ∙ sym (other_calls b h e i ne)

-- a mark changes no calls
marked_calls : (told : Bool) (j : ℕ) (t : List Seat) (i : ℕ) → j < length t →
    (get_or (with_mark told j t) i no_holds).calls ≡ (get_or t i no_holds).calls
marked_calls told j t i l = ⊎_elim same other (cases_eq j i)
  where
    x : Seat
    x = record (get_or t j no_holds) { told = told }

    same : j ≡ i → (get_or (set t j x) i no_holds).calls ≡ (get_or t i no_holds).calls
    same is =
        subst (λ m. (get_or (set t j x) m no_holds).calls ≡ (get_or t m no_holds).calls) is
        (ap (λ (y : Seat). y.calls) (get_or-set_same t j x no_holds l))

    other : j ≢ i → (get_or (set t j x) i no_holds).calls ≡ (get_or t i no_holds).calls
    other ne = ap (λ (y : Seat). y.calls) (get_or-set_other t j i x no_holds (λ q. ne (sym q)))

pub called_mark : (n : ℕ) (b : Base) (h : List Entry) (told : Bool) (j : ℕ) (t : List Seat) → j < length t →
    AreCalled n b h t → AreCalled n b h (with_mark told j t)
called_mark n b h told j t l all i m = marked_calls told j t i l ∙ all i m

pub called_telling : (n : ℕ) (b : Base) (h : List Entry) (name : Option ℕ) (t : List Seat) →
    IfSome name (λ j. j < length t) → AreCalled n b h t → AreCalled n b h (telling name t)
called_telling n b h None t l all = all
called_telling n b h (Some j) t l all = called_mark n b h true j t l all

-- after a fold
pub called_folded : (b : Base) (h : List Entry) (t : List Seat) → AreCalled b.header.seats b h t →
    AreCalled b.header.seats (folded b h) [] t
called_folded b h t all i l = all i l ∙ sym (ap (λ (x : SeatBase). x.calls) (seat_folded b h i l))

-- no more than there are entries
few_more : (b : Base) (h : List Entry) (i : ℕ) → calls_of b h i ≤ (seat_of b i).calls + length h
few_more b [] i = omega arith
few_more b (e ∷ h) i =
    let before = few_more b h i in
    let one = one_at_most (eqb e.seat i && ends_call e.word) in
    omega (arith, before, one)

pub few_calls : (b : Base) (h : List Entry) (i : ℕ) → IsGood b → i < b.header.seats →
    calls_of b h i ≤ b.entries + length h
few_calls b h i good l =
    let more = few_more b h i in
    let part = total_part b.header.seats (λ j. (seat_of b j).calls) i l in
    let all = good.calls in
    omega (arith, more, part, all)
