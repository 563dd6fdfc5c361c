-- The fronts of a history, entry by entry.
use Rattle.std.proofs.Common.{◌≡◌, ℕ, zero, suc, ◌<◌, ◌≤◌, ◌+◌, ◌-◌, arith, List, [], ◌∷◌, length, drop, reverse, get_or, ap, ◌∙◌, sym, subst, length-drop, drop-cons, Some, slice_get}
use Rattle.std.proofs.lemmas.Option.{get_or_from_slice_get}
use Rattle.std.proofs.lemmas.List.{get_or-reverse}
use Rattle.audit.specs.Below.{Entry, IsLegal, AreSeated, Start}
use Rattle.audit.specs.declared.ledger.Ledger.{Ledger}
use Rattle.audit.specs.Ledger.{HasSeat, IsNext, LedgerStand}
use Rattle.audit.specs.Verdict.{front, IsFirstWrong}

pub front_all : (h : List Entry) (n : ℕ) → length h ≤ n → front n h ≡ h
front_all h n l = let z : length h - n ≡ 0 = omega arith in ap (λ m. drop m h) z

pub front_length : (h : List Entry) (n : ℕ) → n ≤ length h → length (front n h) ≡ n
front_length h n l = let d = length-drop (length h - n) h in omega (arith, d)

-- the entry of a number, counted from the oldest, by its place m counted from the newest
read_at : (h : List Entry) (n m : ℕ) (e : Entry) → m + (n + 1) ≡ length h → slice_get (reverse h) n ≡ Some e →
    get_or h m e ≡ e
read_at h n m e long q =
    let same : m ≡ length h - 1 - n = omega (arith, long) in
    ap (λ i. get_or h i e) same ∙ sym (get_or-reverse h n e (omega (arith, long)))
    ∙ get_or_from_slice_get (reverse h) n e e q

-- it stands before its front
pub front_next : (h : List Entry) (n : ℕ) (e : Entry) → n < length h → slice_get (reverse h) n ≡ Some e →
    front (n + 1) h ≡ e ∷ front n h
front_next h n e l q =
    let next : suc (length h - (n + 1)) ≡ length h - n = omega (arith, l) in
    drop-cons h (length h - (n + 1)) e (omega (arith, l))
    ∙ ap (λ x. x ∷ drop (suc (length h - (n + 1))) h)
    (read_at h n (length h - (n + 1)) e (omega (arith, l)) q)
    ∙ ap (λ i. e ∷ drop i h) next

pub seated_drop : (s : Start) (n : ℕ) (h : List Entry) → AreSeated s h → AreSeated s (drop n h)
seated_drop s zero h seated = seated
seated_drop s (suc n) [] seated = seated
seated_drop s (suc n) (e ∷ h) seated = seated_drop s n h seated.1

pub next_seat : (s : Start) (h : List Entry) (n : ℕ) (e : Entry) → AreSeated s h → n < length h →
    slice_get (reverse h) n ≡ Some e → e.seat < s.header.seats
next_seat s h n e seated l q =
    let S : List Entry → Type 0 = λ x. AreSeated s x in
    (subst S (front_next h n e l q) (seated_drop s (length h - (n + 1)) h seated)).0

-- a seat of a ledger's header
pub has_seat : (s : Start) (h : List Entry) (l : Ledger) (i : ℕ) → LedgerStand s h l → i < s.header.seats →
    length h + 1 < 4294967296 → HasSeat l i
has_seat s h l i st seat room = record { start = s; front = h; stand = st; seat = seat; room = room }

-- one more entry, behind those that were followed
pub front_more : (h : List Entry) (e : Entry) (n : ℕ) → n ≤ length h → front n (e ∷ h) ≡ front n h
front_more h e n le =
    let one : length (e ∷ h) - n ≡ suc (length h - n) = omega (arith, le) in
    ap (λ i. drop i (e ∷ h)) one

pub front_same : (h : List Entry) → front (length h) h ≡ h
front_same h = front_all h (length h) (omega arith)

-- it is the first that isn't legal
pub wrong_now : (s : Start) (h : List Entry) (e : Entry) → IsLegal s h →
    (IsNext s h e → ⊥) →
    IsFirstWrong s (e ∷ h) (length h) × (IsLegal s (e ∷ h) → ⊥)
wrong_now s h e legal wrong =
    let L : List Entry → Type 0 = λ x. IsLegal s x in
    let all : front (length h + 1) (e ∷ h) ≡ e ∷ h = front_all (e ∷ h) (length h + 1) (omega arith) in (
      record {
        stands = omega arith;
        legal = subst L (sym (front_more h e (length h) (omega arith) ∙ front_same h)) legal;
        wrong = λ l. wrong (subst L all l).0;
      },
      λ l. wrong l.0,
    )

-- or the first one stays the first
pub wrong_still : (s : Start) (h : List Entry) (e : Entry) (number : ℕ) → IsFirstWrong s h number →
    (IsLegal s h → ⊥) →
    IsFirstWrong s (e ∷ h) number × (IsLegal s (e ∷ h) → ⊥)
wrong_still s h e number first wrong =
    let L : List Entry → Type 0 = λ x. IsLegal s x in
    let before : number ≤ length h = omega (arith, first.stands) in
    let with_it : number + 1 ≤ length h = omega (arith, first.stands) in (
      record {
        stands = omega (arith, first.stands);
        legal = subst L (sym (front_more h e number before)) first.legal;
        wrong = λ l. first.wrong (subst L (front_more h e (number + 1) with_it) l);
      },
      λ l. wrong l.1,
    )
