-- The permits of a semaphore: held and free, they are conserved, and neither number leaves its range.
use Rattle.std.proofs.Common.{◌≡◌, ◌⊎◌, inl, inr, ⊎_elim, ℕ, ◌+◌, ◌-◌, ◌*◌, ◌<◌, ◌≤◌, true, false, cond, List, [], ◌∷◌, length, refl, ap, ◌∙◌, sym, subst, arith, ℤ, pos, negsuc, ◌+ℤ◌, ◌-ℤ◌, ◌≤ℤ◌, int_le, int_lt, FitsSigned, ne_eqb}
use Rattle.std.specs.Int.{w32}
use Rattle.std.proofs.lemmas.Bool.Decides.{nat_tests}
use Rattle.std.proofs.lemmas.Int.{ints}
use Rattle.history.specs.Prelude.{MOST_AMOUNT, Entry, Mode, X, S, Word, Header, Object, Semaphore, IsConserved, permits_held, could, could_of, Counts, counts, held, holds_after, beyond, free, free_after, unheld, total, lacks_mode, IsInRange, IsOpening, IsLegal, AreSeated, line, created, in_holds, is_semaphore, Start, opening, at_least_none, gave}
use Rattle.history.specs.declared.entry.Word.TheVariants as word
use Rattle.history.specs.declared.fault.Fault.TheVariants as fault
use Rattle.history.proofs.Asking.{asked_few}
use Rattle.history.proofs.Entering.{Known, KnownBy, known}
use Rattle.history.proofs.OneWait.{Waits, SavedIfBack, opening_waits, placed, waits_from}
use Rattle.history.proofs.Owners.{ready_could, semaphore_no_lock}
use Rattle.history.proofs.Sums.{total_change, total_nothing, total_same}

-- a semaphore is no lock, has the shared mode alone and holds what is asked for
semaphore_holds : (o : Object) (n : ℕ) → is_semaphore o ≡ true → in_holds o n ≡ n
semaphore_holds o n t = grind arith

-- what could be taken of a semaphore is shared, and free
semaphore_could : (o : Object) (k : Counts) (i : ℕ) (m : Mode) (n : ℕ) → is_semaphore o ≡ true →
    could_of o k i m n ≡ true → (m ≡ S) × (int_le (pos 0) (k.free -ℤ pos n) ≡ true)
semaphore_could o k i m n t u = grind arith

semaphore_gave : (o : Object) (k : Counts) (i : ℕ) (m : Mode) (n : ℕ) → is_semaphore o ≡ true →
    lacks_mode o m ≡ false → gave o k i m n ≡ word.Gave → (m ≡ S)
    × (int_lt (pos MOST_AMOUNT) (k.free +ℤ pos n) ≡ false)
semaphore_gave o k i m n t u g = grind arith

-- What an entry of a semaphore does to permits: it takes what is free or all of it, gives back, or nothing.
data Moves (s : Start) (e : Entry) (h : List Entry) : Type 0 where
  Takes : (shared : e.mode ≡ S) →
      (there : (int_le (pos 0) (free s h -ℤ pos e.n) ≡ true) ⊎ (e.n ≡ at_least_none (free s h))) →
      (holds : (x : ℕ) → holds_after s.header.object e.word e.n x ≡ x + e.n) →
      (frees : free s (e ∷ h) ≡ free s h -ℤ pos e.n) → (own : (x : ℕ) → beyond e.word e.n x ≡ 0) →
      Moves s e h
  Gives : (shared : e.mode ≡ S) → (below : int_lt (pos MOST_AMOUNT) (free s h +ℤ pos e.n) ≡ false) →
      (holds : (x : ℕ) → holds_after s.header.object e.word e.n x ≡ x - e.n) →
      (frees : free s (e ∷ h) ≡ free s h +ℤ pos e.n) → (own : (x : ℕ) → beyond e.word e.n x ≡ e.n - x) →
      Moves s e h
  Keeps : (holds : (x : ℕ) → holds_after s.header.object e.word e.n x ≡ x) →
      (frees : free s (e ∷ h) ≡ free s h) → (own : (x : ℕ) → beyond e.word e.n x ≡ 0) → Moves s e h

take_moves : (s : Start) (e : Entry) (h : List Entry) (w : Word) → e.word ≡ w →
    is_semaphore s.header.object ≡ true
    → ((n x : ℕ) → holds_after s.header.object w n x ≡ x + in_holds s.header.object n) →
    free_after w e.n (free s h) ≡ free s h -ℤ pos e.n → ((n x : ℕ) → beyond w n x ≡ 0)
    → could (counts s h) e.seat e.mode e.n ≡ true → Moves s e h
take_moves s e h w p t holds frees own c =
    let k = semaphore_could s.header.object (counts s h) e.seat e.mode e.n t c in
    let n = semaphore_holds s.header.object e.n t in
    Takes k.0 (inl k.1) (λ x. grind (arith, p, n, holds e.n x)) (grind (arith, p, frees))
    (λ x. grind (arith, p, own e.n x))

moves : (s : Start) (e : Entry) (h : List Entry) → is_semaphore s.header.object ≡ true → Known s h e →
    Waits s h → Moves s e h
moves s e h t known back = by e.word refl known
  where
    by : (w : Word) → e.word ≡ w → KnownBy s h e w → Moves s e h
    by word.Got p k = take_moves s e h word.Got p t (λ n x. refl) refl (λ n x. refl) k.1
    by word.TryGot p k = take_moves s e h word.TryGot p t (λ n x. refl) refl (λ n x. refl) k.1
    by word.Granted p k =
        let c = ready_could s h e.seat k.0 k.2 k.1.stands in
        let m : e.mode ≡ k.0.mode = ap (λ (x : Entry). x.mode) k.1.entry in
        let n : e.n ≡ k.0.n = ap (λ (x : Entry). x.n) k.1.entry in
        take_moves s e h word.Granted p t (λ n x. refl) refl (λ n x. refl)
        (ap (λ x. could (counts s h) e.seat x e.n) m ∙ ap (could (counts s h) e.seat k.0.mode) n ∙ c)
    by word.Gave p k =
        let g = semaphore_gave s.header.object (counts s h) e.seat e.mode e.n t k.0.mode k.1 in
        let n = semaphore_holds s.header.object e.n t in
        Gives g.0 g.1 (λ x. grind (arith, p, n)) (grind (arith, p)) (λ x. grind (arith, p))
    by word.Drained p k =
        Takes (ap (λ (x : Entry). x.mode) k.2) (inr (ap (λ (x : Entry). x.n) k.2)) (λ x. grind (arith, p))
        (grind (arith, p)) (λ x. grind (arith, p))
    by word.Back p k =
        absurd (semaphore_no_lock s.header.object t
        (placed (SavedIfBack s h) e.seat (line s h) k.0 back.line k.1 k.2).saved.lock)
    by word.Await p k = absurd (semaphore_no_lock s.header.object t k.0.lock)
    by _ p k = Keeps (λ x. grind (arith, p)) (grind (arith, p)) (λ x. grind (arith, p))

-- what the seats hold together
held_shared : (s : Start) (e : Entry) (h : List Entry) → e.mode ≡ S → e.seat < s.header.seats →
    permits_held s (e ∷ h) + held s h e.seat S ≡ permits_held s h
    + holds_after s.header.object e.word e.n (held s h e.seat S)
held_shared s e h m seat =
    let change = total_change s.header.seats (λ i. held s (e ∷ h) i S) (λ i. held s h i S) e.seat seat
    (λ i ne. rw (ne_eqb e.seat i (λ q. ne (sym q))) refl) in
    grind (arith, nat_tests, change, m)

held_kept : (s : Start) (e : Entry) (h : List Entry) (i : ℕ) (m : Mode) →
    ((x : ℕ) → holds_after s.header.object e.word e.n x ≡ x) → held s (e ∷ h) i m ≡ held s h i m
held_kept s e h i m same = grind (arith, same (held s h i m))

unheld_more : (s : Start) (e : Entry) (h : List Entry) → is_semaphore s.header.object ≡ true →
    unheld s (e ∷ h) ≡ unheld s h + beyond e.word e.n (held s h e.seat e.mode)
unheld_more s e h t = ap (λ b. unheld s h + cond b (beyond e.word e.n (held s h e.seat e.mode)) 0) t

-- permits are conserved by each entry
taken : (t t' x n u u' : ℕ) (f f' c : ℤ) → t' + x ≡ t + (x + n) → u' ≡ u + 0 → f' ≡ f -ℤ pos n →
    pos t +ℤ f ≡ c +ℤ pos u → pos t' +ℤ f' ≡ c +ℤ pos u'
taken t t' x n u u' f f' c p q r v = omega (arith, ints)

returned : (t t' x n u u' : ℕ) (f f' c : ℤ) → t' + x ≡ t + (x - n) → u' ≡ u + (n - x) → f' ≡ f +ℤ pos n →
    pos t +ℤ f ≡ c +ℤ pos u → pos t' +ℤ f' ≡ c +ℤ pos u'
returned t t' x n u u' f f' c p q r v = omega (arith, ints)

untouched : (t t' u u' : ℕ) (f f' c : ℤ) → t' ≡ t → u' ≡ u + 0 → f' ≡ f → pos t +ℤ f ≡ c +ℤ pos u →
    pos t' +ℤ f' ≡ c +ℤ pos u'
untouched t t' u u' f f' c p q r v = omega (arith, ints)

conserved_more : (s : Start) (e : Entry) (h : List Entry) → is_semaphore s.header.object ≡ true →
    e.seat < s.header.seats → Moves s e h → IsConserved s h → IsConserved s (e ∷ h)
conserved_more s e h t seat (Takes shared there holds frees own) c =
    taken _ _ (held s h e.seat S) e.n _ _ _ _ _ (held_shared s e h shared seat
    ∙ ap (λ x. permits_held s h + x) (holds _)) (unheld_more s e h t
    ∙ ap (λ x. unheld s h + x) (own _)) frees c
conserved_more s e h t seat (Gives shared below holds frees own) c =
    returned _ _ (held s h e.seat S) e.n _ _ _ _ _ (held_shared s e h shared seat
    ∙ ap (λ x. permits_held s h + x) (holds _)) (unheld_more s e h t
    ∙ ap (λ x. unheld s h + x) (own _ ∙ ap (λ m. e.n - held s h e.seat m) shared)) frees c
conserved_more s e h t seat (Keeps holds frees own) c =
    untouched _ _ _ _ _ _ _ (total_same s.header.seats _ _ (λ i. held_kept s e h i S holds))
    (unheld_more s e h t ∙ ap (λ x. unheld s h + x) (own _)) frees c

nothing_held : (n : ℕ) (c : ℤ) → pos (total n (λ i. 0)) +ℤ c ≡ c +ℤ pos 0
nothing_held n c = omega (arith, ints, total_nothing n)

pub conserved_from : (s : Start) (h : List Entry) → is_semaphore s.header.object ≡ true → Waits s [] →
    IsConserved s [] → IsLegal s h → AreSeated s h → IsConserved s h
conserved_from s [] t v c legal seats = c
conserved_from s (e ∷ h) t v c legal seats =
    conserved_more s e h t seats.0
    (moves s e h t (known s h legal.0.0 e legal.0.1) (waits_from s h v legal.1))
    (conserved_from s h t v c legal.1 seats.1)

pub conserved : (k : Header) (h : List Entry) → is_semaphore k.object ≡ true → IsLegal (opening k) h →
    AreSeated (opening k) h → IsConserved (opening k) h
conserved k h t legal seats =
    conserved_from (opening k) h t (opening_waits k) (nothing_held k.seats (created k.object)) legal seats

-- a drain takes what there is
drained_is : (f : ℤ) → (at_least_none f ≡ 0) ⊎ (pos (at_least_none f) ≡ f)
drained_is (pos a) = grind arith
drained_is (negsuc b) = inl refl

fits_taken : (f : ℤ) (n : ℕ) → FitsSigned w32 f → int_le (pos 0) (f -ℤ pos n) ≡ true →
    FitsSigned w32 (f -ℤ pos n)
fits_taken f n p q = omega (arith, ints)

fits_returned : (f : ℤ) (n : ℕ) → FitsSigned w32 f → int_lt (pos MOST_AMOUNT) (f +ℤ pos n) ≡ false →
    FitsSigned w32 (f +ℤ pos n)
fits_returned f n p q = omega (arith, ints)

fits_drained : (f : ℤ) (n : ℕ) → FitsSigned w32 f → n ≡ at_least_none f → FitsSigned w32 (f -ℤ pos n)
fits_drained f n p q =
    ⊎_elim (λ z. omega (arith, ints, p, q, z)) (λ all. omega (arith, ints, p, ap pos q ∙ all)) (drained_is f)

few : (f : ℤ) (n : ℕ) → FitsSigned w32 f → int_le (pos 0) (f -ℤ pos n) ≡ true → n ≤ MOST_AMOUNT
few f n p q = omega (arith, ints)

few_drained : (f : ℤ) (n : ℕ) → FitsSigned w32 f → n ≡ at_least_none f → n ≤ MOST_AMOUNT
few_drained f n p q =
    ⊎_elim (λ z. omega (arith, q, z)) (λ all. omega (arith, ints, p, ap pos q ∙ all)) (drained_is f)

fits_more : (s : Start) (e : Entry) (h : List Entry) → Moves s e h → FitsSigned w32 (free s h) →
    FitsSigned w32 (free s (e ∷ h))
fits_more s e h (Takes shared there holds frees own) fits =
    subst (FitsSigned w32) (sym frees)
    (⊎_elim (fits_taken (free s h) e.n fits) (fits_drained (free s h) e.n fits) there)
fits_more s e h (Gives shared below holds frees own) fits =
    subst (FitsSigned w32) (sym frees) (fits_returned (free s h) e.n fits below)
fits_more s e h (Keeps holds frees own) fits = subst (FitsSigned w32) (sym frees) fits

-- free permits stay numbers of 32 bits, and no request is for more than there may be
pub free_fits_on : (s : Start) (h : List Entry) → is_semaphore s.header.object ≡ true → Waits s [] →
    FitsSigned w32 (free s []) → IsLegal s h → FitsSigned w32 (free s h)
free_fits_on s [] t v fits legal = fits
free_fits_on s (e ∷ h) t v fits legal =
    fits_more s e h (moves s e h t (known s h legal.0.0 e legal.0.1) (waits_from s h v legal.1))
    (free_fits_on s h t v fits legal.1)

pub created_fits : (k : Header) → IsInRange k → is_semaphore k.object ≡ true →
    FitsSigned w32 (created k.object)
created_fits k range t = by k.object range.opening t
  where
    by : (o : Object) → IsOpening o k.conditions → is_semaphore o ≡ true → FitsSigned w32 (created o)
    by (Semaphore p c) r u = r.1
    by _ r u = absurd (cc)

pub free_fits : (k : Header) (h : List Entry) → IsInRange k → is_semaphore k.object ≡ true →
    IsLegal (opening k) h → FitsSigned w32 (free (opening k) h)
free_fits k h range t legal = free_fits_on (opening k) h t (opening_waits k) (created_fits k range t) legal

pub fits_at_most : (f : ℤ) → FitsSigned w32 f → f ≤ℤ pos MOST_AMOUNT
fits_at_most f p = omega (arith, ints)

pub free_at_most : (k : Header) (h : List Entry) → IsInRange k → is_semaphore k.object ≡ true →
    IsLegal (opening k) h → free (opening k) h ≤ℤ pos MOST_AMOUNT
free_at_most k h range t legal = fits_at_most (free (opening k) h) (free_fits k h range t legal)

-- no seat holds more permits than its entries can have taken
few_taken : (s : Start) (e : Entry) (h : List Entry) → Moves s e h → FitsSigned w32 (free s h) → (x : ℕ) →
    holds_after s.header.object e.word e.n x ≤ x + MOST_AMOUNT
few_taken s e h (Takes shared there holds frees own) fits x =
    let l = ⊎_elim (few (free s h) e.n fits) (few_drained (free s h) e.n fits) there in
    omega (arith, l, holds x)
few_taken s e h (Gives shared below holds frees own) fits x = omega (arith, holds x)
few_taken s e h (Keeps holds frees own) fits x = omega (arith, holds x)

pub held_grows : (s : Start) (h : List Entry) → is_semaphore s.header.object ≡ true → Waits s [] →
    FitsSigned w32 (free s []) → IsLegal s h → (i : ℕ) (m : Mode) →
    held s h i m ≤ held s [] i m + MOST_AMOUNT * length h
held_grows s [] t v fits legal i m = omega arith
held_grows s (e ∷ h) t v fits legal i m =
    let few = few_taken s e h (moves s e h t (known s h legal.0.0 e legal.0.1) (waits_from s h v legal.1))
    (free_fits_on s h t v fits legal.1) (held s h i m) in
    grind (arith, few, held_grows s h t v fits legal.1 i m)

pub held_at_most : (k : Header) (h : List Entry) → IsInRange k → is_semaphore k.object ≡ true →
    IsLegal (opening k) h → (i : ℕ) (m : Mode) → held (opening k) h i m ≤ MOST_AMOUNT * length h
held_at_most k h range t legal i m =
    omega (arith, held_grows (opening k) h t (opening_waits k) (created_fits k range t) legal i m)

-- nobody holds permits exclusively, and the free ones are no fewer than none or than at the start
pub no_exclusive : (s : Start) (h : List Entry) → is_semaphore s.header.object ≡ true → Waits s [] →
    IsLegal s h → (i : ℕ) → held s h i X ≡ held s [] i X
no_exclusive s [] t v legal i = refl
no_exclusive s (e ∷ h) t v legal i =
    by (moves s e h t (known s h legal.0.0 e legal.0.1) (waits_from s h v legal.1))
    ∙ no_exclusive s h t v legal.1 i
  where
    shared : e.mode ≡ S → held s (e ∷ h) i X ≡ held s h i X
    shared q = grind (arith, q)

    by : Moves s e h → held s (e ∷ h) i X ≡ held s h i X
    by (Takes q there holds frees own) = shared q
    by (Gives q below holds frees own) = shared q
    by (Keeps holds frees own) = held_kept s e h i X holds

abbrev pub IsLow : ℤ → ℤ → Type 0
IsLow c f = (pos 0 ≤ℤ f) ⊎ (c ≤ℤ f)

low_taken : (c f : ℤ) (n : ℕ) → int_le (pos 0) (f -ℤ pos n) ≡ true → IsLow c (f -ℤ pos n)
low_taken c f n q = inl (omega (arith, ints))

raised : (c f : ℤ) (n : ℕ) → c ≤ℤ f → c ≤ℤ (f +ℤ pos n)
raised c f n p = omega (arith, ints)

low_returned : (c f : ℤ) (n : ℕ) → IsLow c f → IsLow c (f +ℤ pos n)
low_returned c f n low = ⊎_elim (λ p. inl (raised (pos 0) f n p)) (λ p. inr (raised c f n p)) low

low_drained : (c f : ℤ) (n : ℕ) → IsLow c f → n ≡ at_least_none f → IsLow c (f -ℤ pos n)
low_drained c f n low q =
    ⊎_elim
    (λ z. ⊎_elim (λ p. inl (omega (arith, ints, q, z, p))) (λ p. inr (omega (arith, ints, q, z, p))) low)
    (λ all. inl (omega (arith, ints, ap pos q ∙ all))) (drained_is f)

pub low_on : (s : Start) (c : ℤ) (h : List Entry) → is_semaphore s.header.object ≡ true → Waits s [] →
    IsLow c (free s []) → IsLegal s h → IsLow c (free s h)
low_on s c [] t v low legal = low
low_on s c (e ∷ h) t v low legal =
    by (moves s e h t (known s h legal.0.0 e legal.0.1) (waits_from s h v legal.1))
    (low_on s c h t v low legal.1)
  where
    by : Moves s e h → IsLow c (free s h) → IsLow c (free s (e ∷ h))
    by (Takes q there holds frees own) l = subst (IsLow c) (sym frees)
        (⊎_elim (low_taken c (free s h) e.n) (low_drained c (free s h) e.n l) there)
    by (Gives q below holds frees own) l = subst (IsLow c) (sym frees) (low_returned c (free s h) e.n l)
    by (Keeps holds frees own) l = subst (IsLow c) (sym frees) l

-- what is released unheld is no more than was asked for; only a semaphore counts it
few_beyond : (s : Start) (e : Entry) (h : List Entry) (had : ℕ) → Known s h e →
    beyond e.word e.n had ≤ MOST_AMOUNT
few_beyond s e h had k = by e.word k
  where
    by : (w : Word) → KnownBy s h e w → beyond w e.n had ≤ MOST_AMOUNT
    by word.Gave k = omega (arith, asked_few s.header.object e.n k.0.amount)
    by _ k = omega arith

pub unheld_grows : (s : Start) (h : List Entry) → IsLegal s h → unheld s h ≤ s.unheld + MOST_AMOUNT * length h
unheld_grows s [] legal = omega arith
unheld_grows s (e ∷ h) legal =
    let x = unheld_grows s h legal.1 in
    grind (arith, few_beyond s e h (held s h e.seat e.mode) (known s h legal.0.0 e legal.0.1))

pub unheld_none : (s : Start) (h : List Entry) → is_semaphore s.header.object ≡ false → unheld s h ≡ s.unheld
unheld_none s [] f = refl
unheld_none s (e ∷ h) f =
    grind (arith, f, unheld_none s h f)
