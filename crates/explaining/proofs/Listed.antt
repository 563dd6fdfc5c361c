-- Each step that makes an entry is among those that are tried for it.
use Rattle.std.proofs.Common.{◌≡◌, ◌⊎◌, inl, inr, ℕ, zero, suc, ◌<◌, ◌≤◌, Bool, true, false, not, ◌&&◌, ◌||◌, cond, eqb, eqb-true, leb, leb-false, ltb, arith, List, [], ◌∷◌, ◌++◌, Option, Some, None, Result, Ok, Err, refl, ap, ◌∙◌, sym, subst}
use Rattle.std.specs.List.{flat_map, list_any}
use Rattle.std.proofs.lemmas.Option.{same_Some}
use Rattle.explaining.specs.Below.{Entry, Mode, X, S, Fault, Header, Object, MOST_AMOUNT, Step, Acquire, Try, TryFair, EntryInterrupt, Give, Look, Expire, Interrupt, Await, Signal, SignalAll, Drain, is_bad_amount, is_bad_number, is_no_condition, is_semaphore, Phase, Idle, InLine, Sleeping, phase, suits, Start, entry_for, idle_entry, phase_entry}
use Rattle.history.specs.contracts.entry.EntryPartialEq.TheImpl as entries
use Rattle.history.proofs.Entering.{Admitted, admitted}
use Rattle.history.proofs.OneOwner.{cases_below}
use Rattle.audit.proofs.SameEntries.{itself, same_entries}
use Rattle.explaining.specs.declared.way.Way.{Way}
use Rattle.explaining.specs.Ways.{asked, calls_below, calls_in, calls_on, is_it, same_entry, steps_of, unasked, way_by, way_of, ways_of}

-- a step is in a list
abbrev pub In : Step → List Step → Type 0
In x [] = ⊥
In x (y ∷ ys) = (y ≡ x) ⊎ In x ys

in_left : (x : Step) (xs ys : List Step) → In x xs → In x (xs ++ ys)
in_left x [] ys p = absurd p
in_left x (y ∷ xs) ys (inl q) = inl q
in_left x (y ∷ xs) ys (inr p) = inr (in_left x xs ys p)

in_right : (x : Step) (xs ys : List Step) → In x ys → In x (xs ++ ys)
in_right x [] ys p = p
in_right x (y ∷ xs) ys p = inr (in_right x xs ys p)

-- the calls on a condition that the object has
below_by : (x : Step) (n c : ℕ) → c < suc n → In x (calls_on c) → (c < n → In x (calls_below n)) →
    (c < n) ⊎ (n ≤ c) → In x (calls_below (suc n))
below_by x n c lt p f (inl l) = in_left x (calls_below n) (calls_on n) (f l)
below_by x n c lt p f (inr l) =
    let same : c ≡ n = omega (arith, lt, l) in
    in_right x (calls_below n) (calls_on n) (subst (λ (d : ℕ). In x (calls_on d)) same p)

in_below : (x : Step) (n c : ℕ) → c < n → In x (calls_on c) → In x (calls_below n)
in_below x zero c lt p = absurd (omega (arith, lt))
in_below x (suc n) c lt p = below_by x n c lt p (λ l. in_below x n c l p) (cases_below c n)

-- all steps with an amount and below a number of conditions
abbrev listing : ℕ → ℕ → List Step
listing a conditions = ((calls_in X a ++ calls_in S a) ++ unasked) ++ calls_below conditions

asked_in : (m : Mode) (a c : ℕ) (x : Step) → In x (calls_in m a) → In x (listing a c)
asked_in X a c x p =
    in_left x ((calls_in X a ++ calls_in S a) ++ unasked) (calls_below c)
    (in_left x (calls_in X a ++ calls_in S a) unasked (in_left x (calls_in X a) (calls_in S a) p))
asked_in S a c x p =
    in_left x ((calls_in X a ++ calls_in S a) ++ unasked) (calls_below c)
    (in_left x (calls_in X a ++ calls_in S a) unasked (in_right x (calls_in X a) (calls_in S a) p))

unasked_in : (a c : ℕ) (x : Step) → In x unasked → In x (listing a c)
unasked_in a c x p =
    in_left x ((calls_in X a ++ calls_in S a) ++ unasked) (calls_below c)
    (in_right x (calls_in X a ++ calls_in S a) unasked p)

below_in : (a n c : ℕ) (x : Step) → c < n → In x (calls_on c) → In x (listing a n)
below_in a n c x lt p =
    in_right x ((calls_in X a ++ calls_in S a) ++ unasked) (calls_below n) (in_below x n c lt p)

-- a step that asks for an amount asks for this one
abbrev AsksFor : ℕ → Step → Type 0
AsksFor a (Acquire m n) = a ≡ n
AsksFor a (Try m n) = a ≡ n
AsksFor a (TryFair m n) = a ≡ n
AsksFor a (EntryInterrupt m n) = a ≡ n
AsksFor a (Give m n) = a ≡ n
AsksFor a _ = Unit {0}

-- a step on a condition is on one below this number
abbrev IsBelow : ℕ → Step → Type 0
IsBelow n (Await c) = c < n
IsBelow n (Signal c) = c < n
IsBelow n (SignalAll c) = c < n
IsBelow n _ = Unit {0}

listed : (a n : ℕ) (x : Step) → AsksFor a x → IsBelow n x → In x (listing a n)
listed a n (Acquire m k) q b = asked_in m a n (Acquire m k) (inl (ap (λ (i : ℕ). Acquire m i) q))
listed a n (Try m k) q b = asked_in m a n (Try m k) (inr (inl (ap (λ (i : ℕ). Try m i) q)))
listed a n (TryFair m k) q b = asked_in m a n (TryFair m k) (inr (inr (inl (ap (λ (i : ℕ). TryFair m i) q))))
listed a n (EntryInterrupt m k) q b =
    asked_in m a n (EntryInterrupt m k) (inr (inr (inr (inl (ap (λ (i : ℕ). EntryInterrupt m i) q)))))
listed a n (Give m k) q b =
    asked_in m a n (Give m k) (inr (inr (inr (inr (inl (ap (λ (i : ℕ). Give m i) q))))))
listed a n Look q b = unasked_in a n Look (inl refl)
listed a n Expire q b = unasked_in a n Expire (inr (inl refl))
listed a n Interrupt q b = unasked_in a n Interrupt (inr (inr (inl refl)))
listed a n Drain q b = unasked_in a n Drain (inr (inr (inr (inl refl))))
listed a n (Await c) q b = below_in a n c (Await c) b (inl refl)
listed a n (Signal c) q b = below_in a n c (Signal c) b (inr (inl refl))
listed a n (SignalAll c) q b = below_in a n c (SignalAll c) b (inr (inr (inl refl)))

-- an amount that the object has
asked_by : (b : Bool) (n m : ℕ) → n ≡ m → (ltb MOST_AMOUNT n || (not b && not (eqb n 1))) ≡ false →
    cond b m 1 ≡ n
asked_by true n m q ok = sym q
asked_by false n m q ok = sym (one n (ltb MOST_AMOUNT n) (eqb n 1) refl ok)
  where
    one : (n : ℕ) (big same : Bool) → eqb n 1 ≡ same → (big || not same) ≡ false → n ≡ 1
    one n true same q ok = absurd (cc)
    one n false true q ok = eqb-true n 1 q
    one n false false q ok = absurd (cc)

amount_of : (o : Object) (i : ℕ) (x e : Entry) → x ≡ e → is_bad_number o x.n ≡ false → asked o e.n ≡ x.n
amount_of o i x e same ok = asked_by (is_semaphore o) x.n e.n (ap (λ (y : Entry). y.n) same) ok

asks_for : (s : Start) (h : List Entry) (i : ℕ) (step : Step) (e : Entry) (p : Phase) →
    is_bad_amount s.header.object step ≡ false → suits p step ≡ true → phase_entry s h i step p ≡ Some e →
    AsksFor (asked s.header.object e.n) step
asks_for s h i (Acquire m n) e Idle ok suit made =
    amount_of s.header.object i (idle_entry s h i (Acquire m n)) e (same_Some _ e made) ok
asks_for s h i (Acquire m n) e _ ok suit made = absurd (cc)
asks_for s h i (Try m n) e Idle ok suit made =
    amount_of s.header.object i (idle_entry s h i (Try m n)) e (same_Some _ e made) ok
asks_for s h i (Try m n) e _ ok suit made = absurd (cc)
asks_for s h i (TryFair m n) e Idle ok suit made =
    amount_of s.header.object i (idle_entry s h i (TryFair m n)) e (same_Some _ e made) ok
asks_for s h i (TryFair m n) e _ ok suit made = absurd (cc)
asks_for s h i (EntryInterrupt m n) e Idle ok suit made =
    amount_of s.header.object i (idle_entry s h i (EntryInterrupt m n)) e (same_Some _ e made) ok
asks_for s h i (EntryInterrupt m n) e _ ok suit made = absurd (cc)
asks_for s h i (Give m n) e Idle ok suit made =
    amount_of s.header.object i (idle_entry s h i (Give m n)) e (same_Some _ e made) ok
asks_for s h i (Give m n) e _ ok suit made = absurd (cc)
asks_for s h i Look e p ok suit made = tt
asks_for s h i Expire e p ok suit made = tt
asks_for s h i Interrupt e p ok suit made = tt
asks_for s h i Drain e p ok suit made = tt
asks_for s h i (Await c) e p ok suit made = tt
asks_for s h i (Signal c) e p ok suit made = tt
asks_for s h i (SignalAll c) e p ok suit made = tt

is_below : (k : Header) (step : Step) → is_no_condition k step ≡ false → IsBelow k.conditions step
is_below k (Await c) q = let l = leb-false k.conditions c q in omega (arith, l)
is_below k (Signal c) q = let l = leb-false k.conditions c q in omega (arith, l)
is_below k (SignalAll c) q = let l = leb-false k.conditions c q in omega (arith, l)
is_below k (Acquire m n) q = tt
is_below k (Try m n) q = tt
is_below k (TryFair m n) q = tt
is_below k (EntryInterrupt m n) q = tt
is_below k (Give m n) q = tt
is_below k Look q = tt
is_below k Expire q = tt
is_below k Interrupt q = tt
is_below k Drain q = tt

-- a step that makes an entry is tried
pub is_tried : (s : Start) (h : List Entry) (e : Entry) (step : Step) →
    entry_for s h e.seat step ≡ Ok (Some e) → In step (steps_of s.header e.n)
is_tried s h e step q =
    let a = admitted s h e.seat step e q in
    listed (asked s.header.object e.n) s.header.conditions step
    (asks_for s h e.seat step e (phase s h e.seat) a.amount a.in_phase a.made)
    (is_below s.header step a.condition)

-- whether some way makes the entry
abbrev pub any_is_it : List Way → Bool
any_is_it ways = list_any (λ w. w.is_it) ways

or_more : (a b c : Bool) → (b ≡ true → c ≡ true) → (a || b) ≡ true → (a || c) ≡ true
or_more true b c f t = refl
or_more false b c f t = f t

or_right : (a b : Bool) → b ≡ true → (a || b) ≡ true
or_right true b t = refl
or_right false b t = t

or_cases : (a b : Bool) → (a || b) ≡ true → (a ≡ true) ⊎ (b ≡ true)
or_cases true b t = inl refl
or_cases false b t = inr t

any_left : (xs ys : List Way) → any_is_it xs ≡ true → any_is_it (xs ++ ys) ≡ true
any_left [] ys t = absurd (cc)
any_left (x ∷ xs) ys t = or_more x.is_it (any_is_it xs) (any_is_it (xs ++ ys)) (any_left xs ys) t

any_right : (xs ys : List Way) → any_is_it ys ≡ true → any_is_it (xs ++ ys) ≡ true
any_right [] ys t = t
any_right (x ∷ xs) ys t = or_right x.is_it (any_is_it (xs ++ ys)) (any_right xs ys t)

split_by : (x : Way) (xs ys : List Way) →
    (any_is_it (xs ++ ys) ≡ true → (any_is_it xs ≡ true) ⊎ (any_is_it ys ≡ true)) →
    (x.is_it ≡ true) ⊎ (any_is_it (xs ++ ys) ≡ true) →
    (any_is_it (x ∷ xs) ≡ true) ⊎ (any_is_it ys ≡ true)
split_by x xs ys f (inl q) = inl (ap (λ (b : Bool). b || any_is_it xs) q)
split_by x xs ys f (inr q) = further (f q)
  where
    further : (any_is_it xs ≡ true) ⊎ (any_is_it ys ≡ true) →
        (any_is_it (x ∷ xs) ≡ true) ⊎ (any_is_it ys ≡ true)
    further (inl r) = inl (or_right x.is_it (any_is_it xs) r)
    further (inr r) = inr r

any_split : (xs ys : List Way) → any_is_it (xs ++ ys) ≡ true →
    (any_is_it xs ≡ true) ⊎ (any_is_it ys ≡ true)
any_split [] ys t = inr t
any_split (x ∷ xs) ys t =
    split_by x xs ys (any_split xs ys) (or_cases x.is_it (any_is_it (xs ++ ys)) t)

-- `==` and being the same
pub same_is : (one other : Entry) → same_entry one other ≡ true → one ≡ other
same_is one other t = same_entries one other t

pub is_same : (one other : Entry) → one ≡ other → same_entry one other ≡ true
is_same one other q = ap (entries.ghosts.eq one) (sym q) ∙ itself one

-- a way that makes the entry
way_makes : (s : Start) (h : List Entry) (e : Entry) (step : Step) (r : Result (Option Entry) Fault) →
    any_is_it (way_by s h e step r) ≡ true → r ≡ Ok (Some e)
way_makes s h e step (Err fault) t = absurd (cc)
way_makes s h e step (Ok None) t = absurd (cc)
way_makes s h e step (Ok (Some x)) t =
    let R : Entry → Result (Option Entry) Fault = λ y. Ok (Some y) in
    ap R (same_is x e (by (or_cases (same_entry x e) false t)))
  where
    by : (same_entry x e ≡ true) ⊎ (false ≡ true) → same_entry x e ≡ true
    by (inl q) = q
    by (inr q) = absurd (cc)

made_by : (s : Start) (h : List Entry) (e : Entry) (x : Step) (steps : List Step) →
    (any_is_it (flat_map (way_of s h e) steps) ≡ true →
    (step : Step) × (entry_for s h e.seat step ≡ Ok (Some e))) →
    (any_is_it (way_of s h e x) ≡ true) ⊎ (any_is_it (flat_map (way_of s h e) steps) ≡ true) →
    (step : Step) × (entry_for s h e.seat step ≡ Ok (Some e))
made_by s h e x steps f (inl q) = (x, way_makes s h e x (entry_for s h e.seat x) q)
made_by s h e x steps f (inr q) = f q

pub any_made : (s : Start) (h : List Entry) (e : Entry) (steps : List Step) →
    any_is_it (flat_map (way_of s h e) steps) ≡ true →
    (step : Step) × (entry_for s h e.seat step ≡ Ok (Some e))
any_made s h e [] t = absurd (cc)
any_made s h e (x ∷ steps) t =
    made_by s h e x steps (any_made s h e steps)
    (any_split (way_of s h e x) (flat_map (way_of s h e) steps) t)

-- the way of a step that makes the entry
makes_way : (s : Start) (h : List Entry) (e : Entry) (step : Step) →
    entry_for s h e.seat step ≡ Ok (Some e) → any_is_it (way_of s h e step) ≡ true
makes_way s h e step q =
    ap (λ (r : Result (Option Entry) Fault). any_is_it (way_by s h e step r)) q
    ∙ ap (λ (b : Bool). b || false) (is_same e e refl)

pub made_any : (s : Start) (h : List Entry) (e : Entry) (steps : List Step) (step : Step) → In step steps →
    entry_for s h e.seat step ≡ Ok (Some e) → any_is_it (flat_map (way_of s h e) steps) ≡ true
made_any s h e [] step p q = absurd p
made_any s h e (x ∷ steps) step (inl same) q =
    any_left (way_of s h e x) (flat_map (way_of s h e) steps)
    (subst (λ (y : Step). any_is_it (way_of s h e y) ≡ true) (sym same) (makes_way s h e step q))
made_any s h e (x ∷ steps) step (inr p) q =
    any_right (way_of s h e x) (flat_map (way_of s h e) steps) (made_any s h e steps step p q)
