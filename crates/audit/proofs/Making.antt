-- If any step of its seat makes an entry, one of its candidates does.
use Rattle.std.proofs.Common.{◌≡◌, ◌⊎◌, inl, inr, ⊎_elim, ℕ, Bool, true, false, not, cond, leb, leb-false, ltb, arith, List, length, Option, Some, None, Result, Ok, refl, ap, ◌∙◌, sym, subst, pos, ◌+ℤ◌, int_lt}
use Rattle.std.proofs.lemmas.Bool.{lt-leb}
use Rattle.std.proofs.lemmas.Option.{same_Some}
use Rattle.audit.specs.declared.candidates.Candidates.{Candidates}
use Rattle.audit.specs.Ledger.{IsNext}
use Rattle.audit.specs.Below.{Arrival, Entry, Mode, X, S, Word, Fault, Object, Lock, ReadWrite, Semaphore, Latch, Step, Acquire, Try, TryFair, EntryInterrupt, Give, Look, Expire, Interrupt, Await, Signal, SignalAll, Drain, is_seat, limit, held_back, could, try_held_back, Counts, counts, owner, MOST_AMOUNT, is_wrong_mode, is_no_condition, first_mode, ready, is_lock, Phase, Idle, InLine, Sleeping, phase, suits, sleepers, Start, plain, gave, awaits, at_most_one, idle_entry, back, lapse, ended, queued_entry, line_entry, sleeping_entry, phase_entry, entry_for}
use Rattle.history.specs.declared.entry.End.TheVariants as end
use Rattle.history.specs.declared.entry.Word.TheVariants as word
use Rattle.history.specs.declared.fault.Fault.TheVariants as fault
use Rattle.history.proofs.Entering.{Admitted}
use Rattle.history.proofs.Entering as entering
use Rattle.audit.specs.inner.Candidates.{candidates}
use Rattle.deciding.proofs.InPhase.{entry_admitted, in_phase_made}

abbrev IsCandidate : Entry → Step → Type 0
IsCandidate e step =
    ((candidates e).first ≡ step) ⊎ (((candidates e).second ≡ step) ⊎ ((candidates e).third ≡ step))

-- A candidate that makes an entry.
pub record Found (s : Start) (h : List Entry) (i : ℕ) (e : Entry) : Type 0 where
  pub step : Step
  pub candidate : IsCandidate e step
  pub makes : entry_for s h i step ≡ Ok (Some e)

made_same : (x e : Entry) → x ≡ e → ◌≡◌ {A = Result (Option Entry) Fault} (Ok (Some x)) (Ok (Some e))
made_same x e q = let made : Entry → Result (Option Entry) Fault = λ y. Ok (Some y) in ap made q

-- the step itself, where it is one of the candidates
found_itself : (s : Start) (h : List Entry) (i : ℕ) (step : Step) (x e : Entry) → IsCandidate x step → x ≡ e →
    entry_for s h i step ≡ Ok (Some e) → Found s h i e
found_itself s h i step x e candidate same q =
    let C : Entry → Type 0 = λ y. IsCandidate y step in
    record { step = step; candidate = subst C same candidate; makes = q }

-- What an idle seat's steps make, by their tests.
acquired_by : (b l c : Bool) (i : ℕ) (m : Mode) (n : ℕ) →
    IsCandidate (plain i
    (cond b word.Queued (cond l (word.Refused fault.TooManyHolds) (cond c word.Got word.Queued))) m n)
    (Acquire m n)
acquired_by true l c i m n = inl refl
acquired_by false true c i m n = inl refl
acquired_by false false true i m n = inl refl
acquired_by false false false i m n = inl refl

tried_by : (b l c : Bool) (i : ℕ) (m : Mode) (n : ℕ) →
    IsCandidate (plain i
    (cond b word.Missed (cond l (word.Refused fault.TooManyHolds) (cond c word.TryGot word.Missed))) m n)
    (Try m n)
tried_by true l c i m n = inl refl
tried_by false true c i m n = inr (inl refl)
tried_by false false true i m n = inl refl
tried_by false false false i m n = inl refl

tried_fairly_by : (b l c : Bool) (i : ℕ) (m : Mode) (n : ℕ) →
    IsCandidate (plain i
    (cond b word.Missed (cond l (word.Refused fault.TooManyHolds) (cond c word.Got word.Missed))) m n)
    (TryFair m n)
tried_fairly_by true l c i m n = inr (inl refl)
tried_fairly_by false true c i m n = inr (inr refl)
tried_fairly_by false false true i m n = inr (inl refl)
tried_fairly_by false false false i m n = inr (inl refl)

gave_hold : (b : Bool) (i : ℕ) (m : Mode) (n : ℕ) →
    IsCandidate (plain i (cond b word.Gave (word.Refused fault.NotOwner)) m n) (Give m n)
gave_hold true i m n = inl refl
gave_hold false i m n = inl refl

gave_permits : (b : Bool) (i : ℕ) (m : Mode) (n : ℕ) →
    IsCandidate (plain i (cond b (word.Refused fault.TooManyPermits) word.Gave) m n) (Give m n)
gave_permits true i m n = inl refl
gave_permits false i m n = inl refl

gave_by : (o : Object) (k : Counts) (i : ℕ) (m : Mode) (n : ℕ) →
    IsCandidate (plain i (gave o k i m n) m n) (Give m n)
gave_by (Lock p) k i m n = gave_hold (ltb 0 (k.held i m)) i m n
gave_by (ReadWrite p) k i m n = gave_hold (ltb 0 (k.held i m)) i m n
gave_by (Semaphore p c) k i m n = gave_permits (int_lt (pos MOST_AMOUNT) (k.free +ℤ pos n)) i m n
gave_by (Latch c) k i m n = inl refl

-- A call on a condition, by whether its seat isn't the owner and whether it reads.
abbrev on_condition : Word → ℕ → ℕ → ℕ → Entry
on_condition w i n c = record { seat = i; word = w; mode = X; n = n; at = c; end = end.None }

abbrev not_owner : ℕ → Entry
not_owner i = plain i (word.Refused fault.NotOwner) X 1

abbrev await_by : Bool → Bool → ℕ → ℕ → ℕ → Entry
await_by b d i n c =
    cond b (not_owner i) (cond d (plain i (word.Refused fault.HoldsRead) X 1) (on_condition word.Await i n c))

awaited_by : (b d : Bool) (i n c : ℕ) → IsCandidate (await_by b d i n c) (Await c)
    ⊎ (IsCandidate (await_by b d i n c) (Await 0) × (await_by b d i n 0 ≡ await_by b d i n c))
awaited_by true d i n c = inr (inr (inl refl), refl)
awaited_by false true i n c = inr (inl refl, refl)
awaited_by false false i n c = inl (inl refl)

signalled_by : (b d : Bool) (i n held c : ℕ) →
    IsCandidate (cond b (not_owner i) (on_condition word.Signal i n c)) (Signal c)
    ⊎ (IsCandidate (cond b (not_owner i) (on_condition word.Signal i n c)) (Await 0)
    × (await_by b d i held 0 ≡ cond b (not_owner i) (on_condition word.Signal i n c)))
signalled_by true d i n held c = inr (inr (inl refl), refl)
signalled_by false d i n held c = inl (inl refl)

all_signalled_by : (b d : Bool) (i n held c : ℕ) →
    IsCandidate (cond b (not_owner i) (on_condition word.SignalAll i n c)) (SignalAll c)
    ⊎ (IsCandidate (cond b (not_owner i) (on_condition word.SignalAll i n c)) (Await 0)
    × (await_by b d i held 0 ≡ cond b (not_owner i) (on_condition word.SignalAll i n c)))
all_signalled_by true d i n held c = inr (inr (inl refl), refl)
all_signalled_by false d i n held c = inl (inl refl)

-- an object with a condition has condition 0
has_first : (k c : ℕ) → leb k c ≡ false → leb k 0 ≡ false
has_first k c q = lt-leb k 0 (let more = leb-false k c q in omega (arith, more))

await_admitted : (a b : Bool) → not a ≡ false → b ≡ false →
    cond (not a) (Some fault.WrongMode) (cond b (Some fault.NoSuchCondition) None) ≡ None
await_admitted true false p q = refl
await_admitted true true p q = absurd (cc)
await_admitted false b p q = absurd (cc)

-- what an await of condition 0 makes
first_await : (s : Start) (h : List Entry) (i c : ℕ) → phase s h i ≡ Idle →
    not (is_lock s.header.object) ≡ false →
    leb s.header.conditions c ≡ false → entry_for s h i (Await 0) ≡ Ok (Some (awaits (counts s h) i 0))
first_await s h i c idle lock condition =
    entry_admitted s h i (Await 0)
    (await_admitted (is_lock s.header.object) (leb s.header.conditions 0) lock
    (has_first s.header.conditions c condition))
    ∙ sym (in_phase_made s h i (Await 0) Idle (Some (awaits (counts s h) i 0)) idle refl refl)

-- a call on a condition, or the await of condition 0 that is refused as it is
found_await : (s : Start) (h : List Entry) (i c : ℕ) (step : Step) (x e : Entry) → phase s h i ≡ Idle →
    not (is_lock s.header.object) ≡ false → leb s.header.conditions c ≡ false → x ≡ e →
    entry_for s h i step ≡ Ok (Some e) →
    IsCandidate x step ⊎ (IsCandidate x (Await 0) × (awaits (counts s h) i 0 ≡ x)) → Found s h i e
found_await s h i c step x e idle lock condition same q (inl candidate) =
    found_itself s h i step x e candidate same q
found_await s h i c step x e idle lock condition same q (inr r) =
    found_itself s h i (Await 0) x e r.0 same
    (first_await s h i c idle lock condition ∙ made_same _ e (r.1 ∙ same))

idle_found : (s : Start) (h : List Entry) (i : ℕ) (step : Step) (e : Entry) → phase s h i ≡ Idle →
    is_wrong_mode s.header.object step ≡ false → is_no_condition s.header step ≡ false →
    suits Idle step ≡ true →
    idle_entry s h i step ≡ e → entry_for s h i step ≡ Ok (Some e) → Found s h i e
idle_found s h i (Acquire m n) e idle mode condition suit same q =
    let k = counts s h in
    found_itself s h i (Acquire m n) _ e
    (acquired_by (held_back k (first_mode s h) i m) (limit k i m) (could k i m n) i m n) same q
idle_found s h i (Try m n) e idle mode condition suit same q =
    let k = counts s h in
    found_itself s h i (Try m n) _ e
    (tried_by (try_held_back k (first_mode s h) i m) (limit k i m) (could k i m n) i m n) same q
idle_found s h i (TryFair m n) e idle mode condition suit same q =
    let k = counts s h in
    found_itself s h i (TryFair m n) _ e
    (tried_fairly_by (held_back k (first_mode s h) i m) (limit k i m) (could k i m n) i m n) same q
idle_found s h i (EntryInterrupt m n) e idle mode condition suit same q =
    found_itself s h i (EntryInterrupt m n) _ e (inl refl) same q
idle_found s h i (Give m n) e idle mode condition suit same q =
    found_itself s h i (Give m n) _ e (gave_by s.header.object (counts s h) i m n) same q
idle_found s h i (Await c) e idle mode condition suit same q =
    let k = counts s h in
    found_await s h i c (Await c) _ e idle mode condition same q
    (awaited_by (not (is_seat (owner k) i)) (ltb 0 (k.held i S)) i (k.held i X) c)
idle_found s h i (Signal c) e idle mode condition suit same q =
    let k = counts s h in
    found_await s h i c (Signal c) _ e idle mode condition same q
    (signalled_by (not (is_seat (owner k) i)) (ltb 0 (k.held i S)) i (at_most_one (length (sleepers s h c)))
    (k.held i X) c)
idle_found s h i (SignalAll c) e idle mode condition suit same q =
    let k = counts s h in
    found_await s h i c (SignalAll c) _ e idle mode condition same q
    (all_signalled_by (not (is_seat (owner k) i)) (ltb 0 (k.held i S)) i (length (sleepers s h c))
    (k.held i X) c)
idle_found s h i Drain e idle mode condition suit same q = found_itself s h i Drain _ e (inl refl) same q
idle_found s h i Look e idle mode condition suit same q = absurd (cc)
idle_found s h i Expire e idle mode condition suit same q = absurd (cc)
idle_found s h i Interrupt e idle mode condition suit same q = absurd (cc)

-- what a look of one in line makes
look_made : (s : Start) (h : List Entry) (i : ℕ) (a : Arrival) (comes goes : Bool) → phase s h i ≡ InLine a →
    a.back ≡ comes → is_seat (ready s h) i ≡ goes →
    entry_for s h i Look ≡ Ok (cond comes (cond goes (Some (back s h i)) None) (queued_entry goes i a Look))
look_made s h i a comes goes is b g =
    let seen : Bool → Bool → Result (Option Entry) Fault =
    λ x y. Ok (cond x (cond y (Some (back s h i)) None) (queued_entry y i a Look)) in
    entry_admitted s h i Look refl
    ∙ sym (in_phase_made s h i Look (InLine a) (line_entry s h (is_seat (ready s h) i) i a Look) is refl refl)
    ∙ ap (λ x. seen x (is_seat (ready s h) i)) b ∙ ap (seen comes) g

line_found : (s : Start) (h : List Entry) (i : ℕ) (step : Step) (e : Entry) (a : Arrival)
    (comes goes : Bool) →
    phase s h i ≡ InLine a → a.back ≡ comes → is_seat (ready s h) i ≡ goes →
    cond comes (cond goes (Some (back s h i)) None) (queued_entry goes i a step) ≡ Some e →
    entry_for s h i step ≡ Ok (Some e) → Found s h i e
line_found s h i step e a true true is b g made q =
    let same = same_Some (back s h i) e made in
    found_itself s h i Look _ e (inl refl) same (look_made s h i a true true is b g ∙ made_same _ e same)
line_found s h i step e a true false is b g made q = absurd (cc)
line_found s h i Look e a false true is b g made q =
    found_itself s h i Look _ e (inl refl) (same_Some _ e made) q
line_found s h i Look e a false false is b g made q = absurd (cc)
line_found s h i Expire e a false true is b g made q =
    let same = same_Some (ended i word.Granted a end.None) e made in
    found_itself s h i Look _ e (inl refl) same (look_made s h i a false true is b g ∙ made_same _ e same)
line_found s h i Expire e a false false is b g made q =
    found_itself s h i Expire _ e (inl refl) (same_Some (ended i word.Left a end.Timeout) e made) q
line_found s h i Interrupt e a false true is b g made q =
    found_itself s h i Interrupt _ e (inr (inl refl)) (same_Some (ended i word.Left a end.Interrupt) e made) q
line_found s h i Interrupt e a false false is b g made q =
    found_itself s h i Interrupt _ e (inr (inl refl)) (same_Some (ended i word.Left a end.Interrupt) e made) q
line_found s h i _ e a false true is b g made q = absurd (cc)
line_found s h i _ e a false false is b g made q = absurd (cc)

sleeping_found : (s : Start) (h : List Entry) (i : ℕ) (step : Step) (e : Entry) →
    sleeping_entry s h i step ≡ Some e → entry_for s h i step ≡ Ok (Some e) → Found s h i e
sleeping_found s h i Expire e made q =
    found_itself s h i Expire _ e (inl refl) (same_Some (lapse s h i end.Timeout) e made) q
sleeping_found s h i Interrupt e made q =
    found_itself s h i Interrupt _ e (inr (inl refl)) (same_Some (lapse s h i end.Interrupt) e made) q
sleeping_found s h i _ e made q = absurd (cc)

phase_found : (s : Start) (h : List Entry) (i : ℕ) (step : Step) (e : Entry) (p : Phase) → phase s h i ≡ p →
    Admitted s h i step e → suits p step ≡ true → phase_entry s h i step p ≡ Some e →
    entry_for s h i step ≡ Ok (Some e) → Found s h i e
phase_found s h i step e Idle is a suit made q =
    idle_found s h i step e is a.mode a.condition suit (same_Some _ e made) q
phase_found s h i step e (InLine a) is v suit made q =
    line_found s h i step e a a.back (is_seat (ready s h) i) is refl refl made q
phase_found s h i step e Sleeping is a suit made q = sleeping_found s h i step e made q

pub found : (s : Start) (h : List Entry) (i : ℕ) (step : Step) (e : Entry) →
    entry_for s h i step ≡ Ok (Some e) → Found s h i e
found s h i step e q =
    let a = entering.admitted s h i step e q in
    phase_found s h i step e (phase s h i) refl a a.in_phase a.made q

-- an entry that some step makes is made by the third candidate, where it isn't by the others
pub some_candidate : (s : Start) (h : List Entry) (e : Entry) (k : Candidates) (x y z : Bool) →
    k ≡ candidates e →
    x ≡ false → y ≡ false → (entry_for s h e.seat k.first ≡ Ok (Some e) → x ≡ true) →
    (entry_for s h e.seat k.second ≡ Ok (Some e) → y ≡ true) →
    (entry_for s h e.seat k.third ≡ Ok (Some e) → z ≡ true) → IsNext s h e → z ≡ true
some_candidate s h e k x y z is p q first second third next =
    let f = found s h e.seat next.0 e next.1 in
    let Is : Candidates → Type 0 = λ j. (j.first ≡ f.step) ⊎ ((j.second ≡ f.step) ⊎ (j.third ≡ f.step)) in
    let M : Step → Type 0 = λ step. entry_for s h e.seat step ≡ Ok (Some e) in
    ⊎_elim (λ a. refuted x z p (first (subst M (sym a) f.makes)))
    (⊎_elim (λ a. refuted y z q (second (subst M (sym a) f.makes))) (λ a. third (subst M (sym a) f.makes)))
    (subst Is (sym is) f.candidate)
  where
    refuted : (x z : Bool) → x ≡ false → x ≡ true → z ≡ true
    refuted true z p t = absurd (cc)
    refuted false z p t = absurd (cc)
