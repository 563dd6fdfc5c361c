-- How the room that stays reserved changes at one entry.
use Rattle.std.proofs.Common.{◌≡◌, ◌≢◌, ℕ, zero, suc, ◌+◌, ◌-◌, ◌<◌, ◌≤◌, Bool, true, false, not, ◌&&◌, cond, eqb, List, [], ◌∷◌, ◌++◌, length, map, take, Some, refl, ap, ◌∙◌, sym, subst, arith, eq-eqb, ne_eqb, append-nil}
use Rattle.std.proofs.Math.Nat.{add-zero}
use Rattle.std.specs.List.{filter}
use Rattle.std.proofs.lemmas.Bool.Decides.{nat_tests}
use Rattle.history.specs.Prelude.{Arrival, Entry, Mode, X, S, Word, Header, Object, Counts, counts, held, holds_after, total, ends_arrival, line, arrivals_by, coming_back, place_of, is_lock, is_semaphore, in_holds, Sleeping, phase, released_by, releases, reserved_by, reserves, sum_of, holds_owe, arrival_owes, sleeper_owes, sleepers_owe, owed, sleepers, sleepers_after, sleep_after, last_sleep, sleeps_below, has, IsLegal, AreSeated, Start, Sleep, opening, times, seats_of, IsOneWait, gave, at_most_one, back, lapse}
use Rattle.history.specs.declared.entry.Word.TheVariants as word
use Rattle.history.proofs.Changes.{all_stay}
use Rattle.history.proofs.Entering.{Known, KnownBy, OnCondition, LeavesLine, known}
use Rattle.history.proofs.LineLemmas.{line_after, stays, no_arrival}
use Rattle.history.proofs.ListSums.{sum_of_append, sum_of_same, sum_of_more, sum_of_map, sum_of_split, sum_of_without, sum_of_line_without, sum_of_others, sum_of_line_others}
use Rattle.history.proofs.OneWait.{Waits, SavedIfBack, placed, waits}
use Rattle.history.proofs.SleepLemmas.{awake_nowhere, idle_parts, last_sleep_other, leaves_sleepers, sleepers_same, sleeping_parts, sleeps_at, times-waiting}
use Rattle.history.proofs.Times.{never_has, place_once, total_part}
use Rattle.history.proofs.Sums.{total_same, total_change, total_change_below}

-- a seat is in line or on a condition once, and where it doesn't sleep on none
in_line_once : (s : Start) (h : List Entry) → IsOneWait s h → (i : ℕ) → times i (seats_of (line s h)) ≤ 1
in_line_once s h once i = omega (arith, times-waiting s h i, once i)

asleep_once : (s : Start) (h : List Entry) → IsOneWait s h → (i c : ℕ) → c < s.header.conditions →
    times i (sleepers s h c) ≤ 1
asleep_once s h once i c l =
    let part = total_part s.header.conditions (λ d. times i (sleepers s h d)) c l in
    omega (arith, part, times-waiting s h i, once i)

sleeps_not : (s : Start) (h : List Entry) (i c : ℕ) → sleeps_below s.header.conditions s h i ≡ false →
    c < s.header.conditions → has i (sleepers s h c) ≡ false
sleeps_not s h i c t l =
    let p = total_part s.header.conditions (λ d. times i (sleepers s h d)) c l in
    never_has i (sleepers s h c) (omega (arith, p, awake_nowhere s.header.conditions s h i t))

-- the holds
abbrev if_lock : Object → ℕ → ℕ
if_lock o n = cond (is_lock o) n 0

-- an entry changes the holds of its own seat, in its own mode
own_holds : (s : Start) (e : Entry) (h : List Entry) → held s (e ∷ h) e.seat X + held s (e ∷ h) e.seat S
    + held s h e.seat e.mode ≡ held s h e.seat X + held s h e.seat S
    + holds_after s.header.object e.word e.n (held s h e.seat e.mode)
own_holds s e h = grind (arith, nat_tests)

other_holds : (s : Start) (e : Entry) (h : List Entry) (i : ℕ) → i ≢ e.seat →
    held s (e ∷ h) i X + held s (e ∷ h) i S ≡ held s h i X + held s h i S
other_holds s e h i ne = rw (ne_eqb e.seat i (λ q. ne (sym q))) refl

holds_change : (s : Start) (e : Entry) (h : List Entry) → e.seat < s.header.seats →
    holds_owe s (e ∷ h) + if_lock s.header.object (held s h e.seat e.mode)
    ≡ holds_owe s h
    + if_lock s.header.object (holds_after s.header.object e.word e.n (held s h e.seat e.mode))
holds_change s e h seat =
    let change = total_change s.header.seats (λ i. held s (e ∷ h) i X + held s (e ∷ h) i S)
    (λ i. held s h i X + held s h i S) e.seat seat (other_holds s e h) in
    grind (arith, change, own_holds s e h)

-- the last sleep, whose holds only an await changes
abbrev falls_asleep : Word → Bool
falls_asleep word.Await = true
falls_asleep _ = false

sleep_kept : (s : Start) (e : Entry) (h : List Entry) (i : ℕ) → falls_asleep e.word ≡ false →
    (last_sleep s (e ∷ h) i).holds ≡ (last_sleep s h i).holds
sleep_kept s e h i t = grind (arith, t)

-- what an arrival and a sleeper owe, by the holds that were given up
arrival_owes_as : (s : Start) (h g : List Entry) (a : Arrival) →
    (last_sleep s g a.seat).holds ≡ (last_sleep s h a.seat).holds → arrival_owes s g a ≡ arrival_owes s h a
arrival_owes_as s h g a e = ap (λ n. cond a.back (n + 1) (cond (is_lock s.header.object) 2 1)) e

sleeper_owes_as : (s : Start) (h g : List Entry) (i : ℕ) → (last_sleep s g i).holds
    ≡ (last_sleep s h i).holds → sleeper_owes s g i ≡ sleeper_owes s h i
sleeper_owes_as s h g i e = ap (λ n. n + 2) e

-- the line
abbrev line_owes : Start → List Entry → ℕ
line_owes s h = sum_of (arrival_owes s h) (line s h)

line_change : (s : Start) (e : Entry) (h : List Entry) (w : Word) → e.word ≡ w → falls_asleep w ≡ false →
    line_owes s (e ∷ h) ≡ sum_of (arrival_owes s h) (filter (stays w e.seat) (line s h))
    + sum_of (arrival_owes s h) (arrivals_by s w e h)
line_change s e h w p t =
    sum_of_same (arrival_owes s (e ∷ h)) (arrival_owes s h) (line s (e ∷ h))
    (λ a. arrival_owes_as s h (e ∷ h) a (sleep_kept s e h a.seat (ap falls_asleep p ∙ t)))
    ∙ ap (sum_of (arrival_owes s h)) (line_after s e h)
    ∙ sum_of_append (arrival_owes s h) (filter (stays e.word e.seat) (line s h)) (arrivals_by s e.word e h)
    ∙ ap (λ x. sum_of (arrival_owes s h) (filter (stays x e.seat) (line s h))
    + sum_of (arrival_owes s h) (arrivals_by s x e h)) p

-- the sleepers
abbrev asleep_owe : Start → List Entry → ℕ → ℕ
asleep_owe s h c = sum_of (sleeper_owes s h) (sleepers s h c)

sleepers_total : (n : ℕ) (s : Start) (h : List Entry) → sleepers_owe n s h ≡ total n (asleep_owe s h)
sleepers_total zero s h = refl
sleepers_total (suc n) s h = ap (λ x. x + asleep_owe s h n) (sleepers_total n s h)

-- what the sleepers of an entry's condition owe after it
abbrev asleep_after : Start → Entry → List Entry → Word → ℕ
asleep_after s e h w = sum_of (sleeper_owes s h) (sleepers_after w e.seat e.n (sleepers s h e.at))

asleep_at : (s : Start) (e : Entry) (h : List Entry) → falls_asleep e.word ≡ false →
    asleep_owe s (e ∷ h) e.at ≡ asleep_after s e h e.word
asleep_at s e h t =
    sum_of_same (sleeper_owes s (e ∷ h)) (sleeper_owes s h) (sleepers s (e ∷ h) e.at)
    (λ i. sleeper_owes_as s h (e ∷ h) i (sleep_kept s e h i t))
    ∙ rw (eq-eqb e.at e.at refl) refl

asleep_elsewhere : (s : Start) (e : Entry) (h : List Entry) (c : ℕ) → falls_asleep e.word ≡ false →
    c ≢ e.at → asleep_owe s (e ∷ h) c ≡ asleep_owe s h c
asleep_elsewhere s e h c t ne =
    sum_of_same (sleeper_owes s (e ∷ h)) (sleeper_owes s h) (sleepers s (e ∷ h) c)
    (λ i. sleeper_owes_as s h (e ∷ h) i (sleep_kept s e h i t))
    ∙ rw (ne_eqb e.at c (λ q. ne (sym q))) refl

sleepers_change : (s : Start) (e : Entry) (h : List Entry) (w : Word) → e.word ≡ w →
    falls_asleep w ≡ false → e.at < s.header.conditions → sleepers_owe s.header.conditions s (e ∷ h)
    + asleep_owe s h e.at ≡ sleepers_owe s.header.conditions s h + asleep_after s e h w
sleepers_change s e h w p t l =
    let t' : falls_asleep e.word ≡ false = ap falls_asleep p ∙ t in
    let change = total_change s.header.conditions (asleep_owe s (e ∷ h)) (asleep_owe s h) e.at l
    (λ c ne. asleep_elsewhere s e h c t' ne) in
    let now = sleepers_total s.header.conditions s (e ∷ h) in
    omega (arith, sleepers_total s.header.conditions s h, asleep_at s e h t' ∙ ap (asleep_after s e h) p)

-- where nobody falls asleep or leaves a condition
still_awake : (w : Word) → leaves_sleepers w ≡ true → falls_asleep w ≡ false
still_awake w t = grind arith

sleepers_kept : (s : Start) (e : Entry) (h : List Entry) → leaves_sleepers e.word ≡ true →
    sleepers_owe s.header.conditions s (e ∷ h) ≡ sleepers_owe s.header.conditions s h
sleepers_kept s e h t =
    sleepers_total s.header.conditions s (e ∷ h)
    ∙ total_same s.header.conditions (asleep_owe s (e ∷ h)) (asleep_owe s h) (λ c.
    sum_of_same (sleeper_owes s (e ∷ h)) (sleeper_owes s h) (sleepers s (e ∷ h) c)
    (λ i. sleeper_owes_as s h (e ∷ h) i (sleep_kept s e h i (still_awake e.word t)))
    ∙ ap (sum_of (sleeper_owes s h)) (sleepers_same s e h c t))
    ∙ sym (sleepers_total s.header.conditions s h)

-- the holds of an entry's seat, in its mode
abbrev own : Start → List Entry → Entry → ℕ
own s h e = held s h e.seat e.mode

holds_by : (s : Start) (e : Entry) (h : List Entry) (w : Word) → e.word ≡ w → e.seat < s.header.seats →
    holds_owe s (e ∷ h) + if_lock s.header.object (own s h e)
    ≡ holds_owe s h + if_lock s.header.object (holds_after s.header.object w e.n (own s h e))
holds_by s e h w p seat = holds_change s e h seat
    ∙ ap (λ x. holds_owe s h + if_lock s.header.object (holds_after s.header.object x e.n (own s h e))) p

-- all who stand in line stay, and some may come behind them
line_joined : (s : Start) (e : Entry) (h : List Entry) (w : Word) → e.word ≡ w → ends_arrival w ≡ false →
    falls_asleep w ≡ false → line_owes s (e ∷ h) + 0 ≡ line_owes s h
    + sum_of (arrival_owes s h) (arrivals_by s w e h)
line_joined s e h w p ends awake =
    let x = line_change s e h w p awake in
    omega (arith, ap (sum_of (arrival_owes s h)) (all_stay w e.seat (line s h) ends))

-- a seat leaves the line
line_left : (s : Start) (e : Entry) (h : List Entry) (w : Word) (a : Arrival) → e.word ≡ w →
    ends_arrival w ≡ true → falls_asleep w ≡ false → Waits s h → place_of e.seat (line s h) ≡ Some a →
    line_owes s (e ∷ h) + arrival_owes s h a ≡ line_owes s h + 0
line_left s e h w a p ends awake apart there =
    let f = arrival_owes s h in
    let y = sum_of_line_without f e.seat a (line s h) (in_line_once s h apart.once e.seat) there in
    let z = ap (λ b. sum_of f (filter (λ x. not (b && eqb e.seat x.seat)) (line s h))) ends in
    omega (arith, line_change s e h w p awake, ap (sum_of f) (no_arrival s w e h ends))

-- the words by which nobody begins or ends to wait
owed_still : (s : Start) (e : Entry) (h : List Entry) (w : Word) (l m : ℕ) → e.word ≡ w →
    ends_arrival w ≡ false → arrivals_by s w e h ≡ [] → leaves_sleepers w ≡ true → e.seat < s.header.seats
    → l + if_lock s.header.object (holds_after s.header.object w e.n (own s h e))
    ≡ m + if_lock s.header.object (own s h e)
    → owed s (e ∷ h) + l ≡ owed s h + m
owed_still s e h w l m p ends nobody t seat q =
    let x = sleepers_kept s e h (ap leaves_sleepers p ∙ t) in
    let y = holds_by s e h w p seat in
    omega (arith, q, line_joined s e h w p ends (still_awake w t), ap (sum_of (arrival_owes s h)) nobody)

lock_took : (o : Object) (n x : ℕ) → 0 + if_lock o (x + in_holds o n) ≡ cond (is_lock o) 1 0 + if_lock o x
lock_took o n x = grind arith

lock_gave : (o : Object) (k : Counts) (i : ℕ) (m : Mode) (n : ℕ) → gave o k i m n ≡ word.Gave →
    cond (is_lock o) 1 0 + if_lock o (k.held i m - in_holds o n) ≡ 0 + if_lock o (k.held i m)
lock_gave o k i m n g = grind (arith, nat_tests)

-- the words by which a seat leaves the line
owed_left : (s : Start) (e : Entry) (h : List Entry) (w : Word) (a : Arrival) (l m : ℕ) → e.word ≡ w →
    ends_arrival w ≡ true → leaves_sleepers w ≡ true → e.seat < s.header.seats
    → Waits s h → place_of e.seat (line s h) ≡ Some a
    → l + if_lock s.header.object (holds_after s.header.object w e.n (own s h e))
    ≡ m + if_lock s.header.object (own s h e) + arrival_owes s h a
    → owed s (e ∷ h) + l ≡ owed s h + m
owed_left s e h w a l m p t u seat apart there q =
    let x = sleepers_kept s e h (ap leaves_sleepers p ∙ u) in
    omega (arith, q, holds_by s e h w p seat, line_left s e h w a p t (still_awake w u) apart there)

queued_owes : (s : Start) (h : List Entry) (a : Arrival) → a.back ≡ false →
    arrival_owes s h a ≡ cond (is_lock s.header.object) 2 1
queued_owes s h a b = rw b refl

back_owes : (s : Start) (h : List Entry) (a : Arrival) → a.back ≡ true →
    arrival_owes s h a ≡ (last_sleep s h a.seat).holds + 1
back_owes s h a b = rw b refl

lock_granted : (o : Object) (n x r : ℕ) → r ≡ cond (is_lock o) 2 1 →
    1 + if_lock o (x + in_holds o n) ≡ 0 + if_lock o x + r
lock_granted o n x r e = grind arith

owed_granted : (s : Start) (e : Entry) (h : List Entry) (a : Arrival) → e.word ≡ word.Granted →
    e.seat < s.header.seats → Waits s h → LeavesLine s h e a → owed s (e ∷ h) + 1 ≡ owed s h + 0
owed_granted s e h a p seat apart k =
    owed_left s e h word.Granted a 1 0 p refl refl seat apart k.stands
    (lock_granted s.header.object e.n (own s h e) _ (queued_owes s h a k.queued))

owed_gave_up : (s : Start) (e : Entry) (h : List Entry) (a : Arrival) → e.word ≡ word.Left →
    e.seat < s.header.seats → Waits s h → LeavesLine s h e a →
    owed s (e ∷ h) + cond (is_lock s.header.object) 2 1 ≡ owed s h + 0
owed_gave_up s e h a p seat apart k =
    let r = queued_owes s h a k.queued in
    owed_left s e h word.Left a (cond (is_lock s.header.object) 2 1) 0 p refl refl seat apart k.stands
    (omega (arith, r))

owed_back : (s : Start) (e : Entry) (h : List Entry) (a : Arrival) → e.word ≡ word.Back →
    e.seat < s.header.seats → Waits s h → place_of e.seat (line s h) ≡ Some a → a.back ≡ true →
    e ≡ back s h e.seat → owed s (e ∷ h) + 1 ≡ owed s h + 0
owed_back s e h a p seat apart there b is =
    let lock : is_lock s.header.object ≡ true =
    (placed (SavedIfBack s h) e.seat (line s h) a apart.line there b).saved.lock in
    let r : arrival_owes s h a ≡ (last_sleep s h e.seat).holds + 1 = back_owes s h a b
    ∙ ap (λ i. (last_sleep s h i).holds + 1) (place_once e.seat (line s h) a there).0 in
    let n = ap (λ (x : Entry). x.n) is in
    owed_left s e h word.Back a 1 0 p refl refl seat apart there (grind (arith, lock, n, r))

-- a new acquire joins the line
owed_queued : (s : Start) (e : Entry) (h : List Entry) → e.word ≡ word.Queued → e.seat < s.header.seats →
    owed s (e ∷ h) + 0 ≡ owed s h + cond (is_lock s.header.object) 2 1
owed_queued s e h p seat =
    let x = holds_by s e h word.Queued p seat in
    omega (arith, line_joined s e h word.Queued p refl refl, sleepers_kept s e h (ap leaves_sleepers p))

-- a sleeper that is moved to the line has lapsed: it owes one less
moved_owes : (s : Start) (h : List Entry) (seats : List ℕ) →
    sum_of (arrival_owes s h) (map coming_back seats) + length seats ≡ sum_of (sleeper_owes s h) seats
moved_owes s h seats =
    let x = sum_of_map (arrival_owes s h) coming_back seats in
    omega (arith, sum_of_more (sleeper_owes s h) (λ i. (last_sleep s h i).holds + 1) seats (λ i. omega arith))

owed_moved : (s : Start) (e : Entry) (h : List Entry) (w : Word) (moved : List ℕ) (n : ℕ) → e.word ≡ w →
    ends_arrival w ≡ false → falls_asleep w ≡ false → e.seat < s.header.seats → e.at < s.header.conditions
    → holds_after s.header.object w e.n (own s h e) ≡ own s h e
    → arrivals_by s w e h ≡ map coming_back moved
    → sum_of (sleeper_owes s h) moved + asleep_after s e h w ≡ asleep_owe s h e.at
    → length moved ≡ n
    → owed s (e ∷ h) + n ≡ owed s h + 0
owed_moved s e h w moved n p ends awake seat condition kept come split count =
    let x = sleepers_change s e h w p awake condition in
    let y = ap (sum_of (arrival_owes s h)) come in
    let z = ap (if_lock s.header.object) kept in
    let a = moved_owes s h moved in
    omega (arith, split, count, holds_by s e h w p seat, line_joined s e h w p ends awake)

take_one : (xs : List ℕ) → length (take (at_most_one (length xs)) xs) ≡ at_most_one (length xs)
take_one [] = refl
take_one (x ∷ xs) = rw (ne_eqb (length (x ∷ xs)) 0 (λ q. omega (arith, q))) refl

owed_signal : (s : Start) (e : Entry) (h : List Entry) → e.word ≡ word.Signal → e.seat < s.header.seats →
    e.at < s.header.conditions → e.n ≡ at_most_one (length (sleepers s h e.at)) →
    owed s (e ∷ h) + e.n ≡ owed s h + 0
owed_signal s e h p seat condition n =
    owed_moved s e h word.Signal (take e.n (sleepers s h e.at)) e.n p refl refl seat condition refl refl
    (sum_of_split (sleeper_owes s h) e.n (sleepers s h e.at))
    (ap (λ x. length (take x (sleepers s h e.at))) n ∙ take_one (sleepers s h e.at) ∙ sym n)

owed_signal_all : (s : Start) (e : Entry) (h : List Entry) → e.word ≡ word.SignalAll →
    e.seat < s.header.seats → e.at < s.header.conditions → e.n ≡ length (sleepers s h e.at) →
    owed s (e ∷ h) + e.n ≡ owed s h + 0
owed_signal_all s e h p seat condition n =
    owed_moved s e h word.SignalAll (sleepers s h e.at) e.n p refl refl seat condition refl refl
    (add-zero _) (sym n)

owed_lapse : (s : Start) (e : Entry) (h : List Entry) → e.word ≡ word.Lapse → e.seat < s.header.seats →
    Waits s h → phase s h e.seat ≡ Sleeping → e ≡ lapse s h e.seat e.end → owed s (e ∷ h) + 1 ≡ owed s h + 0
owed_lapse s e h p seat apart sleeps is =
    let k = sleeps_at s.header.conditions s h e.seat (sleeping_parts _ _ sleeps).1 in
    let same : (last_sleep s h e.seat).condition ≡ k.0 = (apart.sleepers k.0 e.seat k.2).condition in
    let c : e.at ≡ (last_sleep s h e.seat).condition = ap (λ (x : Entry). x.at) is in
    let condition : e.at < s.header.conditions =
    subst (λ x. x < s.header.conditions) (sym (c ∙ same)) k.1 in
    let there : has e.seat (sleepers s h e.at) ≡ true = ap (λ x. has e.seat (sleepers s h x)) (c ∙ same)
    ∙ k.2 in
    let left = sum_of_without (sleeper_owes s h) e.seat (sleepers s h e.at)
    (asleep_once s h apart.once e.seat e.at condition) there in
    owed_moved s e h word.Lapse (e.seat ∷ []) 1 p refl refl seat condition refl refl (omega arith) refl

-- an await
owed_await : (s : Start) (e : Entry) (h : List Entry) → e.word ≡ word.Await → e.seat < s.header.seats →
    OnCondition s h e → e.n ≡ held s h e.seat X → owed s (e ∷ h) + 0 ≡ owed s h + 2
owed_await s e h p seat on n =
    let o = s.header.object in
    let d = s.header.conditions in
    let idle = idle_parts _ _ on.idle in
    let away : (c : ℕ) → c < d → has e.seat (sleepers s h c) ≡ false =
    λ c l. sleeps_not s h e.seat c idle.1 l in
    let line_is : line s (e ∷ h) ≡ line s h =
    line_after s e h ∙ ap (λ w. filter (stays w e.seat) (line s h) ++ arrivals_by s w e h) p ∙ append-nil _
    ∙ all_stay word.Await e.seat (line s h) refl in
    let f = sleeper_owes s (e ∷ h) in
    let g = sleeper_owes s h in
    let others : (j : ℕ) → j ≢ e.seat → f j ≡ g j =
    λ j ne. sleeper_owes_as s h (e ∷ h) j
    (ap (λ (z : Sleep). z.holds) (last_sleep_other s e h j (λ q. ne (sym q)))) in
    let elsewhere : (c : ℕ) → c < d → c ≢ e.at → asleep_owe s (e ∷ h) c ≡ asleep_owe s h c = λ c l ne.
    ap (sum_of f) (list_elsewhere c ne) ∙ sum_of_others f g e.seat (sleepers s h c) others (away c l) in
    let here : asleep_owe s (e ∷ h) e.at ≡ asleep_owe s h e.at + (e.n + 2 + 0) =
    ap (sum_of f) list_here
    ∙ sum_of_append f (sleepers s h e.at) (e.seat ∷ [])
    ∙ ap (λ x. x + (f e.seat + 0))
    (sum_of_others f g e.seat (sleepers s h e.at) others (away e.at on.condition))
    ∙ ap (λ x. asleep_owe s h e.at + (x + 2 + 0)) own_sleep in
    let line_now : line_owes s (e ∷ h) ≡ line_owes s h = ap (sum_of (arrival_owes s (e ∷ h))) line_is
    ∙ sum_of_line_others (arrival_owes s (e ∷ h)) (arrival_owes s h) e.seat (line s h)
    (λ a ne. arrival_owes_as s h (e ∷ h) a
    (ap (λ (z : Sleep). z.holds) (last_sleep_other s e h a.seat (λ q. ne (sym q))))) idle.0 in
    let y = total_change_below d (asleep_owe s (e ∷ h)) (asleep_owe s h) e.at on.condition elsewhere in
    let k = ap (λ b. cond b (own s h e) 0) on.lock in
    let m = ap {B = ℕ} (λ b. cond b 0 0) on.lock in
    let r = ap (held s h e.seat) on.mode ∙ sym n in
    let u = sleepers_total d s h in
    omega (arith, here, line_now, holds_by s e h word.Await p seat, sleepers_total d s (e ∷ h))
  where
    list_elsewhere : (c : ℕ) → c ≢ e.at → sleepers s (e ∷ h) c ≡ sleepers s h c
    list_elsewhere c ne = rw (ne_eqb e.at c (λ q. ne (sym q))) refl

    list_here : sleepers s (e ∷ h) e.at ≡ sleepers s h e.at ++ e.seat ∷ []
    list_here = rw (eq-eqb e.at e.at refl) (ap (λ w. sleepers_after w e.seat e.n (sleepers s h e.at)) p)

    own_sleep : (last_sleep s (e ∷ h) e.seat).holds ≡ e.n
    own_sleep = rw (eq-eqb e.seat e.seat refl) (ap (λ w. (sleep_after w e (last_sleep s h e.seat)).holds) p)

-- a semaphore is no lock
no_lock : (o : Object) (x y : ℕ) → is_semaphore o ≡ true → if_lock o x ≡ if_lock o y
no_lock o x y t = grind arith

-- what is owed behind one entry that its seat's step makes
pub owed_known : (s : Start) (e : Entry) (h : List Entry) → Known s h e → Waits s h →
    e.seat < s.header.seats → owed s (e ∷ h) + releases s.header.object e
    ≡ owed s h + reserves s.header.object e
owed_known s e h known apart seat = by e.word refl known
  where
    by : (w : Word) → e.word ≡ w → KnownBy s h e w → owed s (e ∷ h) + released_by s.header.object w e.n
        ≡ owed s h + reserved_by s.header.object w
    by word.Got p k =
        owed_still s e h word.Got 0 _ p refl refl refl seat (lock_took s.header.object e.n (own s h e))
    by word.TryGot p k =
        owed_still s e h word.TryGot 0 _ p refl refl refl seat (lock_took s.header.object e.n (own s h e))
    by word.Queued p k = owed_queued s e h p seat
    by word.Granted p k = owed_granted s e h k.0 p seat apart k.1
    by word.Missed p k = owed_still s e h word.Missed 0 0 p refl refl refl seat refl
    by word.Left p k = owed_gave_up s e h k.0 p seat apart k.1
    by word.Gave p k =
        owed_still s e h word.Gave _ 0 p refl refl refl seat
        (lock_gave s.header.object (counts s h) e.seat e.mode e.n k.1)
    by (word.Refused f) p k = owed_still s e h (word.Refused f) 0 0 p refl refl refl seat refl
    by word.Await p k = owed_await s e h p seat k.0 k.2
    by word.Lapse p k = owed_lapse s e h p seat apart k.0 k.2
    by word.Signal p k = owed_signal s e h p seat k.0.condition k.1
    by word.SignalAll p k = owed_signal_all s e h p seat k.0.condition k.1
    by word.Back p k = owed_back s e h k.0 p seat apart k.1 k.2 k.4
    by word.Counted p k = owed_still s e h word.Counted 0 0 p refl refl refl seat refl
    by word.Drained p k =
        owed_still s e h word.Drained 0 0 p refl refl refl seat
        (ap (λ x. 0 + x) (no_lock s.header.object _ _ k.1))

-- what is owed behind one entry more of a legal history
pub owed_step : (k : Header) (e : Entry) (h : List Entry) → IsLegal (opening k) (e ∷ h) →
    AreSeated (opening k) (e ∷ h) → owed (opening k) (e ∷ h) + releases k.object e
    ≡ owed (opening k) h + reserves k.object e
owed_step k e h legal seats =
    owed_known (opening k) e h (known (opening k) h legal.0.0 e legal.0.1) (waits k h legal.1) seats.0
