-- That queue and waiters stand for one entry more, and are as it needs them.
use Rattle.std.proofs.Common.{◌≡◌, ◌⊎◌, ⊎_elim, ℕ, zero, suc, ◌+◌, ◌<◌, ◌≤◌, Bool, true, false, cond, eqb, List, ◌∷◌, ◌++◌, length, Option, Some, None, refl, ap, ◌∙◌, sym, arith, is_some, eq-eqb, append-nil, length-append}
use Rattle.std.specs.List.{filter}
use Rattle.std.proofs.lemmas.Bool.{cases_eq, cases_lt, false≢true}
use Rattle.condition_queue.specs.Below.{Line, Entry, Word, line, arrivals_by, place_of, sleepers, sleepers_after, has, last_sleep, sleeps_below, Start, IsHistory, at_most_one, asleep}
use Rattle.condition_queue.specs.declared.sleeper.Sleeper.{Sleeper}
use Rattle.condition_queue.specs.Sleepers.{Sleepers, asleep_on, sleeper_of, sleeps_on}
use Rattle.history.specs.declared.entry.Word.TheVariants as word
use Rattle.deciding.proofs.Bounds.{all_below, waits_by}
use Rattle.history.proofs.Changes.{all_stay}
use Rattle.history.proofs.Entering.{Known, KnownBy, OnCondition}
use Rattle.history.proofs.LineLemmas.{line_after, stays}
use Rattle.history.proofs.OneWait.{Waits}
use Rattle.history.proofs.SleepLemmas.{idle_parts, sleeping_parts, sleeps_at, sleeps_there}
use Rattle.history.proofs.WhoWaits.{asleep_out_of_line, sleeper_condition, no_sleepers_above, few_wait}
use Rattle.condition_queue.specs.Following.{JoinedBy, Keeps, line_behind, IsMovable, IsMovableBy, MayJoin, MayMove}

-- the line
line_by : (s : Start) (h : List Entry) (e : Entry) (w : Word) →
    filter (stays w e.seat) (line s h) ++ arrivals_by s w e h ≡ line_behind w e (line s h) (sleepers s h e.at)
line_by s h e word.Queued =
    ap (λ l. l ++ arrivals_by s word.Queued e h) (all_stay word.Queued e.seat (line s h) refl)
line_by s h e word.Lapse =
    ap (λ l. l ++ arrivals_by s word.Lapse e h) (all_stay word.Lapse e.seat (line s h) refl)
line_by s h e word.Signal =
    ap (λ l. l ++ arrivals_by s word.Signal e h) (all_stay word.Signal e.seat (line s h) refl)
line_by s h e word.SignalAll =
    ap (λ l. l ++ arrivals_by s word.SignalAll e h) (all_stay word.SignalAll e.seat (line s h) refl)
line_by s h e word.Granted = append-nil _
line_by s h e word.Left = append-nil _
line_by s h e word.Back = append-nil _
line_by s h e word.Got = append-nil _ ∙ all_stay word.Got e.seat (line s h) refl
line_by s h e word.TryGot = append-nil _ ∙ all_stay word.TryGot e.seat (line s h) refl
line_by s h e word.Missed = append-nil _ ∙ all_stay word.Missed e.seat (line s h) refl
line_by s h e word.Gave = append-nil _ ∙ all_stay word.Gave e.seat (line s h) refl
line_by s h e (word.Refused f) = append-nil _ ∙ all_stay (word.Refused f) e.seat (line s h) refl
line_by s h e word.Await = append-nil _ ∙ all_stay word.Await e.seat (line s h) refl
line_by s h e word.Counted = append-nil _ ∙ all_stay word.Counted e.seat (line s h) refl
line_by s h e word.Drained = append-nil _ ∙ all_stay word.Drained e.seat (line s h) refl

pub line_next : (s : Start) (h : List Entry) (e : Entry) →
    line s (e ∷ h) ≡ line_behind e.word e (line s h) (sleepers s h e.at)
line_next s h e = line_after s e h ∙ line_by s h e e.word

-- who waits nowhere sleeps nowhere, on no condition that there is or isn't
awake_everywhere : (s : Start) (h : List Entry) (i : ℕ) → Waits s h →
    sleeps_below s.header.conditions s h i ≡ false →
    (c : ℕ) → has i (sleepers s h c) ≡ false
awake_everywhere s h i v t c = by (has i (sleepers s h c)) refl
  where
    by : (b : Bool) → has i (sleepers s h c) ≡ b → b ≡ false
    by false p = refl
    by true p =
        let on = v.sleepers c i p in
        let below : c < s.header.conditions = let l = on.saved.condition in let d = on.condition in
        omega (arith, l, d) in
        let sleeps = sleeps_there s.header.conditions s h i c below p in
        cc

-- the sleepers of a condition are among all sleepers
asleep_part : (n : ℕ) (s : Start) (h : List Entry) (c : ℕ) → c < n →
    length (sleepers s h c) ≤ length (asleep n s h)
asleep_part zero s h c l = absurd (omega (arith, l))
asleep_part (suc n) s h c l =
    let sum = length-append (asleep n s h) (sleepers s h n) in
    ⊎_elim
    (λ (same : c ≡ n). let d = ap (λ x. length (sleepers s h x)) same in omega (arith, sum, d))
    (λ ne. let m = asleep_part n s h c (omega (arith, ne, l)) in omega (arith, sum, m))
    (cases_eq c n)

pub few_sleepers : (s : Start) (h : List Entry) → IsHistory s h → (c : ℕ) →
    length (sleepers s h c) ≤ s.header.seats
few_sleepers s h past c = by (cases_lt c s.header.conditions)
  where
    v : Waits s h
    v = waits_by s h past

    by : (c < s.header.conditions) ⊎ (s.header.conditions ≤ c) → length (sleepers s h c) ≤ s.header.seats
    by p = ⊎_elim
        (λ below.
        let part = asleep_part s.header.conditions s h c below in
        let few = few_wait s h v (all_below s h past) in
        omega (arith, part, few))
        (λ above. let none = ap length (no_sleepers_above s h v c above) in omega (arith, none))
        p

joins_line : (s : Start) (h : List Entry) (e : Entry) (queue : Line) (waiters : Sleepers) →
    Keeps s h queue waiters →
    e.seat < s.header.seats → place_of e.seat (line s h) ≡ None → MayJoin e queue
joins_line s h e queue waiters kept seat absent =
    record {
      seat = let p = kept.places in omega (arith, p, seat);
      absent = ap (place_of e.seat) kept.line ∙ absent;
    }

moves : (s : Start) (h : List Entry) (e : Entry) (queue : Line) (waiters : Sleepers) (n : ℕ) →
    Keeps s h queue waiters →
    Waits s h → OnCondition s h e → e.n ≡ n → MayMove n e queue waiters
moves s h e queue waiters n kept v on is =
    record {
      condition = let p = kept.conditions in let l = on.condition in omega (arith, p, l);
      apart = λ i t.
          ap (place_of i) kept.line
          ∙ asleep_out_of_line s h i v.once
          (sleeps_there s.header.conditions s h i e.at on.condition
          (ap (has i) (sym (kept.sleepers e.at)) ∙ t));
      number = is;
    }

movable_by : (s : Start) (h : List Entry) (e : Entry) (queue : Line) (waiters : Sleepers) (w : Word) →
    Keeps s h queue waiters →
    Waits s h → e.seat < s.header.seats → KnownBy s h e w → IsMovableBy w e queue waiters
movable_by s h e queue waiters word.Queued kept v seat m =
    joins_line s h e queue waiters kept seat (idle_parts _ _ m.idle).0
movable_by s h e queue waiters word.Await kept v seat m =
    record {
      condition = let p = kept.conditions in let l = m.0.condition in omega (arith, p, l);
      seat = let p = kept.beds in omega (arith, p, seat);
      awake = λ c. ap (has e.seat) (kept.sleepers c)
          ∙ awake_everywhere s h e.seat v (idle_parts _ _ m.0.idle).1 c;
    }
movable_by s h e queue waiters word.Lapse kept v seat m =
    let parts = sleeping_parts _ _ m.0 in
    let at : (last_sleep s h e.seat).condition ≡ e.at = sym (ap (λ (x : Entry). x.at) m.2) in
    let there = (sleeper_condition s h v e.seat parts.1).1 in
    record {
      join = joins_line s h e queue waiters kept seat parts.0;
      asleep = ap (has e.seat) (kept.sleepers e.at)
          ∙ ap (λ c. has e.seat (sleepers s h c)) (sym at) ∙ there;
    }
movable_by s h e queue waiters word.Signal kept v seat m =
    moves s h e queue waiters _ kept v m.0 (m.1 ∙ ap (λ l. at_most_one (length l)) (sym (kept.sleepers e.at)))
movable_by s h e queue waiters word.SignalAll kept v seat m =
    moves s h e queue waiters _ kept v m.0 (m.1 ∙ ap length (sym (kept.sleepers e.at)))
movable_by s h e queue waiters word.Got kept v seat m = tt
movable_by s h e queue waiters word.TryGot kept v seat m = tt
movable_by s h e queue waiters word.Granted kept v seat m = tt
movable_by s h e queue waiters word.Missed kept v seat m = tt
movable_by s h e queue waiters word.Left kept v seat m = tt
movable_by s h e queue waiters word.Gave kept v seat m = tt
movable_by s h e queue waiters (word.Refused f) kept v seat m = tt
movable_by s h e queue waiters word.Back kept v seat m = tt
movable_by s h e queue waiters word.Counted kept v seat m = tt
movable_by s h e queue waiters word.Drained kept v seat m = tt

-- what an entry asks of those who wait, where no more have joined than so many entries let join
pub movable : (s : Start) (h : List Entry) (e : Entry) (queue : Line) (waiters : Sleepers) (n : ℕ) →
    Keeps s h queue waiters → JoinedBy n queue → n ≤ 2000000000000000 → IsHistory s h →
    e.seat < s.header.seats → Known s h e → IsMovable e queue waiters
movable s h e queue waiters n kept joined few past seat m =
    record {
      by_word = movable_by s h e queue waiters e.word kept (waits_by s h past) seat m;
      seats = let p = kept.places in let b = kept.beds in omega (arith, p, b);
      few =
          let f = few_sleepers s h past e.at in
          let l = ap length (kept.sleepers e.at) in
          let r = past.range.seats in
          omega (arith, f, l, r);
      countable = omega (arith, joined, few);
    }

pub keeps_next : (s : Start) (h : List Entry) (e : Entry) (queue queue' : Line)
    (waiters waiters' : Sleepers) → Keeps s h queue waiters →
    queue'.arrivals ≡ line_behind e.word e queue.arrivals (asleep_on waiters e.at) →
    ((c : ℕ) → asleep_on waiters' c ≡ cond (eqb e.at c)
    (sleepers_after e.word e.seat e.n (asleep_on waiters c)) (asleep_on waiters c)) →
    queue'.seats ≡ queue.seats → waiters'.seats ≡ waiters.seats →
    waiters'.conditions ≡ waiters.conditions → Keeps s (e ∷ h) queue' waiters'
keeps_next s h e queue queue' waiters waiters' kept arrivals lists places beds conditions =
    record {
      line =
          arrivals
          ∙ ap (λ l. line_behind e.word e l (asleep_on waiters e.at)) kept.line
          ∙ ap (line_behind e.word e (line s h)) (kept.sleepers e.at)
          ∙ sym (line_next s h e);
      places = places ∙ kept.places;
      sleepers =
          λ c. lists c ∙ ap (λ l. cond (eqb e.at c) (sleepers_after e.word e.seat e.n l) l) (kept.sleepers c);
      conditions = conditions ∙ kept.conditions;
      beds = beds ∙ kept.beds;
    }

-- one entry more lets join its seat and who sleeps on its condition
pub joined_next : (s : Start) (h : List Entry) (e : Entry) (queue queue' : Line) (waiters : Sleepers) (n :
    ℕ) →
    Keeps s h queue waiters → JoinedBy n queue → IsHistory s h →
    queue'.joined ≤ queue.joined + 1 + length (asleep_on waiters e.at) → JoinedBy (n + 1) queue'
joined_next s h e queue queue' waiters n kept joined past more =
    let f = few_sleepers s h past e.at in
    let l = ap length (kept.sleepers e.at) in
    let r = past.range.seats in
    omega (arith, joined, more, f, l, r)

-- who sleeps on no condition is awake
pub awake_none : (w : Sleepers) (i : ℕ) (r : Option Sleeper) → r ≡ sleeper_of w i →
    ((c : ℕ) → has i (asleep_on w c) ≡ false) → ((c : ℕ) → has i (asleep_on w c) ≡ sleeps_on c r) →
    sleeper_of w i ≡ None
awake_none w i None is awake listed = sym is
awake_none w i (Some x) is awake listed =
    let t : true ≡ false = sym (eq-eqb x.condition x.condition refl) ∙ sym (listed x.condition)
    ∙ awake x.condition in
    absurd (false≢true (sym t))

-- who sleeps, by what the waiters say of a seat
pub sleeps_is : (s : Start) (h : List Entry) (i : ℕ) (w : Sleepers) (r : Option Sleeper) → Waits s h →
    ((c : ℕ) → asleep_on w c ≡ sleepers s h c) → ((c : ℕ) → has i (asleep_on w c) ≡ sleeps_on c r) →
    is_some r ≡ sleeps_below s.header.conditions s h i
sleeps_is s h i w None v lists listed = by (sleeps_below s.header.conditions s h i) refl
  where
    by : (b : Bool) → sleeps_below s.header.conditions s h i ≡ b → false ≡ b
    by true t =
        let at = sleeps_at s.header.conditions s h i t in
        let z : true ≡ false = sym at.2 ∙ ap (has i) (sym (lists at.0)) ∙ listed at.0 in
        cc
    by false t = refl
sleeps_is s h i w (Some x) v lists listed =
    let t : has i (sleepers s h x.condition) ≡ true =
    ap (has i) (sym (lists x.condition)) ∙ listed x.condition ∙ eq-eqb x.condition x.condition refl in
    let on = v.sleepers x.condition i t in
    let below : x.condition < s.header.conditions = let l = on.saved.condition in let d = on.condition in
    omega (arith, l, d) in
    sym (sleeps_there s.header.conditions s h i x.condition below t)
