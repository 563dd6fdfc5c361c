-- That the audit's line and sleepers stand for one more entry, and are as it needs them.
use Rattle.std.proofs.Common.{◌≡◌, ⊎_elim, ℕ, ◌+◌, ◌<◌, None, true, false, eqb, List, [], ◌∷◌, length, get_or, set, replicate, refl, ap, ◌∙◌, sym, arith, eq-eqb, ne_eqb, get_or-set_same, get_or-set_other}
use Rattle.std.proofs.Math.ListN.{length-set}
use Rattle.std.proofs.lemmas.Bool.{cases_eq}
use Rattle.std.proofs.lemmas.List.{length-replicate}
use Rattle.audit.specs.Below.{Entry, Word, Header, sleep_after, last_sleep, Start, opening, IsMovable, JoinedBy, Keeps, asleep_on, sleeper_of, sleep_of, LastSleep}
use Rattle.history.specs.declared.entry.Word.TheVariants as word
use Rattle.history.specs.Start as start
use Rattle.history.proofs.Changes.{either_way}
use Rattle.history.proofs.Entering.{known}
use Rattle.history.proofs.OneWait.{Waits}
use Rattle.condition_queue.proofs.Movable.{movable}
use Rattle.deciding.proofs.Bounds.{waits_by}
use Rattle.audit.specs.declared.ledger.Ledger.{Ledger}
use Rattle.audit.specs.declared.waiting.Waiting.{Waiting}
use Rattle.audit.specs.Ledger.{IsNext, LedgerStand}
use Rattle.audit.specs.Waiting.{never_slept, WaitingStand}
use Rattle.audit.specs.inner.Waiting.{ended_by, NobodyWaits, saved_by, sleep_by}
use Rattle.deciding.proofs.NewTables.{blank}

-- a table of last sleeps that stays, or is written at the entry's seat
slept_same : (s : Start) (e : Entry) (h : List Entry) (table : List LastSleep) →
    ((x : start.Sleep) → sleep_after e.word e x ≡ x) →
    ((i : ℕ) → sleep_of (get_or table i never_slept) ≡ last_sleep s h i) → (i : ℕ) →
    sleep_of (get_or table i never_slept) ≡ last_sleep s (e ∷ h) i
slept_same s e h table same is i =
    is i ∙ sym (either_way (eqb e.seat i) _ _ (same (last_sleep s h i)))

slept_written : (s : Start) (e : Entry) (h : List Entry) (table : List LastSleep) (v : LastSleep) →
    e.seat < length table → sleep_of v ≡ sleep_after e.word e (last_sleep s h e.seat) →
    ((i : ℕ) → sleep_of (get_or table i never_slept) ≡ last_sleep s h i) → (i : ℕ) →
    sleep_of (get_or (set table e.seat v) i never_slept) ≡ last_sleep s (e ∷ h) i
slept_written s e h table v seat value is i = ⊎_elim same other (cases_eq e.seat i)
  where
    same : e.seat ≡ i → sleep_of (get_or (set table e.seat v) i never_slept) ≡ last_sleep s (e ∷ h) i
    same q =
        let t : eqb e.seat i ≡ true = eq-eqb _ _ q in
        let read : get_or (set table e.seat v) i never_slept ≡ v =
        ap (λ j. get_or (set table e.seat v) j never_slept) (sym q)
        ∙ get_or-set_same table e.seat v never_slept seat in
        ap sleep_of read ∙ value ∙ rw t (ap (λ j. sleep_after e.word e (last_sleep s h j)) q)

    other : (e.seat ≡ i → ⊥) →
        sleep_of (get_or (set table e.seat v) i never_slept) ≡ last_sleep s (e ∷ h) i
    other ne =
        let t : eqb e.seat i ≡ false = ne_eqb _ _ ne in
        ap sleep_of (get_or-set_other table e.seat i v never_slept (λ q. ne (sym q))) ∙ rw t (is i)

-- The table of last sleeps behind an entry has as many seats, and the last sleep of each.
record IsSaved (s : Start) (e : Entry) (h : List Entry) (old new : List LastSleep) : Type 0 where
  seats : length new ≡ length old
  slept : (i : ℕ) → sleep_of (get_or new i never_slept) ≡ last_sleep s (e ∷ h) i

saved : (s : Start) (e : Entry) (h : List Entry) (table : List LastSleep) (w : Word) → e.word ≡ w →
    e.seat < length table → ((i : ℕ) → sleep_of (get_or table i never_slept) ≡ last_sleep s h i) →
    IsSaved s e h table (saved_by w e table)
saved s e h table word.Await q seat is =
    record {
      seats = length-set _ _ _;
      slept = slept_written s e h table (sleep_by e) seat
          (ap (λ v. sleep_after v e (last_sleep s h e.seat)) (sym q)) is;
    }
saved s e h table word.Lapse q seat is =
    record {
      seats = length-set _ _ _;
      slept = slept_written s e h table (ended_by e.end (get_or table e.seat never_slept)) seat
          (ap (λ (x : start.Sleep). sleep_after word.Lapse e x) (is e.seat)
          ∙ ap (λ v. sleep_after v e (last_sleep s h e.seat)) (sym q)) is;
    }
saved s e h table w q seat is =
    record { seats = refl; slept = slept_same s e h table (λ x. ap (λ v. sleep_after v e x) q) is }

pub stands_next : (s : Start) (h : List Entry) (e : Entry) (old new : Waiting) → WaitingStand s h old →
    e.seat < length old.last_sleep.items → Keeps s (e ∷ h) new.line new.asleep →
    JoinedBy (length h + 2) new.line → new.last_sleep.items ≡ saved_by e.word e old.last_sleep.items →
    WaitingStand s (e ∷ h) new
stands_next s h e old new st seat kept joined is =
    let all = saved s e h old.last_sleep.items e.word refl seat st.slept in
    record {
      kept = kept;
      joins = omega (arith, joined);
      seats = ap length is ∙ all.seats ∙ st.seats;
      slept = λ i. ap (λ l. sleep_of (get_or l i never_slept)) is ∙ all.slept i;
    }

-- nobody waits at the opening
pub nobody_waits : (k : Header) (w : Waiting) → w.line.arrivals ≡ [] → w.line.joined ≡ 0 →
    w.line.seats ≡ k.seats → ((c : ℕ) → asleep_on w.asleep c ≡ []) →
    ((i : ℕ) → sleeper_of w.asleep i ≡ None) → w.asleep.conditions ≡ k.conditions →
    w.asleep.seats ≡ k.seats → w.last_sleep.items ≡ replicate k.seats never_slept → NobodyWaits k w
nobody_waits k w line joined places asleep awake conditions beds is =
    record {
      line = line;
      joined = joined;
      places = places;
      asleep = asleep;
      awake = awake;
      conditions = conditions;
      beds = beds;
      seats = ap length is ∙ length-replicate k.seats never_slept;
      slept = λ i. ap (λ l. get_or l i never_slept) is ∙ blank k.seats i never_slept;
    }

pub stands_opened : (k : Header) (w : Waiting) → NobodyWaits k w → WaitingStand (opening k) [] w
stands_opened k w none =
    record {
      kept = record {
        line = none.line;
        places = none.places;
        sleepers = none.asleep;
        conditions = none.conditions;
        beds = none.beds;
      };
      joins = let j = none.joined in omega (arith, j);
      seats = none.seats;
      slept = λ i. ap sleep_of (none.slept i);
    }

pub each_waits_once : (s : Start) (h : List Entry) (l : Ledger) → LedgerStand s h l → Waits s h
each_waits_once s h l st = waits_by s h st.past

-- a legal front's queue and waiters are as the next entry needs them
pub next_movable : (s : Start) (h : List Entry) (e : Entry) (l : Ledger) → LedgerStand s h l → IsNext s h e →
    e.seat < s.header.seats → length h < 4294967296 → IsMovable e l.waiting.line l.waiting.asleep
next_movable s h e l st next seat few =
    movable s h e l.waiting.line l.waiting.asleep (length h + 1) st.waits.kept st.waits.joins
    (omega (arith, few)) st.past seat (known s h next.0 e next.1)
