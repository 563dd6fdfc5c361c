-- A core that was just opened.
use Rattle.std.proofs.Common.{◌≡◌, ℕ, List, [], length, get_or, replicate, Some, refl, ap, ◌∙◌, sym, subst, arith}
use Rattle.std.proofs.lemmas.List.{length-replicate, get_or-replicate}
use Rattle.frame.specs.Below.{Line, Keeps, Sleepers, asleep_on, Header, Base, based, opening_base, Counts, counts, HistoryView, MayFold, IsInRange, AreRight, unmarked, owed, Start, opening}
use Rattle.history.proofs.Marking.{opening_right}
use Rattle.history.proofs.OpeningBase.{based_opening}
use Rattle.history.proofs.RoomLemmas.{nothing_owed}
use Rattle.frame.specs.Prelude.{Seat, IsInStep, AreCalled, IsSeat, no_holds}
use Rattle.frame.proofs.Calls.{called_opened}
use Rattle.frame.proofs.Seats.{seat_free}
use Rattle.frame.proofs.Telling.{marks_free}

-- What stands for an object as it is opened.
record Opened (agrees : Counts → Type 0) (s : Start) (queue : Line) (waiters : Sleepers) : Type 0 where
  hooks : agrees (counts s [])
  waiting : Keeps s [] queue waiters
  seat : (i : ℕ) → IsSeat s [] i no_holds
  right : AreRight s [] unmarked
  owed : owed s [] ≡ 0

pub opening_stands : (agrees : Counts → Type 0) (k : Header) (b : Base) (kept : HistoryView) (queue : Line)
    (waiters : Sleepers) (table : List Seat) → IsInRange k → b ≡ opening_base k → MayFold b [] →
    agrees (counts (opening k) []) →
    kept ≡ record { cap = k.cap; base = Some b; entries = []; owed = 0; places = 0 } → queue.arrivals ≡ [] →
    queue.seats ≡ k.seats →
    queue.joined ≡ 0 → ((c : ℕ) → asleep_on waiters c ≡ []) → waiters.conditions ≡ k.conditions →
    waiters.seats ≡ k.seats →
    table ≡ replicate k.seats no_holds → IsInStep agrees k kept queue waiters table
opening_stands agrees k b kept queue waiters table range opens may told is line places joined asleep
    conditions beds free =
    subst (λ y. IsInStep agrees k y queue waiters table) (sym is) (record {
      range = range;
      began = refl;
      based = ap (λ (x : Base). x.header) opens;
      may_fold = may;
      hooks = here.hooks;
      waiting = here.waiting;
      joins = omega (arith, joined);
      seats = ap length free ∙ length-replicate k.seats no_holds;
      tabled = λ i l.
          subst (IsSeat (based b) [] i)
          (sym (ap (λ t. get_or t i no_holds) free ∙ get_or-replicate k.seats i no_holds no_holds l))
          (here.seat i);
      called = subst (λ x. AreCalled k.seats x [] table) (sym opens) (called_opened k table free);
      told = subst (AreRight (based b) []) (sym (marks_free k.seats table free)) here.right;
      cap = refl;
      owed = sym here.owed;
      room = omega arith;
    })
  where
    at_opening : Opened agrees (opening k) queue waiters
    at_opening =
        record {
          hooks = told;
          waiting = record {
            line = line;
            places = places;
            sleepers = asleep;
            conditions = conditions;
            beds = beds;
          };
          seat = λ i. seat_free (opening k) i (λ m. refl) refl;
          right = opening_right k;
          owed = nothing_owed k;
        }

    here : Opened agrees (based b) queue waiters
    here =
        subst (λ s. Opened agrees s queue waiters)
        (sym (based_opening k) ∙ ap based (sym opens)) at_opening
