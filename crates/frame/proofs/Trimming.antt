-- What stands for a history stands for the base that it is folded into.
use Rattle.std.proofs.Common.{◌≡◌, ⊎_elim, ℕ, ◌+◌, ◌<◌, ◌≤◌, ◌^◌, Bool, List, [], length, get_or, Option, None, Some, refl, ap, ◌∙◌, sym, subst, arith, IsSomeAnd}
use Rattle.std.proofs.lemmas.Bool.{cases_lt}
use Rattle.std.proofs.lemmas.Option.{same_Some}
use Rattle.frame.specs.Below.{Line, Sleepers, Entry, Balance, balance, Header, MOST_FOLDED, Base, based, folded, Counts, counts, HistoryView, base_on, start_on, MayFold}
use Rattle.history.proofs.Alike.{Alike, owed_alike}
use Rattle.history.proofs.Folding.{fold_alike}
use Rattle.history.proofs.FoldSteps.{may_go_on}
use Rattle.history.proofs.Marking.{right_alike}
use Rattle.frame.specs.Prelude.{Seat, CoreView, IsInStep, trimmed, with_history, AreAlike, AreCalled, marks_in}
use Rattle.frame.specs.inner.Snapshot.{IsKept}
use Rattle.frame.proofs.Calls.{called_folded}
use Rattle.frame.proofs.Seats.{seat_folded}

-- the history with its entries folded
abbrev pub emptied : Header → HistoryView → HistoryView
emptied k v = record v { base = Some (folded (base_on k v) v.entries); entries = [] }

-- the base that was taken out is that of the core
pub base_is : {agrees : Counts → Type 0} {queue : Line} {waiters : Sleepers} {table : List Seat} (k : Header)
    (kept : HistoryView) (base : Base) → IsInStep agrees k kept queue waiters table → kept.base ≡ Some base →
    base_on k kept ≡ base
base_is k kept base s taken = same_Some (base_on k kept) base (sym s.began ∙ taken)

-- what it is written from
pub kept_by : {agrees : Counts → Type 0} (k : Header) (kept : HistoryView) (queue : Line) (waiters : Sleepers)
    (table : List Seat) (base : Base) (count : ℕ) (totals : Balance) →
    IsInStep agrees k kept queue waiters table → kept.base ≡ Some base → count ≡ length kept.entries →
    totals ≡ balance (start_on k kept) kept.entries → totals.shared < 2 ^ 126 →
    IsKept base kept.entries count totals queue waiters table
kept_by k kept queue waiters table base count totals s taken counted totalled small =
    subst (λ b. IsKept b kept.entries count totals queue waiters table) (base_is k kept base s taken) (record {
      may_fold = s.may_fold;
      few = let r = s.room in let c = s.range.cap in let t = s.may_fold.can.good.entries in
          omega (arith, r, c, t);
      counted = counted;
      totalled = totalled;
      small = small;
      waiting = s.waiting;
      seats = s.seats ∙ sym seats;
      tabled = λ i l. s.tabled i (omega (arith, l, seats));
      called = subst (λ n. AreCalled n (base_on k kept) kept.entries table) (sym seats) s.called;
    })
  where
    seats : (base_on k kept).header.seats ≡ k.seats
    seats = ap (λ (x : Header). x.seats) s.based

-- the history that begins on it
pub emptied_by : (k : Header) (kept mid new : HistoryView) (base after : Base) → base_on k kept ≡ base →
    mid ≡ record kept { base = None } → after ≡ folded base kept.entries →
    new ≡ record mid { base = Some after; entries = [] } → new ≡ emptied k kept
emptied_by k kept mid new base after same taken written begun =
    begun
    ∙ ap (λ (m : HistoryView). (let y : HistoryView = record m { base = Some after; entries = [] } in y)) taken
    ∙ ap (λ (b : Base). (let y : HistoryView = record kept { base = Some b; entries = [] } in y))
    (written ∙ ap (λ b. folded b kept.entries) (sym same))

-- and what a caller sees of it
pub seen_trimmed : (k : Header) (kept new : HistoryView) (told : List Bool) (seen : CoreView) →
    with_history k kept told ≡ seen → new ≡ emptied k kept → with_history k new told ≡ trimmed seen
seen_trimmed k kept new told seen q is =
    ap (λ y. with_history k y told) is ∙ ap trimmed q

-- the fold may go on, unless there are too many
pub few_before : {agrees : Counts → Type 0} {queue : Line} {waiters : Sleepers} {table : List Seat}
    (k : Header) (kept : HistoryView) → IsInStep agrees k kept queue waiters table →
    IsSomeAnd kept.base (λ b. b.entries ≤ MOST_FOLDED)
few_before k kept s =
    subst (λ (o : Option Base). IsSomeAnd o (λ b. b.entries ≤ MOST_FOLDED)) (sym s.began)
    s.may_fold.can.good.entries

pub few_folded : {agrees : Counts → Type 0} {queue : Line} {waiters : Sleepers} {table : List Seat}
    (k : Header) (kept : HistoryView) → IsInStep agrees k kept queue waiters table →
    (IsSomeAnd kept.base (λ b. MOST_FOLDED < b.entries + length kept.entries) → ⊥) →
    (base_on k kept).entries + length kept.entries ≤ MOST_FOLDED
few_folded k kept s room =
    ⊎_elim (λ (over : MOST_FOLDED < (base_on k kept).entries + length kept.entries).
    absurd (subst (λ (o : Option Base). IsSomeAnd o (λ b. MOST_FOLDED < b.entries + length kept.entries) → ⊥)
    s.began room over))
    (λ l. l) (cases_lt MOST_FOLDED ((base_on k kept).entries + length kept.entries))

pub goes_on : {agrees : Counts → Type 0} {queue : Line} {waiters : Sleepers} {table : List Seat} (k : Header)
    (kept : HistoryView) → IsInStep agrees k kept queue waiters table →
    (base_on k kept).entries + length kept.entries ≤ MOST_FOLDED →
    MayFold (folded (base_on k kept) kept.entries) []
goes_on k kept s few = may_go_on (base_on k kept) [] kept.entries s.may_fold few

counts_alike : (b f : Base) (h : List Entry) → f ≡ folded b h →
    Alike b.header (based b) (based (folded b h)) h [] →
    AreAlike (counts (based b) h) (counts (based (folded b h)) [])
counts_alike b f h q same =
    record {
      object = refl;
      seats = refl;
      held = λ i m. ap (λ f. f i m) (sym same.holds);
      free = λ t. sym (same.permits t);
      count = sym same.left;
    }

pub stands_folded : (agrees : Counts → Type 0) → ((k l : Counts) → AreAlike k l → agrees k → agrees l) →
    (k : Header) (kept kept' : HistoryView) (queue : Line) (waiters : Sleepers) (table : List Seat) →
    IsInStep agrees k kept queue waiters table → kept' ≡ emptied k kept →
    MayFold (folded (base_on k kept) kept.entries) [] → IsInStep agrees k kept' queue waiters table
stands_folded agrees alike k kept kept' queue waiters table s now may =
    subst (λ y. IsInStep agrees k y queue waiters table) (sym now) (record {
      range = s.range;
      began = refl;
      based = s.based;
      may_fold = may;
      hooks = alike _ _ (counts_alike base base' h refl same) s.hooks;
      waiting = record {
        line = s.waiting.line ∙ same.stand;
        places = s.waiting.places;
        sleepers = λ c. s.waiting.sleepers c ∙ ap (λ f. f c) same.asleep;
        conditions = s.waiting.conditions;
        beds = s.waiting.beds;
      };
      joins = let j = s.joins in omega (arith, j);
      seats = s.seats;
      tabled = λ i l. seat_folded base h i (get_or table i _) same (s.tabled i l);
      called = subst (λ n. AreCalled n base' [] table) seats
          (called_folded base h table (subst (λ n. AreCalled n base h table) (sym seats) s.called));
      told = right_alike base.header (based base) (based base') h [] same (marks_in table) s.told;
      cap = s.cap;
      owed = s.owed ∙ owed_alike _ _ _ _ _ same;
      room = let r = s.room in omega (arith, r);
    })
  where
    base : Base
    base = base_on k kept

    h : List Entry
    h = kept.entries

    base' : Base
    base' = folded base h

    seats : base.header.seats ≡ k.seats
    seats = ap (λ (x : Header). x.seats) s.based

    same : Alike base.header (based base) (based (folded base h)) h []
    same = fold_alike base h s.may_fold.can.good s.may_fold.can.legal s.may_fold.can.seated
