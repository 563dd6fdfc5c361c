-- What is held behind legal entries on a good base, and asked for in its line, is small.
use Rattle.std.proofs.Common.{◌≡◌, ⊎_elim, ℕ, ◌+◌, ◌*◌, ◌<◌, ◌≤◌, List, [], ◌∷◌, length, map, refl, ap, arith}
use Rattle.std.specs.List.{AllByRecursion}
use Rattle.history.specs.Prelude.{MOST_AMOUNT, MOST_BASE_PERMITS, MOST_HOLDS, Arrival, LinePlace, Entry, X, S, Object, Semaphore, Latch, Base, based, held, AreHeld, StandsWell, IsInRange, line, is_latch, is_lock, is_semaphore, most_shared, CanFold}
use Rattle.history.proofs.Asking.{AsksFew, asked_few, line_few_on}
use Rattle.history.proofs.GoodBases.{good_waits}
use Rattle.history.proofs.GoodFolds.{free_fits_base, latch_holds, owned_behind}
use Rattle.history.proofs.Owners.{most_fits}
use Rattle.history.proofs.Permits.{held_grows, no_exclusive}
use Rattle.history.proofs.Times.{total_part}

module _ (b : Base) (h : List Entry) (can : CanFold b h) where
  exclusive_of : (o : Object) → b.header.object ≡ o → AreHeld o b → (i : ℕ) →
      held (based b) h i X ≤ MOST_HOLDS
  exclusive_of (Semaphore p c) q v i =
      omega (arith, no_exclusive (based b) h (ap is_semaphore q) (good_waits b can.good) can.legal i, v.exclusive i)
  exclusive_of (Latch c) q v i =
      omega (arith, latch_holds (based b) h (ap is_latch q) (good_waits b can.good) can.legal v i X)
  exclusive_of _ q v i =
      let own = owned_behind b can.good h (ap is_lock q) can.legal can.seated in
      omega (arith, own.exclusive i, most_fits b.header.object)

  pub exclusive_small : (i : ℕ) → held (based b) h i X ≤ MOST_HOLDS
  exclusive_small i = exclusive_of b.header.object refl can.good.held i

  shared_of : IsInRange b.header → (o : Object) → b.header.object ≡ o → AreHeld o b → (i : ℕ) →
      i < b.header.seats → held (based b) h i S ≤ MOST_BASE_PERMITS + MOST_AMOUNT * length h
  shared_of range (Semaphore p c) q v i l =
      let t = ap is_semaphore q in
      let grown = held_grows (based b) h t (good_waits b can.good)
      (free_fits_base b [] range (record { good = can.good; seated = tt; legal = tt }) t) can.legal i S in
      omega (arith, grown, v.shared i)
  shared_of range (Latch c) q v i l =
      omega (arith, latch_holds (based b) h (ap is_latch q) (good_waits b can.good) can.legal v i S)
  shared_of range _ q v i l =
      let all = (owned_behind b can.good h (ap is_lock q) can.legal can.seated).shared in
      omega (arith, all, total_part b.header.seats (λ j. held (based b) h j S) i l, ap most_shared q)

  pub shared_small : IsInRange b.header → (i : ℕ) → i < b.header.seats →
      held (based b) h i S ≤ MOST_BASE_PERMITS + MOST_AMOUNT * length h
  shared_small range i l = shared_of range b.header.object refl can.good.held i l

pub stand_few : (b : Base) (q : List LinePlace) → AllByRecursion (StandsWell b) q →
    AllByRecursion AsksFew (map (λ p. p.who) q)
stand_few b [] all = tt
stand_few b (p ∷ q) all = (
  ⊎_elim (λ asks. asked_few b.header.object p.who.n asks.1.amount)
      (λ comes. (let one = ap (λ (a : Arrival). a.n) comes.1.who in omega (arith, one))) all.0,
  stand_few b q all.1,
)

pub asks_small : (b : Base) (h : List Entry) → CanFold b h → AllByRecursion AsksFew (line (based b) h)
asks_small b h can = line_few_on (based b) h (stand_few b b.line can.good.line) can.legal
