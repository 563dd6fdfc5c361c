-- Whoever has an exclusive hold is idle: it neither stands in line nor sleeps.
use Rattle.std.proofs.Common.{◌≡◌, ℕ, ◌<◌, Bool, true, false, List, Option, Some, None, refl, ap, ◌∙◌, sym, arith}
use Rattle.history.specs.Prelude.{Arrival, Entry, X, Base, based, held, line, place_of, Idle, phase, phase_by, CanFold, sleeps_below}
use Rattle.history.proofs.GoodBases.{good_waits}
use Rattle.history.proofs.GoodFolds.{Queues, queues}
use Rattle.history.proofs.OneWait.{SavedIfBack, Waits, placed, waits_from}
use Rattle.history.proofs.SleepLemmas.{sleeps_at}
use Rattle.history.proofs.Times.{place_once}

pub owner_idle : (b : Base) (h : List Entry) → CanFold b h → (i : ℕ) → 0 < held (based b) h i X →
    phase (based b) h i ≡ Idle
owner_idle b h can i some =
    by (place_of i (line (based b) h)) (sleeps_below b.header.conditions (based b) h i) refl refl
  where
    waiting : Waits (based b) h
    waiting = waits_from (based b) h (good_waits b can.good) can.legal

    nothing : held (based b) h i X ≡ 0 → ⊥
    nothing z = omega (arith, z, some)

    in_line : (a : Arrival) → place_of i (line (based b) h) ≡ Some a → (t : Bool) → a.back ≡ t → ⊥
    in_line a stands true back =
        let saved = placed (SavedIfBack (based b) h) i (line (based b) h) a waiting.line stands back in
        let seat = (place_once i (line (based b) h) a stands).0 in
        nothing (ap (λ j. held (based b) h j X) (sym seat) ∙ saved.saved.nothing X)
    in_line a stands false asks =
        let all = queues b can.good h can.legal can.seated in
        let none = placed (Queues (based b) h) i (line (based b) h) a all stands asks in
        let seat = (place_once i (line (based b) h) a stands).0 in
        nothing (ap (λ j. held (based b) h j X) (sym seat) ∙ none.2)

    by : (o : Option Arrival) (t : Bool) → place_of i (line (based b) h) ≡ o →
        sleeps_below b.header.conditions (based b) h i ≡ t → phase_by o t ≡ Idle
    by (Some a) t stands _ = absurd (in_line a stands a.back refl)
    by None true _ sleeps =
        let at = sleeps_at b.header.conditions (based b) h i sleeps in
        absurd (nothing ((waiting.sleepers at.0 i at.2).saved.nothing X))
    by None false _ _ = refl
