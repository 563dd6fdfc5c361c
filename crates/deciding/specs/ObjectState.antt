-- What a state of an object represents: a history.
use Rattle.std.specs.Prelude.{◌≡◌, ◌<◌, ℕ, List}
use Rattle.deciding.specs.Below.{Entry, Base, based, IsGood, IsInRange, IsLegal, AreSeated, Start}

-- A legal history from a good base. The base of an object as opened is one.
pub record IsHistory (s : Start) (h : List Entry) : Type 0 where
  pub base : Base
  pub good : IsGood base
  pub start : s ≡ based base
  pub range : IsInRange s.header
  pub legal : IsLegal s h
  pub seated : AreSeated s h

-- a state that represents some history
abbrev pub HasHistory : {A : Type 0} → (Start → List Entry → A → Type 0) → A → Type 0
HasHistory stands state = (s : Start) × (h : List Entry) × stands s h state

-- and a seat of its object
abbrev pub HasSeat : {A : Type 0} → (Start → List Entry → A → Type 0) → A → ℕ → Type 0
HasSeat stands state i = (s : Start) × (h : List Entry) × stands s h state × (i < s.header.seats)
