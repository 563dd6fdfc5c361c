-- What opening an object leaves.
use Rattle.std.specs.Prelude.{◌≡◌, ◌⊎◌, ℕ, pos, List, Option, Some, None, All, length, map}
use Rattle.aqs_c.specs.Below.{IsInRange, Header, Object, Lock, ReadWrite, Semaphore, Latch, Policy, Fair, NonFair, Strict, blank, Shown, opening_passes, LockId}
use Rattle.aqs_c.specs.Seated.{Seated, seated}
use Rattle.aqs_c.specs.declared.opening.AqsHeader.{AqsHeader}
use Rattle.aqs_c.specs.declared.pass.AqsPass.{AqsPass}

abbrev pub IsPolicy : Policy → ℕ → Type 0
IsPolicy Fair number = number ≡ 0
IsPolicy NonFair number = number ≡ 1
IsPolicy Strict number = number ≡ 2

-- the object of a header's numbers; a latch has no policy
abbrev pub IsObject : Object → AqsHeader → Type 0
IsObject (Lock p) c = (c.kind ≡ 0) × IsPolicy p c.policy
IsObject (ReadWrite p) c = (c.kind ≡ 1) × IsPolicy p c.policy
IsObject (Semaphore p permits) c = (c.kind ≡ 2) × IsPolicy p c.policy × (permits ≡ c.number)
IsObject (Latch count) c = (c.kind ≡ 3) × (pos count ≡ c.number)

pub record IsHeaderOf (c : AqsHeader) (h : Header) : Type 0 where
  pub object : IsObject h.object c
  pub seats : h.seats ≡ c.seats
  pub conditions : h.conditions ≡ c.conditions
  pub cap : h.cap ≡ c.cap

-- a seat that has seen nothing and is in no call
abbrev pub idle : Shown → Option Seated
idle p = Some (seated p None)

-- each place has the pass of its seat
pub record IsOpened (h : Header) (places : List AqsPass) : Type 0 where
  pub lock : LockId
  pub header : lock.header ≡ h
  pub passes : map (λ p. p.held.value) places ≡ map idle (opening_passes lock (blank h) 0 h.seats)

-- no place has a pass
abbrev pub AreEmpty : List AqsPass → Type 0
AreEmpty places = All (λ p. p.held.value ≡ None) places

-- why an object wasn't opened
abbrev pub IsRefusal : AqsHeader → List AqsPass → ℕ → Type 0
IsRefusal c places number =
    (number ≡ 11)
    ⊎ ((number ≡ 254) × (AreEmpty places → ⊥))
    ⊎ ((number ≡ 255) × ((h : Header) → IsHeaderOf c h → IsInRange h → length places ≡ h.seats → ⊥))

-- Each place was empty and an object was opened, or no place has changed.
abbrev pub IsOpening : AqsHeader → List AqsPass → ℕ → List AqsPass → Type 0
IsOpening c old number new =
    ((number ≡ 0) × AreEmpty old × (h : Header) × IsHeaderOf c h × IsInRange h × IsOpened h new)
    ⊎ ((new ≡ old) × IsRefusal c old number)
