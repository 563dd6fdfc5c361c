-- The acts of a text ahead of a reader's window.
use Rattle.std.proofs.Common.{◌≡◌, ℕ, zero, suc, ◌<◌, ◌≤◌, ◌^◌, List, [], ◌∷◌, ◌++◌, length, Option, None, Some, Ok, refl, ap, arith}
use Rattle.driver.specs.Below.{Act, IsInRange, ended, LINE_BYTES, Form, IsLineBehind, StepsHeader, stepped, Common, IsAct, IsStep, act_line, step_line, steps_form, steps_so_far, IsReadNoFurther}
use Rattle.steps.proofs.ShortSteps.{short}
use Rattle.driver.specs.Prelude.{Held, common_act, progress, IsNext, IsOfNoText, Progress, WereRead}
use Rattle.driver.specs.inner.StepReader.{ReadMore}

repeated : ℕ → Act → List Act
repeated zero act = []
repeated (suc n) act = act ∷ repeated n act

as_many : (n : ℕ) (act : Act) → n ≡ length (repeated n act)
unfolding repeated
as_many zero act = refl
as_many (suc n) act = ap suc (as_many n act)

-- the act of the next line, whatever acts were read
pub next_act : (h : StepsHeader) (count : ℕ) (window : List ℕ) (act : Act) (left : ℕ) →
    IsLineBehind steps_form (steps_so_far h count) window (Ok (Some (act, left))) → IsAct h act
next_act h count window act left is = (is []).1.fits (repeated count act) (as_many count act) tt

-- a common step whose line begins the window is the act of the next line
pub common_behind : (h : StepsHeader) (count : ℕ) (window : List ℕ) (found : ℕ × Common) (left : ℕ) →
    IsStep h.header.seats (stepped found) × ((rest : List ℕ)
    × (window ≡ ended (step_line (stepped found)) ++ rest) × (length rest ≡ left))
    → IsLineBehind steps_form (steps_so_far h count) window (Ok (Some (common_act found, left)))
common_behind h count window found left is = λ text. (
  is.1.0,
  record { fits = λ acts same known. is.0; parts = is.1.1 },
  is.1.2,
)

-- the line of the next act is short
pub next_short : (h : StepsHeader) (count : ℕ) (window : List ℕ) (act : Act) (left : ℕ) → IsInRange h.header →
    IsLineBehind steps_form (steps_so_far h count) window (Ok (Some (act, left)))
    → length (act_line act) < LINE_BYTES
next_short h count window act left range is =
    short.item h [] act range tt (next_act h count window act left is)

-- ---- more acts than a good text has

-- so many acts are not all of a text
pub never_all : (first : Progress StepsHeader Act) (held : Held) (left after : Option (List ℕ)) (more :
    List Act)
    (new : Progress StepsHeader Act) → 2 ^ 32 ≤ held.count →
    IsNext steps_form (progress held left) (Ok None) new after → ReadMore first more (progress held left) →
    IsOfNoText steps_form first
never_all first held left after more new many all read = λ text items were.
    let now = read (Some text) items were in
    by text (items ++ more) left now (all (Some text) (items ++ more) now).ends
  where
    by : (text : List ℕ) (items : List Act) (left : Option (List ℕ)) →
        WereRead steps_form (Some text) (progress held left) items → length items < 2 ^ 32 → ⊥
    by text items None were few = were
    by text items (Some xs) were few = omega (arith, were.count, many, few)

-- of no text nothing more was read
pub no_text : {H I : Type 0} (form : Form H I) (p : Progress H I) (text : Option (List ℕ)) (items : List I)
    (left : Option (List ℕ)) → IsOfNoText form p → WereRead form text p items → IsReadNoFurther form text left
no_text form p None items left none were = tt
no_text form p (Some t) items left none were = absurd (none t items were)
