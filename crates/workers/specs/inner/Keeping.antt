-- What is kept of answers that no history records.
use Rattle.std.specs.Prelude.{◌≡◌, List, [], ◌∷◌, ◌++◌, Option, Some, IfOk, IfSome, length}
use Rattle.std.specs.Global.{Vec}
use Rattle.workers.specs.declared.kept.Kept.{Kept}
use Rattle.workers.specs.declared.unrecorded.Unrecorded.{Unrecorded}
use Rattle.workers.specs.declared.work.Worked.{Worked}

-- what is kept of these answers: how many they are, and if there is a list, which
abbrev pub IsKept : Kept → List Unrecorded → Type 0
IsKept kept answers = (kept.count ≡ length answers) × IfSome kept.list (λ list. list.items ≡ answers)

-- if there is a list afterwards, there was one before, and it has these answers more
abbrev pub Extends : Option (Vec Unrecorded) → List Unrecorded → Option (Vec Unrecorded) → Type 0
Extends old more new =
    IfSome new (λ all. (list : Vec Unrecorded) × (old ≡ Some list) × (all.items ≡ list.items ++ more))

-- these answers are kept, too
abbrev pub Adds : Kept → List Unrecorded → Kept → Type 0
Adds old answers new = (before : List Unrecorded) → IsKept old before → IsKept new (before ++ answers)

-- what was kept of answers, and of later ones, was put together
abbrev pub Joins : Kept → Kept → Kept → Type 0
Joins old later new =
    (x y : List Unrecorded) → IsKept old x → IsKept later y → IsKept new (x ++ y)

-- what all workers kept that made all their calls
abbrev pub HaveKept : List Worked → List Unrecorded → Type 0
HaveKept [] answers = answers ≡ []
HaveKept (done ∷ dones) answers =
    (its : List Unrecorded) × (others : List Unrecorded) × IfOk done.ended (λ kept. IsKept kept its)
    × HaveKept dones others × (answers ≡ its ++ others)
