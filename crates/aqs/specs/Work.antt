-- What the program does for a job.
use Rattle.std.specs.Prelude.{◌≡◌, ℕ, List, Option, Result}
use Rattle.picture.specs.Names.{Given}
use Rattle.tasks.specs.Explain.{ExplainsText, Says}
use Rattle.tasks.specs.Perform.{IsReadOutFor, PerformsWith}
use Rattle.tasks.specs.RunScript.{IsReadOut, Runs}
use Rattle.aqs.specs.Pages.{page_text}
use Rattle.tasks.specs.declared.fault.Fault.{Fault}
use Rattle.aqs.specs.declared.job.Job.{Job}
use Rattle.aqs.specs.declared.job.Job.TheVariants.{Answer, Explain, Run, Tell}

-- The names that were given, the source's bytes, and what the sink held before and holds after.
abbrev pub Works : Given → Job → Option (List ℕ) → Option (List ℕ) → Option (List ℕ) → Result ℕ Fault → Type 0
Works names (Answer task) left old new result = PerformsWith names task left old new result
Works names (Explain at notation) left old new result = ExplainsText at notation left old new result
Works names Run left old new result = Runs left old new result
Works names (Tell page) left old new result = Says 0 (page_text page) old new result

-- How far a text is read: as its task does, or as a script is. The arguments are what the source had left and
-- what it has left. No contract says how far an explanation reads, and a page is none of a text.
abbrev pub IsReadFor : Job → Option (List ℕ) → Result ℕ Fault → Option (List ℕ) → Type 0
IsReadFor (Answer task) text result left = IsReadOutFor task text result left
IsReadFor (Explain at notation) text result left = Unit {0}
IsReadFor Run text result left = IsReadOut result left
IsReadFor (Tell page) text result left = left ≡ text
