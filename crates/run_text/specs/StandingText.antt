-- The text of how a run stands whose time is over.
use Rattle.std.specs.Prelude.{◌≡◌, ℕ, List, ◌++◌}
use Rattle.script.specs.Script.{ScriptView}
use Rattle.run_text.specs.declared.link.Link.{Link}
use Rattle.run_text.specs.Circle.{IsCircle, circle_lines}
use Rattle.run_text.specs.Lines.{first_line, thread_lines}
use Rattle.workers.specs.declared.standing.Standing.{Standing}

abbrev pub standing_text : ℕ → ScriptView → List Standing → List Link → List ℕ
standing_text ms s ts links =
    first_line ms ++ thread_lines s.objects 0 s.workers ts ++ circle_lines s.objects links

-- the text of a script's run whose threads stood so, with threads in a circle or without
pub record IsStandingText (ms : ℕ) (s : ScriptView) (ts : List Standing) (text : List ℕ) : Type 0 where
  pub links : List Link
  pub circle : IsCircle s.workers ts links
  pub is : text ≡ standing_text ms s ts links
