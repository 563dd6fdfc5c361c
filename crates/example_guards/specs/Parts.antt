-- The parts of a history, printed one after the other.
use Rattle.std.specs.Prelude.{◌≡◌, ◌*◌, ℕ, ◌+◌, List, [], ◌∷◌, ◌++◌, length, Option}
use Rattle.std.specs.Io.KnownBytes.{Appends}
use Rattle.frame.specs.Core.{CoreView}
use Rattle.history.specs.declared.entry.Entry.{Entry}
use Rattle.history.specs.declared.header.Header.{Header}
use Rattle.history.specs.Base.{Base, folded, opening_base}
use Rattle.history.specs.Point.{CanFold}
use Rattle.history_text.specs.Pieces.{history_text}

-- the base that parts leave, the last part first: each is folded into what the parts before it left
abbrev pub left_by : Base → List (List Entry) → Base
left_by b [] = b
left_by b (h ∷ parts) = folded (left_by b parts) h

-- their texts: each part begins on the base that those before it left
abbrev pub texts : Base → List (List Entry) → List ℕ
texts b [] = []
texts b (h ∷ parts) = texts b parts ++ history_text (left_by b parts) h

-- each part is legal from the base that those before it left
abbrev pub AreLegal : Base → List (List Entry) → Type 0
AreLegal b [] = Unit {0}
AreLegal b (h ∷ parts) = AreLegal b parts × CanFold (left_by b parts) h

-- The parts that lead from one base to the other were printed, and nothing else.
pub record Prints (b : Base) (held : Option (List ℕ)) (c : Base) (then_held : Option (List ℕ)) : Type 0 where
  pub parts : List (List Entry)
  pub legal : AreLegal b parts
  pub left : c ≡ left_by b parts
  pub printed : Appends held then_held (texts b parts)

-- how many entries an object has made, with the folded ones
abbrev pub made : CoreView → ℕ
made v = v.base.entries + length v.entries

-- All that an object made since it was opened was printed in legal parts, with five entries for each round.
pub record Plays (k : Header) (rounds : ℕ) (held then_held : Option (List ℕ)) : Type 0 where
  pub parts : List (List Entry)
  pub legal : AreLegal (opening_base k) parts
  pub entries : (left_by (opening_base k) parts).entries ≡ 5 * rounds
  pub printed : Appends held then_held (texts (opening_base k) parts)
