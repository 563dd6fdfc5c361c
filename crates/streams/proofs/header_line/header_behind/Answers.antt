use Rattle.std.proofs.Common.{◌≡◌, ◌≢◌, List, ℕ, ◌++◌, Option, None, Some, IfNone, sym, ◌∙◌}
use Rattle.history.specs.declared.header.Header.{Header}
use Rattle.history.specs.Header.{IsInRange}
use Rattle.history.specs.Spelling.{part_of}
use Rattle.streams.proofs.Lists.{same_behind}
use Rattle.streams.proofs.header_line.header_behind.Goals as goal

none_behind : (r : Option Header) (name rest line : List ℕ) → line ≡ name ++ rest →
    IfNone r ((h : Header) → IsInRange h → rest ≢ part_of h) →
    IfNone r ((h : Header) → IsInRange h → line ≢ name ++ part_of h)
none_behind None name rest line is none =
    λ h fits e. none h fits (same_behind name rest (part_of h) (sym is ∙ e))
none_behind (Some x) name rest line is none = tt

pub returns-clause-none : goal.returns-clause-none
returns-clause-none c =
    none_behind c.read_part.result c.args.name.now c.in_ok-behind.field-0.now c.args.line.now
    c.in_ok-behind.ensures c.read_part.ensures.none
