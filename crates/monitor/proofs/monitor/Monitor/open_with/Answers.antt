use Rattle.std.proofs.Common.{◌≡◌, ◌≤◌, List, ap, ◌∙◌, sym, subst, arith}
use Rattle.std.specs.List.{All}
use Rattle.monitor.specs.Below.{Header, Point, opening_base, opening_tickets}
use Rattle.word_lock.proofs.PointLaws.{agrees_empty}
use Rattle.monitor.specs.Prelude.{point_of, blank, IsLawful, Shown}
use Rattle.monitor.proofs.Opening.{shows_blank, header_shown, opening_own}
use Rattle.monitor.proofs.monitor.Monitor.open_with.Goals as goal

pub open-requires-2-clause-empty : goal.open-requires-2-clause-empty
open-requires-2-clause-empty g c = λ seat.
    agrees_empty c.in_ok-kept.kept.laden.value.core.header seat (point_of c.in_ok-kept.kept.laden.value.core)
    c.in_ok-kept.ensures.base c.in_ok-kept.ensures.empty

header_is : (g : _) (c : goal.After-passes-in-Ok-open-1 g) → c.in-Ok-open.lock.header ≡
    c.in_ok-kept.kept.laden.value.core.header
header_is g c =
    c.in-Ok-open.ensures.header ∙ header_shown (point_of c.in_ok-kept.kept.laden.value.core)
    ∙ c.in_ok-kept.ensures.kept.header

point_is : (g : _) (c : goal.After-passes-in-Ok-open-1 g) → point_of c.in_ok-kept.kept.laden.value.core ≡
    blank c.in-Ok-open.lock.header
point_is g c =
    shows_blank (point_of c.in_ok-kept.kept.laden.value.core) c.in-Ok-open.lock.header
    (c.in_ok-kept.ensures.base ∙ ap opening_base (sym (header_is g c)))
    c.in_ok-kept.ensures.empty

pub give_passes-requires-clause-tokens : goal.give_passes-requires-clause-tokens
give_passes-requires-clause-tokens g c =
    c.in-Ok-open.ensures.tokens ∙ ap (λ (p : Point). opening_tickets c.in-Ok-open.lock p 0 c.args.seats) (point_is g c)

pub give_passes-requires-clause-seats : goal.give_passes-requires-clause-seats
give_passes-requires-clause-seats g c =
    ap (λ (k : Header). k.seats) (header_is g c ∙ c.in_ok-kept.ensures.header)

pub give_passes-requires-clause-lawful : goal.give_passes-requires-clause-lawful
give_passes-requires-clause-lawful g c = subst IsLawful (point_is g c) c.in_ok-kept.ensures.kept.lawful

pub returns-in-Ok-open-clause-header : goal.returns-in-Ok-open-clause-header
returns-in-Ok-open-clause-header g c =
    c.in-Ok-open.ensures.header ∙ header_shown (point_of c.in_ok-kept.kept.laden.value.core)
    ∙ c.in_ok-kept.ensures.kept.header ∙ c.in_ok-kept.ensures.header

pub returns-in-Ok-open-clause-own : goal.returns-in-Ok-open-clause-own
returns-in-Ok-open-clause-own g c =
    subst (λ (l : List Shown). All (λ (s : Shown). s.lock ≡ c.in-Ok-open.lock) l)
    (sym c.give_passes.ensures.passes)
    (opening_own c.in-Ok-open.lock (blank c.in-Ok-open.lock.header) 0 c.args.seats)

pub invariant_of-result : goal.invariant_of-result
invariant_of-result g c =
    let header =
    c.in-Ok-open.ensures.header ∙ header_shown (point_of c.in_ok-kept.kept.laden.value.core)
    ∙ c.in_ok-kept.ensures.kept.header ∙ c.in_ok-kept.ensures.header in
    let some : 1 ≤ c.args.seats = c.requires.range.some_seat in
    (sym (ap (λ (k : Header). k.seats) header), omega (arith, some))

pub returns-in-Err-clause-back : goal.returns-in-Err-clause-back
returns-in-Err-clause-back g c =
    let refused = c.in-Err.ensures.refused in (
      c.into_parts-core.ensures.load
          ∙ ((λ d. (refused.0 d).laden.value.load) ∙ c.in_ok-kept.ensures.load),
      refused.1,
    )
