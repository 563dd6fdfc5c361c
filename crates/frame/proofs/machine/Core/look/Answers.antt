use Rattle.std.proofs.Common.{◌≡◌, ◌∙◌, Some, ap, not, sym, subst}
use Rattle.frame.specs.Below.{Look, first_of, line, place_of}
use Rattle.frame.specs.Core.{CoreView, start_of}
use Rattle.frame.proofs.ByKind.{takes_turn, waits_on}
use Rattle.frame.proofs.Recording.{made_plain, waited}
use Rattle.frame.proofs.machine.Core.look.Goals as goal

pub answer-requires-clause-made : goal.answer-requires-clause-made
answer-requires-clause-made g c =
    let header = subst (λ (v : CoreView). (start_of v).header ≡ v.header) c.self.view_is c.self.invariant.based in
    let first = subst (λ (v : CoreView). first_of (line (start_of v) v.entries) ≡ Some c.in-Some.first)
    c.self.view_is (ap first_of (sym c.self.invariant.waiting.line) ∙ sym c.first.ensures ∙ c.in-Some.is) in
    made_plain _ c.ended-granted.result _ (takes_turn c.args.self.now c.args.seat c.in-Some.first header first
    (sym c.is_ready.ensures ∙ c.if-not-is_ready.false) c.if-first.false) c.ended-granted.ensures

pub returns-then-not-is_ready-clause-done : goal.returns-then-not-is_ready-clause-done
returns-then-not-is_ready-clause-done g c =
    let v = c.args.self.now in
    let header = subst (λ (v : CoreView). (start_of v).header ≡ v.header) c.self.view_is c.self.invariant.based in
    let place = subst (λ (v : CoreView). c.place_of.result ≡ place_of c.args.seat (line (start_of v) v.entries))
    c.self.view_is (c.place_of.ensures ∙ ap (place_of c.args.seat) c.self.invariant.waiting.line) in
    waited v c.sleep.new.self c.args.seat Look
    (waits_on v c.args.seat c.place_of.result header place (c.is_none.ensures ∙ ap not c.if-is_none.false)
    (sym c.is_ready.ensures ∙ c.if-not-is_ready.true)) c.sleep.ensures.unmarked c.sleep.ensures.tidied
