use Rattle.std.proofs.Common.{rules, arith, sym, ◌∙◌, Some, None}
use Rattle.std.proofs.lemmas.Str.Pattern.{split_parts}
use Rattle.script.specs.Script.{named}
use Rattle.script.proofs.Cutting.{cut, no_interrupt, no_object, no_action, interrupt_joined, name_joined}
use Rattle.script.proofs.call_text.call_of.Goals as goal

pub returns-in_err-name-clause-none : goal.returns-in_err-name-clause-none
returns-in_err-name-clause-none c =
    rw c.from_residual.ensures (λ call says. cut (named c.args.objects.now.entries) c.args.threads call
    c.args.text.now
    None c.requires.names c.in_err-name.ensures.cases says)

pub returns-in_err-thread_of-clause-none : goal.returns-in_err-thread_of-clause-none
returns-in_err-thread_of-clause-none c =
    rw c.from_residual-in_err-thread_of.ensures (λ call says.
    let halves = cut (named c.args.objects.now.entries) c.args.threads call c.args.text.now
    (Some (c.in_ok-name.name, c.in_ok-name.rest)) c.requires.names c.in_ok-name.ensures.cases says in
    no_interrupt (named c.args.objects.now.entries) c.args.threads call c.in_ok-name.name.now
    c.in_ok-name.rest.now
    c.requires.names (search (rules, c.if-eq.true)) (rw c.as_bytes.ensures.value at
    c.in_err-thread_of.ensures.none) halves)

pub returns-then-eq-clause-found : goal.returns-then-eq-clause-found
returns-then-eq-clause-found c =
    let parts = split_parts 32 c.args.text.now (Some (c.in_ok-name.name, c.in_ok-name.rest))
    c.in_ok-name.ensures.cases
    (omega arith) in
    let found = c.in_ok-thread_of.ensures.found in (
      found.0,
      interrupt_joined c.args.text.now c.in_ok-name.name.now c.in_ok-name.rest.now c.in_ok-thread_of.field-0
          parts.0
          (search (rules, c.if-eq.true)) (sym c.as_bytes.ensures.value ∙ found.1),
    )

pub returns-in_err-place-clause-none : goal.returns-in_err-place-clause-none
returns-in_err-place-clause-none c =
    rw c.from_residual-in_err-place.ensures (λ call says.
    let halves = cut (named c.args.objects.now.entries) c.args.threads call c.args.text.now
    (Some (c.in_ok-name.name, c.in_ok-name.rest)) c.requires.names c.in_ok-name.ensures.cases says in
    no_object (named c.args.objects.now.entries) c.args.threads call c.in_ok-name.name.now
    c.in_ok-name.rest.now
    (search (rules, c.if-eq.false)) c.in_err-place.ensures.none halves)

pub returns-in_err-action_of-clause-none : goal.returns-in_err-action_of-clause-none
returns-in_err-action_of-clause-none c =
    rw c.from_residual-in_err-action_of.ensures (λ call says.
    let halves = cut (named c.args.objects.now.entries) c.args.threads call c.args.text.now
    (Some (c.in_ok-name.name, c.in_ok-name.rest)) c.requires.names c.in_ok-name.ensures.cases says in
    no_action (named c.args.objects.now.entries) c.args.threads call c.in_ok-name.name.now
    c.in_ok-name.rest.now
    (search (rules, c.if-eq.false)) (rw c.as_bytes-2.ensures.value at c.in_err-action_of.ensures.none) halves)

pub returns-clause-found : goal.returns-clause-found
returns-clause-found c =
    let parts = split_parts 32 c.args.text.now (Some (c.in_ok-name.name, c.in_ok-name.rest))
    c.in_ok-name.ensures.cases
    (omega arith) in
    let asked = c.in_ok-action_of.ensures.found in
    let place = c.in_ok-place.ensures.found in (
      asked.0,
      (
        (c.in_ok-name.name.now, place.0),
        place.1,
        name_joined c.args.text.now c.in_ok-name.name.now c.in_ok-name.rest.now c.in_ok-action_of.field-0
            parts.0
            (sym c.as_bytes-2.ensures.value ∙ asked.1),
      ),
    )
