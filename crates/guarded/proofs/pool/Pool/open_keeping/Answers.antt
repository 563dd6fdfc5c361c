use Rattle.std.proofs.Common.{rules, ◌∙◌, refl, sym, ap, subst}
use Rattle.guarded.specs.Below.{IsInRange, Object, header_of, opened_counts}
use Rattle.guarded.specs.Shelved.{Lies}
use Rattle.guarded.proofs.Calling.{none_hold}
use Rattle.guarded.proofs.Shelving.{short}
use Rattle.guarded.proofs.pool.Pool.open_keeping.Goals as goal

pub hooks_for-hooks-requires : goal.hooks_for-hooks-requires
hooks_for-hooks-requires g c = short c.args.items c.requires.range.opening.1

pub open_with-requires-clause-opened : goal.open_with-requires-clause-opened
open_with-requires-clause-opened g c = c.hooks_for-hooks.ensures.opened c.args.seats

pub open_with-requires-clause-range : goal.open_with-requires-clause-range
open_with-requires-clause-range g c =
    subst (λ (o : Object). IsInRange (header_of o c.args.seats 0 c.args.cap)) (sym c.hooks_for-hooks.ensures.object)
    c.requires.range

pub open_with-requires-clause-rests : goal.open_with-requires-clause-rests
open_with-requires-clause-rests g c = (
  subst (λ (o : Object). Lies c.args.items (opened_counts (header_of o c.args.seats 0 c.args.cap)))
      (sym c.hooks_for-hooks.ensures.object) record { semaphore = refl; each = refl },
  c.requires.kept,
)

pub returns-in-Ok-clause-opened : goal.returns-in-Ok-clause-opened
returns-in-Ok-clause-opened g c =
    record {
      header =
          c.in-Ok.ensures.header
          ∙ ap (λ (o : Object). header_of o c.args.seats 0 c.args.cap) c.hooks_for-hooks.ensures.object;
      when_full = search rules;
      passes = c.in-Ok.ensures.passes;
      own = c.in-Ok.ensures.own;
      free = none_hold c.in-Ok.monitor c.args.seats _ c.in-Ok.ensures.passes;
    }
