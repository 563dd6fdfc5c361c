use Rattle.std.proofs.Common.{rules, ◌∙◌}
use Rattle.std.proofs.lemmas.Int.{to_z-of_z}
use Rattle.std.specs.Fmt.{signed_decimal}
use Rattle.std.specs.Int.{w32}
use Rattle.history.proofs.Writing.{all_put}
use Rattle.history.proofs.number.put_permits.Goals as goal

pub returns-clause-ok : goal.returns-clause-ok
returns-clause-ok c =
    all_put _ c.args.out.now.items _ (signed_decimal c.args.permits)
    (rw (c.as_bytes.ensures.value ∙ c.format.ensures.text, to_z-of_z w32 c.args.permits (search rules))
    at c.extend_from_slice.ensures.items)
