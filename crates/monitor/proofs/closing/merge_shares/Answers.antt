use Rattle.std.proofs.Common.{rules, ◌≡◌, length, ◌∷◌, ap}
use Rattle.monitor.proofs.Merging.{shares_more, all_true_more}
use Rattle.monitor.proofs.closing.merge_shares.Goals as goal

pub loop-pass-preserved : goal.loop-pass-preserved
loop-pass-preserved c =
    let i = c.loop-pass.invariant in
    let cut : c.loop-pass.rest.now ≡ c.in-Some.pass.now ∷ c.in-Some.tail.now = search rules in
    let few = i.2 in let fits = c.share.ensures in
    let whole : length c.loop-pass.rest.now ≡ length (c.in-Some.pass.now ∷ c.in-Some.tail.now) =
    ap length cut in (
      shares_more c.in-Some.pass.now c.in-Some.tail.now c.loop-pass.rest.now c.loop-pass.share _ _ cut
          (search rules) i.0,
      λ true. i.1 (all_true_more c.in-Some.pass.now c.in-Some.tail.now c.loop-pass.rest.now cut
          c.is_true.ensures true),
      search rules,
    )
