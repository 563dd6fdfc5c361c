use Rattle.std.proofs.Common.{◌≡◌, ◌≤◌, ◌*◌, ◌^◌, ◌+◌, length}
use Rattle.std.specs.List.{All}
use Rattle.monitor.specs.Prelude.{IsSound, shares}
use Rattle.monitor.proofs.closing.merge_shares.Given as goal

abbrev pub invariant-loop-pass : goal.invariant-loop-pass
invariant-loop-pass l =
    (l.share + shares l.rest ≡ shares l.fn.passes) × (All (λ p. IsSound p) l.rest →
    All (λ p. IsSound p) l.fn.passes)
    × (l.share + length l.rest * 2 ^ 64 + 2 ^ 64 ≤ 2 ^ 128)

abbrev pub decreases-loop-pass : goal.decreases-loop-pass
decreases-loop-pass l = length l.rest
