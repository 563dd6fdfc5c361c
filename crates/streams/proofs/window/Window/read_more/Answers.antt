use Rattle.std.proofs.Common.{◌≡◌, ℕ, ◌++◌, List, slice_range, take, arith, ap, ◌∙◌, length-take-le}
use Rattle.std.proofs.lemmas.Grind.{common_steps}
use Rattle.streams.specs.Window.{Seen}
use Rattle.streams.proofs.Sliding.{grown}
use Rattle.streams.proofs.window.Window.read_more.Goals as goal

pub returns-clause-grows : goal.returns-clause-grows
returns-clause-grows g c =
    let w = c.self.inside in
    let n = c.in-Ok.n in
    let read = c.read.new.buf in
    let places = c.deref_mut.result.now in
    let stood : slice_range w.bytes.items w.at w.end ≡ c.args.self.now.bytes =
    ap (λ (seen : Seen). seen.bytes) c.self.view_is
    ∙ ap (λ (seen : Seen). seen.bytes) c.move_to_front.ensures in
    record {
      more = take n read;
      consumed = c.in-Ok.ensures.bytes.0;
      behind = grown places read _ _ w.at w.end n w.bytes.len (omega (arith, c.self.invariant))
          (rw c.deref_mut.ensures.value (omega (arith, c.self.invariant))) c.in-Ok.ensures.bound
          (omega (arith, c.in-Ok.ensures.bound, c.deref_mut.ensures.len))
          ∙ ap (λ (xs : List ℕ). slice_range xs w.at w.end ++ take n read) c.deref_mut.ensures.value
          ∙ ap (λ (t : List ℕ). t ++ take n read) stood;
      count = length-take-le n read c.in-Ok.ensures.bound;
    }

pub returns-in_default-clause-kept : goal.returns-in_default-clause-kept
returns-in_default-clause-kept g c = grind (arith, common_steps)
