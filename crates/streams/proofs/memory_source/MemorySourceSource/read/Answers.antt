use Rattle.std.proofs.Common.{◌≡◌, ◌+◌, ◌-◌, ◌≤◌, refl, length, take, drop, sym, ap, ◌∙◌, arith, length-take, length-append, length-drop}
use Rattle.std.proofs.lemmas.List.{drop_all}
use Rattle.streams.specs.MemorySource.{Supply}
use Rattle.streams.proofs.Pieces.{handed}
use Rattle.streams.proofs.memory_source.MemorySourceSource.read.Goals as goal

pub returns-clause-bytes : goal.returns-clause-bytes
returns-clause-bytes c =
    let bytes = c.self.inside.bytes.items in
    let same : c.deref.result.now ≡ bytes = c.deref.ensures.value in
    let at = c.self.inside.at in
    let n = c.min-n.result in
    let k : (at + n) - at ≡ n = omega arith in
    let left : c.args.self.now.left ≡ drop at bytes = ap (λ (s : Supply). s.left) (sym c.self.view_is) in
    let piece : c.copy_from_slice.new.self ≡ take n (drop at bytes) = c.copy_from_slice.ensures.after
    ∙ rw (k, same) refl in
    let small : n ≤ length c.args.buf.now = omega (arith, c.min.ensures, c.min-n.ensures) in
    let len : length c.copy_from_slice.new.self ≡ n =
    omega (arith, c.copy_from_slice.ensures.len, length-take n c.args.buf.now, small) in (
      left ∙ handed bytes _ c.args.buf.now at n piece len,
      λ zero room. drop_all (at + n) bytes
          (omega (
            arith,
            zero,
            room,
            len,
            length-append c.copy_from_slice.new.self (drop n c.args.buf.now),
            length-drop n c.args.buf.now,
            c.min.ensures,
            c.min-n.ensures,
            c.len.ensures,
            c.self.invariant.1,
            c.self.inside.bytes.ok.0,
          )),
    )
