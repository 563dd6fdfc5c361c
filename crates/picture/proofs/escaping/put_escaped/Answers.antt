use Rattle.picture.specs.Escaping.{escaped_byte}
use Rattle.picture.proofs.Appending.{one_more}
use Rattle.picture.proofs.escaping.put_escaped.Goals as goal

pub loop-byte-preserved : goal.loop-byte-preserved
loop-byte-preserved c =
    one_more escaped_byte c.args.name.now c.loop-byte.byte-index _ c.args.out.now.items
    c.loop-byte.out.items c.put_byte.new.out.items c.loop-byte-test.true c.loop-byte.invariant
    c.in_ok-put_byte.ensures
