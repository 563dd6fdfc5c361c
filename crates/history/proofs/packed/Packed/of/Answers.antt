use Rattle.std.specs.Prelude.{refl, ◌≡◌, ◌<◌, get_or}
use Rattle.std.proofs.Common.{arith}
use denote.Enum.Declared.{tag_of}
use Rattle.history.specs.Prelude.{Mode, X, S}
use Rattle.history.specs.contracts.entry.End as ends_of
use Rattle.history.specs.contracts.entry.Mode as modes_of
use Rattle.history.specs.declared.entry.End.{End}
use Rattle.history.specs.declared.entry.End.TheVariants.{None, Timeout, Interrupt, Signalled}
use Rattle.history.specs.inner.Packed.{ends, modes}
use Rattle.history.proofs.Packing.{packed_again}
use Rattle.history.proofs.packed.Packed.of.Goals as goal

mode_again : (m : Mode) → get_or modes (tag_of modes_of.the_type m) X ≡ m
mode_again X = refl
mode_again S = refl

end_again : (e : End) → get_or ends (tag_of ends_of.the_type e) None ≡ e
end_again None = refl
end_again Timeout = refl
end_again Interrupt = refl
end_again Signalled = refl

mode_small : (m : Mode) → tag_of modes_of.the_type m < 2
mode_small X = omega (arith)
mode_small S = omega (arith)

end_small : (e : End) → tag_of ends_of.the_type e < 4
end_small None = omega (arith)
end_small Timeout = omega (arith)
end_small Interrupt = omega (arith)
end_small Signalled = omega (arith)

pub returns : goal.returns
returns c =
    packed_again c.args.entry c.word_code.result (tag_of modes_of.the_type c.args.entry.mode)
    (tag_of ends_of.the_type c.args.entry.end) c.word_code.ensures.value (mode_again c.args.entry.mode)
    (mode_small c.args.entry.mode) (end_again c.args.entry.end) (end_small c.args.entry.end)
