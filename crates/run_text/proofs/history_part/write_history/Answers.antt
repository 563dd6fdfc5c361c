use Rattle.std.proofs.Common.{subst, ◌∙◌}
use Rattle.std.specs.Io.KnownBytes.{Appends}
use Rattle.streams.specs.Writing.{AppendsFront}
use Rattle.run_text.proofs.Texts.{history_is, sound_spelt}
use Rattle.run_text.proofs.history_part.write_history.Goals as goal

pub write_between-requires-clause-spelt : goal.write_between-requires-clause-spelt
write_between-requires-clause-spelt g c = sound_spelt c.args.part.now c.requires.sound

pub returns-in-Ok-clause-writes : goal.returns-in-Ok-clause-writes
returns-in-Ok-clause-writes g c =
    subst (Appends _ _) (history_is c.args.part.now c.in_ok-head.head.entries c.deref.result.now c.deref-2.result.now
    (c.deref.ensures.value ∙ c.in_ok-head.ensures.lines) c.in_ok-head.ensures.entries
    (c.deref-2.ensures.value ∙ c.in_ok-end.ensures.ok)) c.in-Ok.ensures.ok

pub returns-clause-writes : goal.returns-clause-writes
returns-clause-writes g c =
    subst (AppendsFront _ _) (history_is c.args.part.now c.in_ok-head.head.entries c.deref.result.now
    c.deref-2.result.now
    (c.deref.ensures.value ∙ c.in_ok-head.ensures.lines) c.in_ok-head.ensures.entries
    (c.deref-2.ensures.value ∙ c.in_ok-end.ensures.ok)) c.in-Err.ensures.err
