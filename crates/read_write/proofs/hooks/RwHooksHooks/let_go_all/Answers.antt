use Rattle.std.proofs.Common.{◌≡◌, ltb, true, false, slice_index, ◌∙◌, sym, refl, arith, lt-ltb, le-ltb}
use Rattle.read_write.specs.State.{state_of}
use Rattle.read_write.proofs.Reading.{sound_of, let_go_is}
use Rattle.read_write.proofs.hooks.RwHooksHooks.let_go_all.Goals as goal

pub returns-then-not-owns-clause-answer : goal.returns-then-not-owns-clause-answer
returns-then-not-owns-clause-answer c k h =
    let s = c.args.self.now in
    let e = let_go_is (state_of s) k (sound_of s) h c.args.who in
    sym (e ∙ rw (← c.owns.ensures, c.if-not-owns.true) refl)

pub returns-then-holds-gt0-clause-answer : goal.returns-then-holds-gt0-clause-answer
returns-then-holds-gt0-clause-answer c k h =
    let s = c.args.self.now in
    let e = let_go_is (state_of s) k (sound_of s) h c.args.who in
    let had : c.holds.result ≡ slice_index s.reads.items c.args.who = c.holds.ensures in
    let reads : ltb 0 (slice_index s.reads.items c.args.who) ≡ true =
    lt-ltb _ _ (omega (arith, had, c.if-holds-gt0.true)) in
    sym (e ∙ rw (← c.owns.ensures, c.if-not-owns.false) (rw reads refl))

pub returns-clause-answer : goal.returns-clause-answer
returns-clause-answer c k h =
    let s = c.args.self.now in
    let e = let_go_is (state_of s) k (sound_of s) h c.args.who in
    let had : c.holds.result ≡ slice_index s.reads.items c.args.who = c.holds.ensures in
    let reads : ltb 0 (slice_index s.reads.items c.args.who) ≡ false =
    le-ltb _ _ (omega (arith, had, c.if-holds-gt0.false)) in
    sym (e ∙ rw (← c.owns.ensures, c.if-not-owns.false) (rw reads (rw c.from.ensures refl)))
