use Rattle.std.proofs.Common.{ℕ, ◌≤◌, ◌-◌, ◌∙◌, sym, subst, refl, arith, rules}
use Rattle.history.specs.declared.limits.TheConstants.{MOST_READ_WRITE_HOLDS}
use Rattle.read_write.specs.State.{state_of}
use Rattle.read_write.proofs.Reading.{IsSound, sound_of, gives_write, gives_read}
use Rattle.read_write.proofs.Changing.{reader_seated, readers_some, sound_read_less, same_place}
use Rattle.read_write.proofs.Going.{write_less_kept, read_less_kept, read_less_answer, not_either}
use Rattle.read_write.proofs.hooks.RwHooksHooks.give.Goals as goal

pub returns-then-self-gt0-clause-kept : goal.returns-then-self-gt0-clause-kept
returns-then-self-gt0-clause-kept c _ k h j m b _ _ ne _ =
    let s = c.args.self.now in
    let owns =
    gives_write (state_of s) c.args.who c.args.mode c.holds.result c.holds.ensures c.if-holds-eq0.false
    c.in-X.is in
    rw c.in-X.is (write_less_kept (state_of s) k (sound_of s) h c.args.who c.args._n owns c.if-self-gt0.true
    j m b ne)

pub overflow_sub-self-in-S : goal.overflow_sub-self-in-S
overflow_sub-self-in-S c =
    let s = c.args.self.now in
    let some =
    gives_read (state_of s) c.args.who c.args.mode c.holds.result c.holds.ensures c.if-holds-eq0.false
    c.in-S.is in
    readers_some (state_of s) c.args.who (sound_of s) some

pub invariant_of-self-in-S : goal.invariant_of-self-in-S
invariant_of-self-in-S c =
    let s = c.args.self.now in
    let some =
    gives_read (state_of s) c.args.who c.args.mode c.holds.result c.holds.ensures c.if-holds-eq0.false
    c.in-S.is in
    let seat = reader_seated (state_of s) c.args.who some in
    let less : ℕ → ℕ = λ had. had - 1 in
    let same =
    same_place (state_of s) c.args.who c.from.result c.index_mut.result.now c.from.ensures
    c.index_mut.ensures.value seat less (s.readers - 1) in
    let now = subst IsSound same (sound_read_less (state_of s) c.args.who (sound_of s) seat some) in
    record { owned = now.owned; seated = now.seated; summed = now.summed }

pub returns-then-opens-clause-answer : goal.returns-then-opens-clause-answer
returns-then-opens-clause-answer c k h =
    let s = c.args.self.now in
    let e = read_less_answer (state_of s) k (sound_of s) h c.args.who c.args._n in
    sym (rw c.in-S.is (e ∙ rw (← c.opens_by_read-opens.ensures, c.if-opens.true) refl))

pub returns-else-opens-clause-answer : goal.returns-else-opens-clause-answer
returns-else-opens-clause-answer c k h =
    let s = c.args.self.now in
    let e = read_less_answer (state_of s) k (sound_of s) h c.args.who c.args._n in
    sym (rw c.in-S.is (e ∙ rw (← c.opens_by_read-opens.ensures, c.if-opens.false) refl))

pub returns-else-opens-clause-kept : goal.returns-else-opens-clause-kept
returns-else-opens-clause-kept c _ k h j m b _ _ ne f =
    let s = c.args.self.now in
    let some =
    gives_read (state_of s) c.args.who c.args.mode c.holds.result c.holds.ensures c.if-holds-eq0.false
    c.in-S.is in
    let neither = not_either s.readers (sym c.opens_by_read-opens.ensures ∙ c.if-opens.false) in
    let most : s.readers ≤ MOST_READ_WRITE_HOLDS = omega arith in
    rw c.in-S.is (read_less_kept (state_of s) k (sound_of s) h c.args.who c.args._n some neither.0 neither.1
    most j m b f)

pub returns-then-holds-eq0-clause-word : goal.returns-then-holds-eq0-clause-word
returns-then-holds-eq0-clause-word c = search rules
