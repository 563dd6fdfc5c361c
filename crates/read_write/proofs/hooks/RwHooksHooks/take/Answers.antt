use Rattle.std.proofs.Common.{ℕ, ◌+◌, ◌<◌, ◌∙◌, sym, subst, refl, arith, rules}
use Rattle.history.specs.declared.entry.Mode.TheVariants.{S}
use Rattle.read_write.specs.State.{state_of}
use Rattle.read_write.proofs.Reading.{IsSound, sound_of, takes_write, takes_read, may_write, may_read}
use Rattle.read_write.proofs.Changing.{sound_wrote, stands_wrote, sound_read, same_place, room_for_read}
use Rattle.read_write.proofs.Going.{wrote_alone, wrote_nobody, read_nobody, read_shared, read_last, read_answer}
use Rattle.read_write.proofs.hooks.RwHooksHooks.take.Goals as goal

pub overflow_add-self : goal.overflow_add-self
overflow_add-self c =
    let s = c.args.self.now in
    let r = c.requires in
    let now_could =
    takes_write (state_of s) r.0 (sound_of s) r.1 c.args.who c.args.mode c.args._n c.in-X.is r.3 in
    let may = may_write (state_of s) c.args.who (sound_of s) now_could in
    omega (arith, may.below)

pub invariant_of-self : goal.invariant_of-self
invariant_of-self c =
    let s = c.args.self.now in
    let r = c.requires in
    let now_could =
    takes_write (state_of s) r.0 (sound_of s) r.1 c.args.who c.args.mode c.args._n c.in-X.is r.3 in
    let may = may_write (state_of s) c.args.who (sound_of s) now_could in
    let P : ℕ → Type 0 = λ seats. c.args.who < seats in
    let seat = subst P r.1.seats r.2 in
    let now = sound_wrote (state_of s) c.args.who (sound_of s) may seat in
    record { owned = now.owned; seated = now.seated; summed = now.summed }

pub overflow_add-index_mut : goal.overflow_add-index_mut
overflow_add-index_mut c =
    let s = c.args.self.now in
    let r = c.requires in
    let now_could =
    takes_read (state_of s) r.0 (sound_of s) r.1 c.args.who c.args.mode c.args._n c.in-S.is r.3 in
    let may = may_read (state_of s) c.args.who now_could in
    let P : ℕ → Type 0 = λ seats. c.args.who < seats in
    let seat = subst P r.1.seats r.2 in
    let room =
    room_for_read (state_of s) c.args.who c.from.result c.index_mut.result.now (sound_of s)
    c.from.ensures c.index_mut.ensures.value seat may.below in
    omega (arith, room)

pub overflow_add-self-in-S : goal.overflow_add-self-in-S
overflow_add-self-in-S c =
    let s = c.args.self.now in
    let r = c.requires in
    let now_could =
    takes_read (state_of s) r.0 (sound_of s) r.1 c.args.who c.args.mode c.args._n c.in-S.is r.3 in
    let may = may_read (state_of s) c.args.who now_could in
    omega (arith, may.below)

pub invariant_of-self-in-S : goal.invariant_of-self-in-S
invariant_of-self-in-S c =
    let s = c.args.self.now in
    let r = c.requires in
    let now_could =
    takes_read (state_of s) r.0 (sound_of s) r.1 c.args.who c.args.mode c.args._n c.in-S.is r.3 in
    let may = may_read (state_of s) c.args.who now_could in
    let P : ℕ → Type 0 = λ seats. c.args.who < seats in
    let seat = subst P r.1.seats r.2 in
    let more : ℕ → ℕ = λ had. had + 1 in
    let same =
    same_place (state_of s) c.args.who c.from.result c.index_mut.result.now c.from.ensures
    c.index_mut.ensures.value seat more (s.readers + 1) in
    let now = subst IsSound same (sound_read (state_of s) c.args.who (sound_of s) seat) in
    record { owned = now.owned; seated = now.seated; summed = now.summed }

pub returns-in-X-clause-taken : goal.returns-in-X-clause-taken
returns-in-X-clause-taken c k h seat =
    let s = c.args.self.now in
    let r = c.requires in
    let now_could =
    takes_write (state_of s) r.0 (sound_of s) r.1 c.args.who c.args.mode c.args._n c.in-X.is r.3 in
    let may = may_write (state_of s) c.args.who (sound_of s) now_could in
    rw c.in-X.is (stands_wrote (state_of s) k (sound_of s) h c.args.who c.args._n may seat)

pub returns-in-X-clause-alone : goal.returns-in-X-clause-alone
returns-in-X-clause-alone c _ k h seat m j b _ _ ne =
    let s = c.args.self.now in
    let r = c.requires in
    let now_could =
    takes_write (state_of s) r.0 (sound_of s) r.1 c.args.who c.args.mode c.args._n c.in-X.is r.3 in
    let may = may_write (state_of s) c.args.who (sound_of s) now_could in
    rw c.in-X.is (wrote_alone (state_of s) k (sound_of s) h c.args.who c.args._n may seat j m b ne)

pub returns-in-X-clause-nobody : goal.returns-in-X-clause-nobody
returns-in-X-clause-nobody c k h seat j m b _ _ f =
    let s = c.args.self.now in
    let r = c.requires in
    let now_could =
    takes_write (state_of s) r.0 (sound_of s) r.1 c.args.who c.args.mode c.args._n c.in-X.is r.3 in
    let may = may_write (state_of s) c.args.who (sound_of s) now_could in
    rw c.in-X.is (wrote_nobody (state_of s) k (sound_of s) h c.args.who c.args._n may now_could seat j m b f)

pub returns-in-X-clause-last : goal.returns-in-X-clause-last
returns-in-X-clause-last c _ k h seat j b _ _ ne =
    let s = c.args.self.now in
    let r = c.requires in
    let now_could =
    takes_write (state_of s) r.0 (sound_of s) r.1 c.args.who c.args.mode c.args._n c.in-X.is r.3 in
    let may = may_write (state_of s) c.args.who (sound_of s) now_could in
    rw c.in-X.is (wrote_alone (state_of s) k (sound_of s) h c.args.who c.args._n may seat j S b ne)

pub returns-then-is_last_read-clause-answer : goal.returns-then-is_last_read-clause-answer
returns-then-is_last_read-clause-answer c k h seat =
    let s = c.args.self.now in
    let e = read_answer (state_of s) k (sound_of s) h c.args.who c.args._n seat in
    sym (rw c.in-S.is (e ∙ rw (← c.is_last_read.ensures, c.if-is_last_read.true) refl))

pub returns-else-is_last_read-clause-answer : goal.returns-else-is_last_read-clause-answer
returns-else-is_last_read-clause-answer c k h seat =
    let s = c.args.self.now in
    let e = read_answer (state_of s) k (sound_of s) h c.args.who c.args._n seat in
    sym (rw c.in-S.is (e ∙ rw (← c.is_last_read.ensures, c.if-is_last_read.false) refl))

pub returns-then-is_last_read-clause-nobody : goal.returns-then-is_last_read-clause-nobody
returns-then-is_last_read-clause-nobody c k h seat j m b _ _ f =
    let s = c.args.self.now in
    rw c.in-S.is (read_nobody (state_of s) k (sound_of s) h c.args.who c.args._n seat j m b f)

pub returns-then-is_last_read-clause-shared : goal.returns-then-is_last_read-clause-shared
returns-then-is_last_read-clause-shared c _ k h seat j b _ _ ne =
    let s = c.args.self.now in
    let r = c.requires in
    let now_could =
    takes_read (state_of s) r.0 (sound_of s) r.1 c.args.who c.args.mode c.args._n c.in-S.is r.3 in
    let may = may_read (state_of s) c.args.who now_could in
    rw c.in-S.is (read_shared (state_of s) k (sound_of s) h c.args.who c.args._n may seat j b ne)

pub returns-else-is_last_read-clause-nobody : goal.returns-else-is_last_read-clause-nobody
returns-else-is_last_read-clause-nobody c k h seat j m b _ _ f =
    let s = c.args.self.now in
    rw c.in-S.is (read_nobody (state_of s) k (sound_of s) h c.args.who c.args._n seat j m b f)

pub returns-else-is_last_read-clause-shared : goal.returns-else-is_last_read-clause-shared
returns-else-is_last_read-clause-shared c _ k h seat j b _ _ ne =
    let s = c.args.self.now in
    let r = c.requires in
    let now_could =
    takes_read (state_of s) r.0 (sound_of s) r.1 c.args.who c.args.mode c.args._n c.in-S.is r.3 in
    let may = may_read (state_of s) c.args.who now_could in
    rw c.in-S.is (read_shared (state_of s) k (sound_of s) h c.args.who c.args._n may seat j b ne)

pub returns-then-is_last_read-clause-last : goal.returns-then-is_last_read-clause-last
returns-then-is_last_read-clause-last c _ k h seat j b _ _ ne =
    let s = c.args.self.now in
    let last = sym c.is_last_read.ensures ∙ c.if-is_last_read.true in
    rw c.in-S.is (read_last (state_of s) k (sound_of s) h c.args.who c.args._n last seat j b ne)

pub returns-else-is_last_read-clause-last : goal.returns-else-is_last_read-clause-last
returns-else-is_last_read-clause-last c = search rules
