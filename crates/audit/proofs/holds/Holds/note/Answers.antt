use Rattle.std.proofs.Common.{◌≡◌, ◌+◌, ◌-◌, sym, set, get_or, refl, ap, ◌∙◌, arith}
use Rattle.std.proofs.lemmas.List.{get_or_read}
use Rattle.audit.specs.Below.{holds_after, is_lock}
use Rattle.audit.specs.inner.Holds.{owner_after}
use Rattle.audit.proofs.HoldsFollow.{stands_exclusive, stands_shared, exclusive_fits, shared_fits}
use Rattle.audit.proofs.holds.Holds.note.Goals as goal

pub holds_after-has-requires : goal.holds_after-has-requires
holds_after-has-requires c =
    let b = c.requires.bounds in
    let e = c.args.entry in
    exclusive_fits b.0 b.1 c.args.self.now c.args.object e.word e.n e.seat c.index-had.result.now b.2 b.3
    (omega arith)
    (get_or_read _ _ _ c.requires.seat.0 c.index-had.ensures 0)

pub holds_after-has-requires-in-S : goal.holds_after-has-requires-in-S
holds_after-has-requires-in-S c =
    let b = c.requires.bounds in
    let e = c.args.entry in
    (shared_fits b.0 b.1 c.args.self.now c.args.object e.word e.n e.seat c.index-had-in-S.result.now b.2
    (omega (arith, c.requires.seat, b.2.exclusive_seats)) b.3 (omega arith)
    (get_or_read _ _ _ c.requires.seat.1 c.index-had-in-S.ensures 0)).0

pub overflow_sub-self : goal.overflow_sub-self
overflow_sub-self c =
    let b = c.requires.bounds in
    let e = c.args.entry in
    (shared_fits b.0 b.1 c.args.self.now c.args.object e.word e.n e.seat c.index-had-in-S.result.now b.2
    (omega (arith, c.requires.seat, b.2.exclusive_seats)) b.3 (omega arith)
    (get_or_read _ _ _ c.requires.seat.1 c.index-had-in-S.ensures 0)).1

pub returns-in-X : goal.returns-in-X
returns-in-X c s h st object only =
    let e = c.args.entry in
    let old = c.args.self.now in
    let had : c.index-had.result.now ≡ get_or old.exclusive.items e.seat 0 =
    get_or_read _ _ _ c.requires.seat.0 c.index-had.ensures 0 in
    let has : c.holds_after-has.result
    ≡ holds_after s.header.object e.word e.n (get_or old.exclusive.items e.seat 0) =
    c.holds_after-has.ensures ∙ ap (λ o. holds_after o e.word e.n c.index-had.result.now) (sym object)
    ∙ ap (holds_after s.header.object e.word e.n) had in
    stands_exclusive s e h old _ st (omega (arith, c.requires.seat, st.exclusive_seats)) c.in-X.is
    (omega arith) (λ l. only (ap is_lock (sym object) ∙ l))
    (ap (set old.exclusive.items e.seat) has) refl
    (c.owner_after-self.ensures ∙ ap (owner_after old.owner e.seat) has) refl

pub returns-in-S : goal.returns-in-S
returns-in-S c s h st object only =
    let e = c.args.entry in
    let old = c.args.self.now in
    let had : c.index-had-in-S.result.now ≡ get_or old.shared.items e.seat 0 =
    get_or_read _ _ _ c.requires.seat.1 c.index-had-in-S.ensures 0 in
    let has : c.holds_after-has-in-S.result
    ≡ holds_after s.header.object e.word e.n (get_or old.shared.items e.seat 0) =
    c.holds_after-has-in-S.ensures
    ∙ ap (λ o. holds_after o e.word e.n c.index-had-in-S.result.now) (sym object)
    ∙ ap (holds_after s.header.object e.word e.n) had in
    stands_shared s e h old _ st (omega (arith, c.requires.seat, st.shared_seats)) c.in-S.is (omega arith)
    (ap (set old.shared.items e.seat) has) refl refl
    (ap (λ n. old.readers - n + c.holds_after-has-in-S.result) had
    ∙ ap (λ n. old.readers - get_or old.shared.items e.seat 0 + n) has)
