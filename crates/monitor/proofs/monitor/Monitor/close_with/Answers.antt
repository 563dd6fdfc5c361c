use Rattle.std.proofs.Common.{rules, ◌≡◌, ◌<◌, ◌≤◌, ◌^◌, ℕ, List, [], ◌∷◌, ◌++◌, length, Some, append_assoc, refl, sym, ap, ◌∙◌, subst, arith}
use Rattle.std.specs.List.{All}
use Rattle.std.proofs.lemmas.List.Elements.{All-nil, All-cons}
use Rattle.monitor.specs.Below.{balance, CoreView, Base, based, Header, IsBasedWell, base_on, or_opening, start_on, counts, calls, Point, SeatLog, Before, Agrees, AllAgree, AreDistinct, LockId}
use Rattle.word_lock.proofs.PointLaws.{before_refl}
use Rattle.monitor.specs.Prelude.{point_of, start_at, IsLawful, Shown, IsSound, IsBased, left_by, shares, passes_of}
use Rattle.monitor.proofs.Opening.{shown_as, header_shown}
use Rattle.monitor.proofs.Sections.{all_calls_few}
use Rattle.monitor.proofs.Merging.{log_of, logs_of, all_last, all_seen, all_agree, all_within, seats_below, none_twice, each_once, some_missing, shares_are_calls}
use Rattle.monitor.proofs.monitor.Monitor.close_with.Goals as goal

pub returns-then-len-self-clause-missing : goal.returns-then-len-self-clause-missing
returns-then-len-self-clause-missing g c =
    let seats : c.self.inside.seats ≡ c.args.self.header.seats =
    c.self.invariant.0 ∙ ap (λ (l : LockId). l.header.seats) c.self.view_is in
    let true : All (λ (p : Shown). IsSound p) c.args.passes.items =
    subst (λ (l : List Shown). All (λ p. IsSound p) l) c.deref.ensures.value
    c.merge_shares-share.ensures.shows in
    let few : length c.args.passes.items < c.self.inside.seats = search rules in (
      refl,
      some_missing c.args.self.header.seats c.args.passes.items
          (seats_below c.args.self c.args.passes.items true c.requires.is_of) (omega (arith, few, seats)),
    )

pub loop-pass-init : goal.loop-pass-init
loop-pass-init g c =
    let t = c.into_token-joined.ensures in let p = c.in-Some.last in
    let own = all_last (λ (q : Shown). q.lock ≡ c.args.self) c.args.passes.items c.pop.new.self.items p
    c.in-Some.ensures.items c.requires.is_of in
    let here : All (λ (q : Shown). q.lock ≡ c.self.inside.lock) c.pop.new.self.items =
    subst (λ (k : LockId). All (λ (q : Shown). q.lock ≡ k) c.pop.new.self.items)
    (sym c.self.view_is) own.0 in (
      t.lock.0 ∙ (own.1 ∙ sym c.self.view_is),
      t.lock.1,
      (
        p ∷ [],
        c.in-Some.ensures.items,
        t.log,
        All-cons (λ (q : Shown). Before q.seen c.into_token-joined.result.seen) p []
            (subst (λ (z : Point). Before z c.into_token-joined.result.seen) t.seen
            (before_refl c.into_token-joined.result.seen))
            (All-nil (λ (q : Shown). Before q.seen c.into_token-joined.result.seen)),
      ),
      here,
    )

pub join-joined-requires-clause-own : goal.join-joined-requires-clause-own
join-joined-requires-clause-own g c =
    let own = all_last (λ (q : Shown). q.lock ≡ c.self.inside.lock) c.loop-pass.passes.items
    c.pop-in-loop-pass.new.self.items c.in-Some-pop.pass c.in-Some-pop.ensures.items
    c.loop-pass.invariant.3 in
    (c.into_token.ensures.lock.0 ∙ own.1, c.loop-pass.invariant.0)

pub loop-pass-preserved : goal.loop-pass-preserved
loop-pass-preserved g c =
    let i = c.loop-pass.invariant in let j = c.join-joined.ensures in let p = c.in-Some-pop.pass in
    let t = c.into_token.ensures in let left = c.pop-in-loop-pass.new.self.items in
    let own = all_last (λ (q : Shown). q.lock ≡ c.self.inside.lock) c.loop-pass.passes.items left p
    c.in-Some-pop.ensures.items i.3 in (
      j.token.0,
      j.token.1,
      (
        p ∷ i.2.0,
        i.2.1 ∙ (ap (λ (l : List Shown). l ++ i.2.0) c.in-Some-pop.ensures.items ∙ append_assoc left
            (p ∷ []) i.2.0),
        j.token.2 ∙ (ap (λ (l : List SeatLog). l ++ c.loop-pass.joined.logs) t.log
            ∙ ap (λ (l : List SeatLog). log_of p ∷ l) i.2.2),
        All-cons (λ (q : Shown). Before q.seen c.join-joined.result.seen) p i.2.0
            (subst (λ (z : Point). Before z c.join-joined.result.seen) t.seen j.begins.0)
            (all_seen c.loop-pass.joined.seen c.join-joined.result.seen i.2.0 j.begins.1 i.2.3),
      ),
      own.0,
    )

-- what the passes and the history are to one another
record Ends (lock : LockId) (q : Point) (ps : List Shown) : Type 0 where
  header : q.base.header ≡ lock.header
  lawful : IsLawful q
  seen : All (λ p. Before p.seen q) ps
  agree : All (λ p. Agrees q p.seat p.mine) ps
  each : (i : ℕ) → i < lock.header.seats → passes_of i ps ≡ 1
  calls : shares ps ≡ calls (start_at q) q.entries

left_is : (g : _) (c : goal.After-len-few g) → point_of c.close-kept.result.laden.value.core ≡
    left_by c.args.self c.into_history-history.result
left_is g c =
    shown_as (point_of c.close-kept.result.laden.value.core)
    (base_on c.args.self.header c.into_history-history.result)
    c.into_history-history.result.entries
    (ap (λ (v : CoreView). v.base) (sym c.into_parts-core.ensures.core)
    ∙ sym (ap (or_opening c.args.self.header) c.into_history-history.ensures.base))
    (ap (λ (v : CoreView). v.entries) (sym c.into_parts-core.ensures.core) ∙ sym
    c.into_history-history.ensures.entries)

ends : (g : _) (c : goal.After-len-few g) →
    Ends c.args.self (left_by c.args.self c.into_history-history.result) c.args.passes.items
ends g c =
    let i = c.loop-pass.invariant in let ps : List Shown = c.args.passes.items in
    let all : ps ≡ i.2.0 = search rules in
    let core = point_of c.close-kept.result.laden.value.core in
    let q : Point = left_by c.args.self c.into_history-history.result in
    let is : core ≡ q = left_is g c in
    let header : q.base.header ≡ c.args.self.header =
    ap (λ (z : Point). z.base.header) (sym is) ∙ sym (header_shown core)
    ∙ c.close-kept.ensures.header ∙ ap (λ (l : LockId). l.header) c.self.view_is in
    let logs : c.loop-pass.joined.logs ≡ logs_of ps = i.2.2 ∙ ap logs_of (sym all) in
    let lawful : IsLawful q = subst IsLawful is c.close-kept.ensures.fact.0.lawful in
    let seen : All (λ (p : Shown). Before p.seen c.loop-pass.joined.seen) ps =
    subst (λ (l : List Shown). All (λ p. Before p.seen c.loop-pass.joined.seen) l) (sym all) i.2.3 in
    let agree : All (λ (p : Shown). Agrees q p.seat p.mine) ps =
    all_agree q ps (subst (λ (z : Point). AllAgree z (logs_of ps)) is
    (subst (λ (l : List SeatLog). AllAgree core l) logs c.close-kept.ensures.entries)) in
    let true : All (λ (p : Shown). IsSound p) ps =
    subst (λ (l : List Shown). All (λ p. IsSound p) l) c.deref.ensures.value
    c.merge_shares-share.ensures.shows in
    let seats : c.self.inside.seats ≡ c.args.self.header.seats =
    c.self.invariant.0 ∙ ap (λ (l : LockId). l.header.seats) c.self.view_is in
    let many : c.self.inside.seats ≤ length ps = search rules in
    let each : (i : ℕ) → i < c.args.self.header.seats → passes_of i ps ≡ 1 =
    each_once c.args.self.header.seats ps (seats_below c.args.self ps true c.requires.is_of)
    (none_twice ps (subst AreDistinct logs c.close-kept.ensures.distinct))
    (omega (arith, many, seats)) in record {
      header = header;
      lawful = lawful;
      seen = all_seen c.loop-pass.joined.seen q ps
          (subst (λ (z : Point). Before c.loop-pass.joined.seen z) is c.close-kept.ensures.begins) seen;
      agree = agree;
      each = each;
      calls = shares_are_calls q ps lawful.seated
          (subst (λ (k : Header). All (λ (p : Shown). p.seat < k.seats) ps) (sym header)
          (seats_below c.args.self ps true c.requires.is_of))
          (subst (λ (k : Header). (i : ℕ) → i < k.seats → passes_of i ps ≡ 1) (sym header) each) true agree;
    }

sum_is : (g : _) (c : goal.After-len-few g) → c.merge_shares-share.result ≡
    calls (start_on c.args.self.header c.into_history-history.result) c.into_history-history.result.entries
sum_is g c = c.merge_shares-share.ensures.sum ∙ (ap shares c.deref.ensures.value ∙ (ends g c).calls)

pub overflow_cast-closed : goal.overflow_cast-closed
overflow_cast-closed g c =
    let sum = sum_is g c in
    let most = all_calls_few (left_by c.args.self c.into_history-history.result) (ends g c).lawful in
    let v = c.len-few.ensures.value in let f = c.len-few.ensures.few in
    let small : c.merge_shares-share.result < 2 ^ 64 = omega (arith, sum, most, v, f) in search rules

has_base : (g : _) (c : goal.After-len-few g) → IsBased c.args.self c.into_history-history.result
has_base g c =
    let some : c.into_history-history.result.base
    ≡ Some (base_on c.args.self.header c.into_history-history.result) =
    c.into_history-history.ensures.base
    ∙ ap Some (sym (ap (or_opening c.args.self.header) c.into_history-history.ensures.base)) in
    (some, (ends g c).header)

cap_is : (g : _) (c : goal.After-len-few g) → c.into_history-history.result.cap ≡ c.args.self.header.cap
cap_is g c =
    let header = c.close-kept.ensures.header ∙ ap (λ (l : LockId). l.header) c.self.view_is in
    let is : c.into_parts-core.result.0.header ≡ c.close-kept.result.laden.value.core.header =
    ap (λ (v : CoreView). v.header) c.into_parts-core.ensures.core in
    c.into_history-history.ensures.cap
    ∙ ap (λ (k : Header). k.cap)
    (is ∙ (sym c.close-kept.ensures.fact.0.header ∙ sym (header_shown (point_of c.close-kept.result.laden.value.core))
    ∙ header))

-- the numbers of the core are those of the history that it leaves
balance_is : (g : _) (c : goal.After-len-few g) → c.balance-balance.result ≡
    balance (start_on c.args.self.header c.into_history-history.result) c.into_history-history.result.entries
balance_is g c =
    let k = c.args.self.header in
    let kept = c.into_history-history.result in
    let core = c.into_parts-core.result.0 in
    c.balance-balance.ensures.balance
    ∙ (ap (λ (b : Base). balance (based b) core.entries)
    (sym (ap (or_opening k) c.into_history-history.ensures.base))
    ∙ ap (balance (start_on k kept)) (sym c.into_history-history.ensures.entries))

pub returns-clause-closes : goal.returns-clause-closes
returns-clause-closes g c =
    let e = ends g c in
    let based = has_base g c in
    record {
      each = e.each;
      cap = cap_is g c;
      based = based;
      good = subst (IsBasedWell c.args.self.header) (sym based.0) (based.1, e.lawful.may_fold.can.good);
      seated = e.lawful.seated;
      lawful = e.lawful;
      within = all_within _ _ e.seen e.agree;
      share = search rules;
      calls = sum_is g c;
      balance = balance_is g c;
      exclusive = c.balance-balance.ensures.exclusive;
      shared = c.balance-balance.ensures.shared;
    }

pub returns-clause-rests : goal.returns-clause-rests
returns-clause-rests g c =
    let load = c.close-kept.result.laden.value.load in
    subst (λ l. g.L.Load.rests l (counts (start_on c.args.self.header c.into_history-history.result)
    c.into_history-history.result.entries)) (sym c.into_parts-core.ensures.load)
    (subst (λ (z : Point). g.L.Load.rests load (counts (start_at z) z.entries)) (left_is g c)
    c.close-kept.ensures.fact.1)
