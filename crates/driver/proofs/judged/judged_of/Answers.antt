use Rattle.std.proofs.Common.{◌≡◌, ◌<◌, ◌∙◌, ap, arith, reverse, subst, sym, IfSome}
use Rattle.std.specs.List.{All}
use Rattle.streams.proofs.Faults.{err_is}
use Rattle.driver.specs.Below.{Memory, Header, Base, IsJudgement, IsHistoryText, based, calls}
use Rattle.driver.specs.Prelude.{base_held}
use Rattle.driver.proofs.Judging.{base_kept, sums_sound}
use Rattle.driver.proofs.judged.judged_of.Goals as goal

pub returns-in_err-following-clause-err : goal.returns-in_err-following-clause-err
returns-in_err-following-clause-err g c =
    let passed = c.from_residual-in_err-following in
    rw (err_is passed.result c.in_err-following.field-0.0 passed.ensures)
    (c.in_err-following.ensures.err (g.R.Source.left c.args.reader.now) c.in_ok-entries.ensures.ok)

pub returns-in_err-base-clause-err : goal.returns-in_err-base-clause-err
returns-in_err-base-clause-err g c =
    let passed = c.from_residual-in_err-base in
    rw (err_is passed.result Memory passed.ensures)
    (c.in_ok-following.ensures.memory (g.R.Source.left c.args.reader.now) c.in_ok-entries.ensures.ok)

pub returns-clause-memory : goal.returns-clause-memory
returns-clause-memory g c =
    c.in_ok-following.ensures.memory (g.R.Source.left c.args.reader.now) c.in_ok-entries.ensures.ok

pub judgement-requires : goal.judgement-requires
judgement-requires g c =
    let k = c.in_ok-following.ensures.ok in
    record {
      start = based (base_held c.in_ok-entries.entries);
      entries = k.entries;
      judged = k.follows.judged;
      room = k.few;
    }

pub returns-clause-ok : goal.returns-clause-ok
returns-clause-ok g c =
    let left = g.R.Source.left c.args.reader.now in
    let first = c.in_ok-entries.entries in
    let k = c.in_ok-following.ensures.ok in
    let f = c.in_ok-following.following in
    let b = c.in_ok-base.base in
    let base : b ≡ base_held first = c.in_ok-base.ensures.base ∙ base_kept first c.follow_all.new.entries k.header k.base in
    record {
      history = k.entries;
      judged = record {
        range = c.in_ok-base.ensures.range;
        good = c.in_ok-base.ensures.good;
        judged = subst (λ (x : Base). IsJudgement (based x) k.entries c.judgement.result) (sym base)
            (c.judgement.ensures (based (base_held first)) k.entries k.follows.judged);
        count = c.count-count.ensures.value ∙ k.count;
        calls = c.calls-calls.ensures ∙ k.calls ∙ ap (λ (x : Base). calls (based x) k.entries) (sym base);
        most = f.most;
        front = k.follows.front;
        seated = subst (λ (x : Base). All (λ e. e.seat < (based x).header.seats) f.kept.items) (sym base)
            k.follows.seated;
        few = k.few;
        within = omega (
          arith,
          c.count-count.ensures.few,
          c.count-count.ensures.value,
          k.count,
          ap (λ (x : Header). x.cap) c.in_ok-base.ensures.header,
        );
        sums = sums_sound _ _ f.summing k.follows.sums;
        summing = k.summing;
      };
      is = subst (λ (x : Base). IfSome left (λ t. IsHistoryText t x (reverse k.entries))) (sym base)
          (k.is left c.in_ok-entries.ensures.ok);
    }
