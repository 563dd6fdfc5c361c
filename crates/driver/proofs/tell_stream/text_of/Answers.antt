use Rattle.driver.specs.Prelude.{Telling}
use Rattle.driver.specs.inner.Judged.{IsJudged}
use Rattle.std.proofs.Common.{subst}
use Rattle.driver.proofs.Judging.{if_any}
use Rattle.driver.proofs.tell_stream.text_of.Goals as goal

pub audited_text-requires : goal.audited_text-requires
audited_text-requires c =
    let k = c.requires in
    record {
      history = k.history;
      judged = subst (λ (t : Telling). IsJudged t k.history c.args.judged) c.in-Audit.is k.judged;
    }

pub summed_text-requires : goal.summed_text-requires
summed_text-requires c =
    let k = c.requires in
    record {
      history = k.history;
      judged = subst (λ (t : Telling). IsJudged t k.history c.args.judged) c.in-Summary.is k.judged;
    }

pub drawn_text-requires : goal.drawn_text-requires
drawn_text-requires c =
    record { telling = c.args.telling; history = c.requires.history; judged = c.requires.judged }

pub paged_text-requires : goal.paged_text-requires
paged_text-requires c =
    record { telling = c.args.telling; history = c.requires.history; judged = c.requires.judged }

pub explained-requires : goal.explained-requires
explained-requires c =
    record { telling = c.args.telling; history = c.requires.history; judged = c.requires.judged }

pub returns-in-Audit : goal.returns-in-Audit
returns-in-Audit c = rw c.in-Audit.is c.audited_text.ensures

pub returns-in-Draw : goal.returns-in-Draw
returns-in-Draw c = rw c.in-Draw.is (if_any c.drawn_text.result (λ text h k. tt))

pub returns-in-Page : goal.returns-in-Page
returns-in-Page c = rw c.in-Page.is (if_any c.paged_text.result (λ text h k. tt))

pub returns-in-Explain : goal.returns-in-Explain
returns-in-Explain c = rw c.in-Explain.is (if_any c.explained.result (λ text h k. tt))

pub returns-in-Summary : goal.returns-in-Summary
returns-in-Summary c = rw c.in-Summary.is (if_any c.summed_text.result (λ text h k. tt))
