use Rattle.driver.specs.Below.{Memory}
use Rattle.streams.proofs.Faults.{err_is}
use Rattle.driver.proofs.Audits.{is_told}
use Rattle.driver.proofs.tell_stream.told_of.Goals as goal

pub returns-in_err-text-clause-err : goal.returns-in_err-text-clause-err
returns-in_err-text-clause-err g c =
    let passed = c.from_residual-in_err-text in
    rw (err_is passed.result Memory passed.ensures) c.in_ok-judged.ensures.memory

pub text_of-requires : goal.text_of-requires
text_of-requires g c =
    record { history = c.in_ok-judged.ensures.ok.history; judged = c.in_ok-judged.ensures.ok.judged }

pub returns-clause-ok : goal.returns-clause-ok
returns-clause-ok g c =
    is_told c.args.telling (g.R.Source.left c.args.reader.now) c.in_ok-judged.judged c.verdict-verdict.result
    c.in_ok-text.text.items c.in_ok-judged.ensures.ok c.verdict-verdict.ensures c.in_ok-text.ensures
