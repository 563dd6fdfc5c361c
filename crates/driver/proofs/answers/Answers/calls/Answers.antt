use Rattle.std.proofs.Common.{◌≡◌, ◌<◌, ◌^◌, length, subst, arith}
use Rattle.history.proofs.AllCalls.{calls_told}
use Rattle.driver.specs.Below.{based, calls}
use Rattle.driver.specs.Answers.{AllAnswers}
use Rattle.driver.proofs.answers.Answers.calls.Goals as goal

pub returns : goal.returns
returns c =
    let a = c.self.inside in
    let few : length a.history.entries < 2 ^ 32 = omega (arith, c.len-few.ensures.value, c.len-few.ensures.few) in
    subst (λ (v : AllAnswers). c.calls.result ≡ calls (based v.base) v.entries) c.self.view_is
    (calls_told a.header.header a.history c.calls.result c.self.invariant.1 few c.calls.ensures)
