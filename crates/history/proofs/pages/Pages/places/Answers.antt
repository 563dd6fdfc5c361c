use Rattle.std.proofs.Common.{arith}
use Rattle.history.proofs.Paging.{length-used}
use Rattle.history.proofs.pages.Pages.places.Goals as goal

pub returns-clause-few : goal.returns-clause-few
returns-clause-few c =
    let a = c.self.inside in
    let l = length-used a.full a.others.items in
    let f = c.self.invariant.0.few in
    let p = c.self.invariant.2 in
    omega (arith, l, f, p)
