use Rattle.driver.proofs.judged.sum_up.Goals as goal

pub returns-in-Some-clause-sums : goal.returns-in-Some-clause-sums
returns-in-Some-clause-sums c = λ s h sums seat room legal.
    c.add_legal.ensures s h (rw c.in-Some.is at sums) seat room legal
