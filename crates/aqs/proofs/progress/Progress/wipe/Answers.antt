use Rattle.std.proofs.Common.{rules, ◌≡◌, refl}
use Rattle.aqs.proofs.Telling.{wiped}
use Rattle.aqs.proofs.progress.Progress.wipe.Goals as goal

pub returns-then-self-gt0 : goal.returns-then-self-gt0
returns-then-self-gt0 g c =
    let old = c.args.self.now in
    let new = c.put-then-self-gt0-2.new.error in
    let none : old.length ≡ 0 → new ≡ old.error = λ zero. search rules in
    record {
      wiped = record {
        none = none;
        some = λ positive. wiped g.E.Write.contents old.length c.min.result old.error c.put.new.error
            c.put-then-self-gt0.new.error new c.put.ensures c.put-then-self-gt0.ensures
            c.put-then-self-gt0-2.ensures c.min.ensures;
      };
      others = refl;
    }
