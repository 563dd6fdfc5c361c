use Rattle.laws.proofs.Woken.{is_named}
use Rattle.laws.proofs.waking.nobody_is_woken_for_nothing.Goals as goal

pub returns : goal.returns
returns c =
    record {
      ready = λ k h e i n. (is_named k h e i n).0;
      before = λ k h e i n. (is_named k h e i n).1;
      other = λ k h e i n. (is_named k h e i n).2;
    }
