use Rattle.std.proofs.Common.{sym}
use Rattle.laws.proofs.OnBases.{after_fold}
use Rattle.history.proofs.Alike.{away_alike, owed_alike, phase_alike}
use Rattle.laws.proofs.bases.a_base_stands_for_its_entries.Goals as goal

pub returns : goal.returns
returns c =
    record {
      held = λ b g h can. sym (after_fold b g h can).holds;
      unheld = λ b g h can. sym (after_fold b g h can).released;
      free = λ b g h can t. sym ((after_fold b g h can).permits t);
      count = λ b g h can. sym (after_fold b g h can).left;
      line = λ b g h can. sym (after_fold b g h can).stand;
      sleepers = λ b g h can. sym (after_fold b g h can).asleep;
      last_sleep = λ b g h i can away. sym (away_alike _ _ _ _ _ (after_fold b g h can) i away);
      phase = λ b g h i can. sym (phase_alike _ _ _ _ _ (after_fold b g h can) i);
      calls = λ b g h can. sym (after_fold b g h can).ended;
      owed = λ b g h can. sym (owed_alike _ _ _ _ _ (after_fold b g h can));
    }
