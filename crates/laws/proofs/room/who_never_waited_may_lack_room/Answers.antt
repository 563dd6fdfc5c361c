use Rattle.std.proofs.Common.{refl}
use Rattle.laws.proofs.Broken.{full_fits, leaving_unseen_illegal, leaving_unseen_uneven}
use Rattle.laws.proofs.room.who_never_waited_may_lack_room.Goals as goal

pub returns : goal.returns
returns c =
    record {
      fits = full_fits;
      owed = refl;
      lacks = refl;
      uneven = leaving_unseen_uneven;
      illegal = leaving_unseen_illegal;
    }
