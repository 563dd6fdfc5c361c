-- What a history begins from, and that behind it a legal history is one as decisions ask for.
use Rattle.std.proofs.Common.{◌≡◌, [], Option, None, Some, refl, sym}
use Rattle.audit.specs.Below.{Header, Base, based, opening_base, IsBasedWell, or_opening, IsGood, IsInRange, opening, IsHistory}
use Rattle.history.proofs.OpeningBase.{based_opening, opening_good}

pub begins_at_opening : (k : Header) → IsInRange k → IsHistory (opening k) []
begins_at_opening k range =
    record {
      base = opening_base k;
      good = opening_good k range;
      start = sym (based_opening k);
      range = range;
      legal = tt;
      seated = tt;
    }

-- it begins from a good base of the header
pub good_from : (k : Header) (o : Option Base) → IsInRange k → IsBasedWell k o → IsGood (or_opening k o)
good_from k None range based = opening_good k range
good_from k (Some b) range based = based.1

pub header_from : (k : Header) (o : Option Base) → IsBasedWell k o → (or_opening k o).header ≡ k
header_from k None based = refl
header_from k (Some b) based = based.0
