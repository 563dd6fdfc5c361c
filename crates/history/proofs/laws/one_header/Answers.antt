use Rattle.history.specs.inner.HeaderReading.{header_at}
use Rattle.history.specs.Spelling.{part_of}
use Rattle.history.proofs.PartLemmas.{part_again}
use Rattle.history.proofs.Readers.{same_value}
use Rattle.history.proofs.laws.one_header.Goals as goal

pub returns : goal.returns
returns c g h fits_g fits_h same =
    same_value header_at (part_of g) (part_of h) g h (part_again g fits_g) (part_again h fits_h) same
