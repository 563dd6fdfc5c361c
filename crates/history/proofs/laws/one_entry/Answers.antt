use Rattle.std.proofs.Common.{refl}
use Rattle.history.specs.Prelude.{entry_at, entry_words, line_of}
use Rattle.history.proofs.EntryAgain.{entry_again}
use Rattle.history.proofs.Readers.{same_value}
use Rattle.history.proofs.laws.one_entry.Goals as goal

pub returns : goal.returns
returns c e f written_e written_f seat same =
    same_value (entry_at f.seat) (line_of (entry_words e)) (line_of (entry_words f)) e f
    (entry_again f.seat e written_e seat) (entry_again f.seat f written_f refl) same
