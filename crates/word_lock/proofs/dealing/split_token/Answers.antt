use Rattle.std.proofs.Common.{rules}
use Rattle.word_lock.proofs.Splitting.{splits}
use Rattle.word_lock.proofs.dealing.split_token.Goals as goal

pub split_seat-requires : goal.split_seat-requires
split_seat-requires g c =
    let t = g.T.Chronicle in (search rules, search rules, splits t.point t.fact t.sound _ _ _ c.requires.free)
