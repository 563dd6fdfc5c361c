use Rattle.read_write.specs.State.{state_of}
use Rattle.read_write.proofs.Reading.{sound_of}
use Rattle.read_write.proofs.Changing.{stands_restored}
use Rattle.read_write.proofs.Going.{restored_alone}
use Rattle.read_write.proofs.hooks.RwHooksHooks.restore.Goals as goal

pub returns-clause-restored : goal.returns-clause-restored
returns-clause-restored c k h r =
    let s = c.args.self.now in
    stands_restored (state_of s) k (sound_of s) h c.args.who c.args.holds r

pub returns-clause-alone : goal.returns-clause-alone
returns-clause-alone c k h r m j b _ _ ne =
    let s = c.args.self.now in
    restored_alone (state_of s) k (sound_of s) h c.args.who c.args.holds r j m b ne
