use Rattle.std.proofs.Common.{◌≡◌, true, false, ap, sym, ltb, ◌∙◌}
use Rattle.history.specs.Object.{is_latch, is_semaphore}
use Rattle.read_write.specs.Below.{is_none_or, is_seat}
use Rattle.read_write.specs.State.{state_of}
use Rattle.read_write.proofs.Reading.{owner_of, readers_of, sound_of}
use Rattle.read_write.proofs.hooks.RwHooks.claim.Goals as goal

pub returns : goal.returns
returns c k h =
    let s = c.args.self.now in
    let who = c.args.who in
    let owner = owner_of (state_of s) k (sound_of s) h in
    record {
      object = h.object ∙ sym c.object.ensures;
      owns = λ _. ap (λ o. is_seat o who) owner ∙ sym c.owns.ensures;
      admitted = λ _. ap (λ o. is_none_or o who) owner ∙ sym c.admits.ensures;
      own = λ _. h.owns.held who ∙ sym c.holds.ensures ∙ sym c.from.ensures;
      reads = λ p _. ap (λ n. ltb 0 n) (h.shared who ∙ sym c.holds-2.ensures);
      readers = λ p _. readers_of (state_of s) k (sound_of s) h ∙ sym c.from-2.ensures;
      free = λ e. (let no : false ≡ true = ap is_semaphore (sym h.object) ∙ e in cc);
      count = λ e. (let no : false ≡ true = ap is_latch (sym h.object) ∙ e in cc);
    }
