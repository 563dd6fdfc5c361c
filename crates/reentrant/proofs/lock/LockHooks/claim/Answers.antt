use Rattle.std.proofs.Common.{◌≡◌, true, false, ap, sym, ◌∙◌}
use Rattle.history.specs.Could.{is_none_or, is_seat}
use Rattle.history.specs.Object.{is_latch, is_semaphore}
use Rattle.history.specs.declared.header.Object.TheVariants.{Lock, ReadWrite}
use Rattle.history.specs.declared.limits.TheConstants.{MOST_HOLDS}
use Rattle.frame.proofs.Owners.{owner_is}
use Rattle.reentrant.proofs.lock.LockHooks.claim.Goals as goal

pub returns : goal.returns
returns c k h =
    let s = c.args.self.now in
    let who = c.args.who in
    let owner = owner_is MOST_HOLDS s.owner s.holds k s.owned h.owns in
    record {
      object = h.object ∙ sym c.object.ensures;
      owns = λ _. ap (λ o. is_seat o who) owner ∙ sym c.owns.ensures;
      admitted = λ _. ap (λ o. is_none_or o who) owner ∙ sym c.admits.ensures;
      own = λ _. h.owns.held who ∙ sym c.holds_of.ensures ∙ sym c.from.ensures;
      reads = λ p e. (let no : Lock s.policy ≡ ReadWrite p = sym h.object ∙ e in cc);
      readers = λ p e. (let no : Lock s.policy ≡ ReadWrite p = sym h.object ∙ e in cc);
      free = λ e. (let no : false ≡ true = ap is_semaphore (sym h.object) ∙ e in cc);
      count = λ e. (let no : false ≡ true = ap is_latch (sym h.object) ∙ e in cc);
    }
