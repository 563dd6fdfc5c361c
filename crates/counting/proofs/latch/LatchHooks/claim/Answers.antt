use Rattle.std.proofs.Common.{◌≡◌, true, false, ap, sym, ◌∙◌}
use Rattle.history.specs.Object.{is_lock, is_semaphore}
use Rattle.history.specs.declared.header.Object.TheVariants.{Latch, ReadWrite}
use Rattle.counting.proofs.latch.LatchHooks.claim.Goals as goal

pub returns : goal.returns
returns c k who h =
    let s = c.args.self.now in
    record {
      object = h.object ∙ sym c.object.ensures;
      owns = λ e. (let no : false ≡ true = ap is_lock (sym h.object) ∙ e in cc);
      admitted = λ e. (let no : false ≡ true = ap is_lock (sym h.object) ∙ e in cc);
      own = λ e. (let no : false ≡ true = ap is_lock (sym h.object) ∙ e in cc);
      reads = λ p e. (let no : Latch s.opening ≡ ReadWrite p = sym h.object ∙ e in cc);
      readers = λ p e. (let no : Latch s.opening ≡ ReadWrite p = sym h.object ∙ e in cc);
      free = λ e. (let no : false ≡ true = ap is_semaphore (sym h.object) ∙ e in cc);
      count = λ _. h.level;
    }
