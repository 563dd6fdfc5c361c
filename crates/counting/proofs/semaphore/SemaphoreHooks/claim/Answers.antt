use Rattle.std.proofs.Common.{◌≡◌, true, false, ap, sym, ◌∙◌, rules}
use Rattle.history.specs.Object.{is_latch, is_lock}
use Rattle.history.specs.declared.header.Object.TheVariants.{ReadWrite, Semaphore}
use Rattle.counting.proofs.semaphore.SemaphoreHooks.claim.Goals as goal

pub returns : goal.returns
returns c k who h =
    let s = c.args.self.now in
    record {
      object = h.object ∙ sym c.object.ensures;
      owns = λ e. (let no : false ≡ true = ap is_lock (sym h.object) ∙ e in cc);
      admitted = λ e. (let no : false ≡ true = ap is_lock (sym h.object) ∙ e in cc);
      own = λ e. (let no : false ≡ true = ap is_lock (sym h.object) ∙ e in cc);
      reads = λ p e. (let no : Semaphore s.policy s.permits ≡ ReadWrite p = sym h.object ∙ e in cc);
      readers = λ p e. (let no : Semaphore s.policy s.permits ≡ ReadWrite p = sym h.object ∙ e in cc);
      free = λ _. (let level = h.level in search rules);
      count = λ e. (let no : false ≡ true = ap is_latch (sym h.object) ∙ e in cc);
    }
