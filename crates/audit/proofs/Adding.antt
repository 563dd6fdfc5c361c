-- What an object comes to, as the numbers of its kind.
use Rattle.std.proofs.Common.{◌≡◌, ℕ, true, List, refl, ap, ◌∙◌, sym, arith, ℤ, pos, ◌+ℤ◌, ◌-ℤ◌}
use Rattle.std.proofs.lemmas.Int.{ints}
use Rattle.audit.specs.Below.{Entry, Object, Lock, ReadWrite, Semaphore, Latch, Policy, permits_held, free, unheld, created, is_semaphore, Start, Balance, balance, IsHistory}
use Rattle.deciding.proofs.Bounds.{conserved_by}
use Rattle.audit.specs.declared.sums.Totals.{Totals}
use Rattle.audit.specs.Totals.{no_totals, numbers_of, semaphore_numbers, totals_by, totals_of}

-- the numbers of a history's balance are its totals
module _ (s : Start) (h : List Entry) where
  beyond_created : (t u : ℕ) (f c : ℤ) → pos t +ℤ f ≡ c +ℤ pos u → (pos t +ℤ f) -ℤ c ≡ pos u
  beyond_created t u f c same = omega (arith, ints)

  semaphore_adds : (p : Policy) (n : ℤ) → IsHistory s h → s.header.object ≡ Semaphore p n →
      semaphore_numbers n (balance s h) ≡ totals_by (Semaphore p n) s h
  semaphore_adds p n past object =
      let semaphore : is_semaphore s.header.object ≡ true = ap is_semaphore object in
      let kept = conserved_by s h past semaphore in
      let frees : (balance s h).available ≡ free s h = rw semaphore refl in
      let made : created s.header.object ≡ n = ap created object in
      let more : (pos (balance s h).shared +ℤ (balance s h).available) -ℤ n ≡ pos (unheld s h) =
      beyond_created (permits_held s h) (unheld s h) (balance s h).available n
      (ap (λ z. pos (permits_held s h) +ℤ z) frees ∙ kept ∙ ap (λ z. z +ℤ pos (unheld s h)) made) in
      ap (λ z. (let t : Totals = record (semaphore_numbers n (balance s h)) { unheld = z } in t)) more
      ∙ ap (λ z. (let t : Totals = record no_totals {
        line = pos (balance s h).line;
        held = pos (permits_held s h);
        free = z;
        created = n;
        unheld = pos (unheld s h);
      } in t)) frees

  kinds_add : (o : Object) → IsHistory s h → s.header.object ≡ o → numbers_of o (balance s h) ≡ totals_by o s h
  kinds_add (Lock p) past object = refl
  kinds_add (ReadWrite p) past object = refl
  kinds_add (Semaphore p n) past object = semaphore_adds p n past object
  kinds_add (Latch n) past object = refl

  pub numbers_add : (o : Object) (b : Balance) → IsHistory s h → s.header.object ≡ o → b ≡ balance s h →
      numbers_of o b ≡ totals_of s h
  numbers_add o b past object is =
      ap (numbers_of o) is ∙ kinds_add o past object ∙ ap (λ k. totals_by k s h) (sym object)
