-- The totals of a history.
use Rattle.std.specs.Prelude.{List, length, ℤ, pos, ◌+ℤ◌, ◌-ℤ◌}
use Rattle.audit.specs.Below.{Entry, X, S, Object, Lock, ReadWrite, Semaphore, Latch, count, free, held, total, unheld, line, sleepers, Start, Balance}
use Rattle.audit.specs.declared.sums.Totals.{Totals}

abbrev pub no_totals : Totals
no_totals =
    record {
      x = pos 0;
      s = pos 0;
      line = pos 0;
      sleepers = pos 0;
      held = pos 0;
      free = pos 0;
      created = pos 0;
      unheld = pos 0;
      count = pos 0;
    }

abbrev pub lock_totals : Start → List Entry → Totals
lock_totals s h =
    record no_totals {
      x = pos (total s.header.seats (λ i. held s h i X));
      s = pos (total s.header.seats (λ i. held s h i S));
      line = pos (length (line s h));
      sleepers = pos (total s.header.conditions (λ c. length (sleepers s h c)));
    }

-- the numbers of the object's kind, and 0 for the others
abbrev pub totals_by : Object → Start → List Entry → Totals
totals_by (Lock policy) s h = lock_totals s h
totals_by (ReadWrite policy) s h = lock_totals s h
totals_by (Semaphore policy permits) s h =
    record no_totals {
      line = pos (length (line s h));
      held = pos (total s.header.seats (λ i. held s h i S));
      free = free s h;
      created = permits;
      unheld = pos (unheld s h);
    }
totals_by (Latch opening) s h = record no_totals { line = pos (length (line s h)); count = pos (count s h) }

abbrev pub totals_of : Start → List Entry → Totals
totals_of s h = totals_by s.header.object s h

-- the numbers of a balance as the totals of an object of this kind
abbrev pub lock_numbers : Balance → Totals
lock_numbers b =
    record no_totals {
      x = pos b.exclusive;
      s = pos b.shared;
      line = pos b.line;
      sleepers = pos b.sleepers;
    }

abbrev pub semaphore_numbers : ℤ → Balance → Totals
semaphore_numbers permits b =
    record no_totals {
      line = pos b.line;
      held = pos b.shared;
      free = b.available;
      created = permits;
      unheld = (pos b.shared +ℤ b.available) -ℤ permits;
    }

abbrev pub latch_numbers : Balance → Totals
latch_numbers b = record no_totals { line = pos b.line; count = pos b.count }

abbrev pub numbers_of : Object → Balance → Totals
numbers_of (Lock policy) b = lock_numbers b
numbers_of (ReadWrite policy) b = lock_numbers b
numbers_of (Semaphore policy permits) b = semaphore_numbers permits b
numbers_of (Latch opening) b = latch_numbers b
