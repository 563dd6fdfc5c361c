use Rattle.std.proofs.Common.{◌∷◌, ◌∙◌, arith, rules, sym}
use Rattle.std.proofs.lemmas.Bool.{false≢true}
use Rattle.driver.specs.Below.{IsLegal}
use Rattle.driver.proofs.judged.add_legal.Goals as goal

pub follow-requires : goal.follow-requires
follow-requires c =
    let r = c.requires in
    let legal : IsLegal r.start (c.args.entry ∷ r.entries) = search (rules, r.legal) in
    record {
      start = r.start;
      entries = r.entries;
      summed = r.sums.summed legal.1;
      seat = r.seat;
      next = legal.0;
      room = r.room;
    }

-- with an entry that isn't legal they are as they were
pub returns-then-not-is_legal : goal.returns-then-not-is_legal
returns-then-not-is_legal c = λ s h was seat room legal.
    record {
      summed = λ l. absurd (false≢true (sym c.if-not-is_legal.true ∙ legal.1 l));
      sound = was.sound;
    }

pub returns : goal.returns
returns c = λ s h was seat room legal.
    let l : IsLegal s (c.args.entry ∷ h) = search (rules, legal) in
    let summed = c.follow.ensures s h (was.summed l.1) seat l.0 in
    record {
      summed = λ t. summed;
      sound = record { start = s; entries = c.args.entry ∷ h; summed = summed; few = omega (arith, room) };
    }
