use Rattle.std.proofs.Common.{◌≡◌, ◌∷◌, ◌∙◌, ap, sym, true, arith}
use Rattle.audit.specs.Below.{Header, is_lock}
use Rattle.audit.proofs.Limits.{one_more, only_owner}
use Rattle.audit.proofs.WaitingFollow.{next_movable}
use Rattle.audit.proofs.ledger.Ledger.follow.Goals as goal

pub note-requires-clause-movable : goal.note-requires-clause-movable
note-requires-clause-movable c =
    let r = c.requires.seat in
    let few = r.room in
    next_movable r.start r.front c.args.entry c.args.self.now r.stand
    (c.requires.next r.start r.front r.stand) r.seat (omega (arith, few))

pub returns : goal.returns
returns c s h st seat =
    let e = c.args.entry in
    let object : s.header.object ≡ c.args.self.now.header.object =
    ap (λ (k : Header). k.object) (sym st.header) in
    let past = one_more s h e st.past (c.requires.next s h st) seat in
    record {
      header = st.header;
      holding = c.note-2.ensures s h st.holding object (λ lock.
          let owned : is_lock s.header.object ≡ true = ap is_lock object ∙ lock in
          (only_owner s h st.past owned, only_owner s (e ∷ h) past owned));
      waits = c.note.ensures s h st.waits st.past;
      numbers = c.note-3.ensures s h st.numbers;
      past = past;
    }
