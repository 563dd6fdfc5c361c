use Rattle.std.proofs.Common.{◌≡◌, ◌+◌, ◌^◌, ◌<◌, ◌≤◌, ◌∙◌, length, sym, subst, arith}
use Rattle.std.proofs.lemmas.List.{length-map}
use Rattle.frame.specs.Below.{based, base_on, MayFold, IsLegal, AreSeated, AreTold, StandInLine, IsInOrder, IsFairOrder, owed}
use Rattle.history.proofs.GoodBases.{good_waits}
use Rattle.history.proofs.Passing.{fair_order, in_order_from}
use Rattle.frame.specs.Prelude.{Seat, CoreView, marks_of, start_of}
use Rattle.frame.proofs.Telling.{marks_seen}
use Rattle.frame.proofs.machine.Core.recall_lawful.Goals as goal

pub returns : goal.returns
returns g c =
    let a = c.self.inside in
    let h = a.history.entries in
    let s = c.self.invariant in
    let b = base_on a.header a.history in
    let can = s.may_fold.can in
    let t = a.seats.items in
    let seen = sym (marks_seen a.header a.history t) in
    let P : CoreView → Type 0 = λ v. record {
      header : v.base.header ≡ v.header;
      may_fold : MayFold v.base v.entries;
      legal : IsLegal (start_of v) v.entries;
      seated : AreSeated (start_of v) v.entries;
      order : IsInOrder (start_of v) v.entries;
      fair : IsFairOrder (start_of v) v.entries;
      room : length v.entries + owed (start_of v) v.entries ≤ v.header.cap;
      reserved : length v.entries + owed (start_of v) v.entries ≤ v.places;
      short : length v.entries < 2 ^ 32;
      told : AreTold (start_of v) v.entries (marks_of v);
      stand : StandInLine (start_of v) v.entries (marks_of v);
      marks : length v.told ≡ v.header.seats;
    } in
    subst P c.self.view_is (record {
      header = s.based;
      may_fold = s.may_fold;
      legal = can.legal;
      seated = can.seated;
      order = in_order_from (based b) h (good_waits b can.good) can.legal;
      fair = fair_order (based b) h can.legal;
      room = let o = s.owed in let r = s.room in omega (arith, o, r);
      reserved =
          let o = s.owed in
          let r = c.owed-owed.ensures.reserved in
          let n = c.owed-owed.ensures.value in
          omega (arith, o, r, n);
      short = let r = s.room in let k = s.range.cap in omega (arith, r, k);
      told = subst (AreTold (based b) h) seen s.told.told;
      stand = subst (StandInLine (based b) h) seen s.told.stand;
      marks = length-map t (λ (x : Seat). x.told) ∙ s.seats;
    })
