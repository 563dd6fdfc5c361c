use Rattle.std.proofs.Common.{◌≡◌, ◌∙◌, ℕ, ◌<◌, get_or, ap, sym, subst, arith, rules, tests, is_some}
use Rattle.std.specs.List.{list_any}
use Rattle.std.proofs.lemmas.Iterator.{YieldsList-from_slice}
use Rattle.std.proofs.lemmas.Iterator.Search.{any_from_yields_List}
use Rattle.frame.specs.Below.{Header, counts, owner, start_on}
use Rattle.frame.specs.Prelude.{CoreView, start_of, IsSeat, no_holds}
use Rattle.frame.proofs.Bounds.{holds_exclusively, held_by_any}
use Rattle.frame.proofs.machine.Core.is_held.Goals as goal

pub returns : goal.returns
returns g c =
    let a = c.self.inside in
    let s = c.self.invariant in
    let any : c.any.result ≡ list_any holds_exclusively a.seats.items =
    any_from_yields_List holds_exclusively _ _ _ c.any.ensures.ran
    (YieldsList-from_slice a.seats.items (c.iter.ensures.rest ∙ c.deref.ensures.value))
    (λ x b q k. search (rules, tests)) in
    let same = ap (λ (k : Header). k.seats) s.based in
    let seats = s.seats ∙ sym same in
    let tabled : (i : ℕ) → i < (start_on a.header a.history).header.seats →
    IsSeat (start_on a.header a.history) a.history.entries i (get_or a.seats.items i no_holds) =
    λ i l. s.tabled i (omega (arith, l, same)) in
    let P : CoreView → Type 0 = λ v. c.any.result ≡ is_some (owner (counts (start_of v) v.entries)) in
    subst P c.self.view_is (any ∙ held_by_any (start_on a.header a.history) a.history.entries a.seats.items
    seats tabled)
