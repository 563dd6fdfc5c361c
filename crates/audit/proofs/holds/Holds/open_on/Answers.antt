use Rattle.std.proofs.Common.{◌∙◌, ℕ, List, length, get_or, ap, arith}
use Rattle.audit.specs.Below.{SeatBase, X, S, Base, nothing, seat_with, total}
use Rattle.deciding.proofs.HeldTables.{readers_are, shared_few, table_length, tabled}
use Rattle.audit.proofs.HoldsOnBase.{stands_on}
use Rattle.audit.proofs.holds.Holds.open_on.Goals as goal

pub sum-readers-requires-clause-each : goal.sum-readers-requires-clause-each
sum-readers-requires-clause-each c i =
    let b = c.args.base.now in
    let seats = ap (λ (x : Base). x.seats) c.base.view_is in
    let table = tabled b S _ _ (c.deref-2.ensures.value ∙ seats) c.in_ok-shared.ensures i in
    let here = ap (λ (t : List ℕ). get_or t i 0) c.deref-3.ensures.value in
    let few = shared_few b c.requires.good i in
    omega (arith, here, table, few)

pub returns-clause-stand : goal.returns-clause-stand
returns-clause-stand c =
    let b = c.args.base.now in
    let good = c.requires.good in
    let seats = ap (λ (x : Base). x.seats) c.base.view_is in
    let x = c.in_ok-exclusive.ensures in
    let s = c.in_ok-shared.ensures in
    let long = table_length b S _ _ (c.deref-2.ensures.value ∙ seats) good s in
    let shared = tabled b S _ _ (c.deref-2.ensures.value ∙ seats) s in
    let among = c.deref-4.ensures.value ∙ seats in
    stands_on b _ good c.requires.range (table_length b X _ _ (c.deref.ensures.value ∙ seats) good x) long
    (tabled b X _ _ (c.deref.ensures.value ∙ seats) x) shared
    (c.owner_of.ensures
    ∙ ap (λ (l : List SeatBase). seat_with (length l) (λ i. (get_or l i nothing).exclusive)) among
    ∙ ap (λ n. seat_with n (λ i. (get_or b.seats i nothing).exclusive)) good.seats)
    (readers_are b _ c.in_ok-shared.shared.items long shared
    (c.sum-readers.ensures.sum
    ∙ ap (λ (l : List ℕ). total (length l) (λ i. get_or l i 0)) c.deref-3.ensures.value))

pub returns-clause-held : goal.returns-clause-held
returns-clause-held c =
    let b = c.args.base.now in
    let seats = ap (λ (x : Base). x.seats) c.base.view_is in
    let s = c.in_ok-shared.ensures in
    readers_are b _ c.in_ok-shared.shared.items
    (table_length b S _ _ (c.deref-2.ensures.value ∙ seats) c.requires.good s)
    (tabled b S _ _ (c.deref-2.ensures.value ∙ seats) s)
    (c.sum-readers.ensures.sum
    ∙ ap (λ (l : List ℕ). total (length l) (λ i. get_or l i 0)) c.deref-3.ensures.value)
