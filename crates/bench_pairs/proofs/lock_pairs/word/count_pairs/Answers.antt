use Rattle.std.proofs.Common.{◌+◌, List, [], ◌∷◌, ◌++◌, refl, sym, ◌∙◌, subst}
use Rattle.std.specs.List.{All}
use Rattle.std.proofs.lemmas.List.Elements.{All-nil, All-cons, All-head, All-tail}
use Rattle.word_lock.specs.Point.{blank_point}
use Rattle.word_lock.specs.Ready.{IsReady}
use Rattle.word_lock.specs.Ticket.{LockId, Ticket, first_seat}
use Rattle.word_lock.proofs.PointLaws.{agrees_empty}
use Rattle.word_lock.proofs.Tokens.{opening_tickets_ready}
use Rattle.bench_pairs.proofs.lock_pairs.word.count_pairs.Goals as goal

abbrev IsReadyOf : LockId → Ticket → Type 0
IsReadyOf lock t = IsReady lock (first_seat t.logs) t

front_and_last : {A : Type 0} (P : A → Type 0) (xs : List A) (x : A) → All P (xs ++ x ∷ []) → All P xs × P x
front_and_last P [] x a = (All-nil P, All-head P x [] a)
front_and_last P (y ∷ ys) x a =
    let t = front_and_last P ys x (All-tail P y (ys ++ x ∷ []) a) in
    (All-cons P y ys (All-head P y (ys ++ x ∷ []) a) t.0, t.1)

pub work_all-requires-clause-ready : goal.work_all-requires-clause-ready
work_all-requires-clause-ready g c κs within = let lock : LockId = c.in-Ok.lock in let ready = IsReadyOf lock in
    (front_and_last ready c.pop.new.self.items c.in-Some.last
    (subst (All ready) (sym c.in-Ok.ensures.tokens ∙ c.in-Some.ensures.items)
    (opening_tickets_ready lock blank_point 0 (c.args.threads + 1)))).0

pub close-requires-clause-own : goal.close-requires-clause-own
close-requires-clause-own g c = let lock : LockId = c.in-Ok.lock in let ready = IsReadyOf lock in
    (front_and_last ready c.pop.new.self.items c.in-Some.last
    (subst (All ready) (sym c.in-Ok.ensures.tokens ∙ c.in-Some.ensures.items)
    (opening_tickets_ready lock blank_point 0 (c.args.threads + 1)))).1.own

pub close-requires-clause-free : goal.close-requires-clause-free
close-requires-clause-free g c = let lock : LockId = c.in-Ok.lock in let ready = IsReadyOf lock in
    (front_and_last ready c.pop.new.self.items c.in-Some.last
    (subst (All ready) (sym c.in-Ok.ensures.tokens ∙ c.in-Some.ensures.items)
    (opening_tickets_ready lock blank_point 0 (c.args.threads + 1)))).1.free

pub open-requires-clause-empty : goal.open-requires-clause-empty
open-requires-clause-empty g c = λ seat. agrees_empty _ seat blank_point refl refl
