-- What joining and leaving make of the nodes and of the table beside them.
use Rattle.std.proofs.Common.{◌≡◌, ◌≢◌, ◌⊎◌, inl, inr, ℕ, ◌+◌, ◌<◌, ◌≤◌, Bool, true, false, not, cond, eqb, zero, suc, List, [], ◌∷◌, ◌++◌, length, filter, drop, get_or, set, Option, Some, None, IsSome, OnSome, is_some, slice_get, leb, ◌||◌, ◌-◌, add-one, refl, ap, ◌∙◌, sym, subst, arith, eq-eqb, ne_eqb, get_or-set_same, get_or-set_other, length-set}
use Rattle.std.proofs.lemmas.Bool.{cases_eq, cond-true, cond-false}
use Rattle.std.proofs.lemmas.Bool.Decides.{nat_tests}
use Rattle.std.specs.List.{position, position_from}
use Rattle.std.proofs.lemmas.Iterator.Adapters.{position_from-zero}
use Rattle.std.proofs.lemmas.List.{get_or_past, length-map, length_push, drop_all}
use Rattle.std.proofs.lemmas.Option.{none-some, same_Some}
use Rattle.acquire_queue.specs.Below.{Arrival, first_of, place_of, Node, NodeNo, NumberedNode, Nodes, is_at, at_place, under, without_place, cancelled, cancel_at, StandApart, StandOnce}
use Rattle.acquire_queue.specs.Line.{is_live, live, number_of, without_dead_head, swept, LiveHead, left_by, standing_behind, IsLinkedLine}
use Rattle.acquire_queue.proofs.Lines.{place_of-push_other, once-push, once-left, left_absent, length-left, length-few}

-- a node that isn't cancelled, and what it asks for
pub live_by : (x : NumberedNode) (rest : List NumberedNode) → x.node.cancelled ≡ false →
    live (x ∷ rest) ≡ x.node.arrival ∷ live rest
live_by x rest e = rw e refl

pub either : (b : Bool) → (b ≡ true) ⊎ (b ≡ false)
either true = inl refl
either false = inr refl

-- a seat has a number exactly where it stands in line
pub numbered : (i : ℕ) (nodes : List NumberedNode) →
    is_some (number_of i nodes) ≡ is_some (place_of i (live nodes))
numbered i [] = refl
numbered i (x ∷ rest) = grind (arith, numbered i rest)

pub no_number : (i : ℕ) (nodes : List NumberedNode) → place_of i (live nodes) ≡ None → number_of i nodes ≡ None
no_number i nodes e = grind (arith, numbered i nodes)

pub no_place : (i : ℕ) (nodes : List NumberedNode) → number_of i nodes ≡ None → place_of i (live nodes) ≡ None
no_place i nodes e = grind (arith, numbered i nodes)

-- ---- one joins

pub live-push : (x : NumberedNode) (nodes : List NumberedNode) → x.node.cancelled ≡ false →
    live (nodes ++ x ∷ []) ≡ live nodes ++ x.node.arrival ∷ []
live-push x [] e = live_by x [] e
live-push x (y ∷ nodes) e = grind (arith, live-push x nodes e)

number-push : (i : ℕ) (x : NumberedNode) (nodes : List NumberedNode) → x.node.cancelled ≡ false →
    number_of x.node.arrival.seat nodes ≡ None →
    number_of i (nodes ++ x ∷ []) ≡ cond (eqb x.node.arrival.seat i) (Some x.number) (number_of i nodes)
number-push i x [] e p = grind (arith, nat_tests)
number-push i x (y ∷ nodes) e p = grind (arith, nat_tests, number-push i x nodes e)

at_place-push : (q : ℕ) (x : NumberedNode) (nodes : List NumberedNode) → eqb x.number.place q ≡ false →
    at_place q (nodes ++ x ∷ []) ≡ at_place q nodes
at_place-push q x [] n = cond-false _ _ _ n
at_place-push q x (y ∷ nodes) n = grind (arith, at_place-push q x nodes n)

pub apart-push : (x : NumberedNode) (nodes : List NumberedNode) → StandApart nodes →
    at_place x.number.place nodes ≡ None → StandApart (nodes ++ x ∷ [])
apart-push x [] apart e = (refl, tt)
apart-push x (y ∷ nodes) apart e =
    grind (arith, nat_tests, at_place-push y.number.place x nodes, apart-push x nodes apart.1)

pub head-push : (x : NumberedNode) (nodes : List NumberedNode) → x.node.cancelled ≡ false → LiveHead nodes →
    LiveHead (nodes ++ x ∷ [])
head-push x [] e head = e
head-push x (y ∷ nodes) e head = head

-- ---- the nodes without those at the head, or without any, that are cancelled

pub trimmed_live : (nodes : List NumberedNode) → live (without_dead_head nodes) ≡ live nodes
trimmed_live [] = refl
trimmed_live (x ∷ rest) = grind (arith, trimmed_live rest)

pub trimmed_number : (i : ℕ) (nodes : List NumberedNode) → number_of i (without_dead_head nodes) ≡ number_of i nodes
trimmed_number i [] = refl
trimmed_number i (x ∷ rest) = grind (arith, trimmed_number i rest)

pub trimmed_apart : (nodes : List NumberedNode) → StandApart nodes → StandApart (without_dead_head nodes)
trimmed_apart [] apart = tt
trimmed_apart (x ∷ rest) apart = grind (arith, trimmed_apart rest apart.1)

pub trimmed_head : (nodes : List NumberedNode) → LiveHead (without_dead_head nodes)
trimmed_head [] = tt
trimmed_head (x ∷ rest) = grind (arith, trimmed_head rest)

pub trimmed_length : (nodes : List NumberedNode) → length (without_dead_head nodes) ≤ length nodes
trimmed_length [] = omega arith
trimmed_length (x ∷ rest) = grind (arith, trimmed_length rest)

pub swept_live : (nodes : List NumberedNode) → live (swept nodes) ≡ live nodes
swept_live [] = refl
swept_live (x ∷ rest) = grind (arith, swept_live rest)

pub swept_number : (i : ℕ) (nodes : List NumberedNode) → number_of i (swept nodes) ≡ number_of i nodes
swept_number i [] = refl
swept_number i (x ∷ rest) = grind (arith, swept_number i rest)

absent-filter : (keep : NumberedNode → Bool) (q : ℕ) (nodes : List NumberedNode) → at_place q nodes ≡ None →
    at_place q (filter keep nodes) ≡ None
absent-filter keep q [] e = refl
absent-filter keep q (x ∷ rest) e = grind (arith, absent-filter keep q rest)

pub apart-filter : (keep : NumberedNode → Bool) (nodes : List NumberedNode) → StandApart nodes →
    StandApart (filter keep nodes)
apart-filter keep [] apart = tt
apart-filter keep (x ∷ rest) apart =
    grind (arith, apart-filter keep rest apart.1, absent-filter keep x.number.place rest apart.0)

pub swept_head : (nodes : List NumberedNode) → LiveHead (swept nodes)
swept_head [] = tt
swept_head (x ∷ rest) = grind (arith, swept_head rest)

pub swept_length : (nodes : List NumberedNode) → length (swept nodes) ≡ length (live nodes)
swept_length [] = refl
swept_length (x ∷ rest) = grind (arith, swept_length rest)

-- ---- one leaves

-- the node of a seat in line
pub record Found (i : ℕ) (number : NodeNo) (nodes : List NumberedNode) : Type 0 where
  pub node : NumberedNode
  pub k : ℕ
  pub here : slice_get nodes k ≡ Some node
  pub at : at_place number.place nodes ≡ Some node
  pub is : node.number ≡ number
  pub stays : node.node.cancelled ≡ false
  pub seat : node.node.arrival.seat ≡ i
  pub place : place_of i (live nodes) ≡ Some node.node.arrival

pub find_node : (i : ℕ) (number : NodeNo) (nodes : List NumberedNode) → StandApart nodes →
    number_of i nodes ≡ Some number → Found i number nodes
find_node i number [] apart e = absurd (none-some number e)
find_node i number (x ∷ rest) apart e =
    elim (either (x.node.cancelled || not (eqb x.node.arrival.seat i))) [
      | inl other ↦
          let f = find_node i number rest apart.1 (grind arith) in
          record {
            node = f.node;
            k = suc f.k;
            here = f.here;
            at = grind (arith, nat_tests, f.at);
            is = f.is;
            stays = f.stays;
            seat = f.seat;
            place = grind (arith, f.place);
          }
      | inr own ↦
          record {
            node = x;
            k = 0;
            here = refl;
            at = grind (arith, nat_tests);
            is = grind (arith, nat_tests);
            stays = grind (arith, nat_tests);
            seat = grind (arith, nat_tests);
            place = grind (arith, nat_tests);
          }
    ]

pub found_under : (i : ℕ) (number : NodeNo) (nodes : List NumberedNode) (f : Found i number nodes) →
    under number nodes ≡ Some f.node.node
found_under i number nodes f = grind (arith, nat_tests)

-- a node that isn't cancelled stands in line
pub stands_live : (p : ℕ) (x : NumberedNode) (nodes : List NumberedNode) → at_place p nodes ≡ Some x →
    x.node.cancelled ≡ false → is_some (place_of x.node.arrival.seat (live nodes)) ≡ true
stands_live p x [] e stays = absurd (none-some x e)
stands_live p x (y ∷ rest) e stays = grind (arith, nat_tests, stands_live p x rest)

-- a seat has left, and all others stand as before
pub record LeftNodes (s : ℕ) (old new : List NumberedNode) : Type 0 where
  pub arrivals : live new ≡ filter (λ a. not (eqb s a.seat)) (live old)
  pub numbers : (i : ℕ) → number_of i new ≡ cond (eqb s i) None (number_of i old)
  pub apart : StandApart new
  pub headed : LiveHead new
  pub short : length new ≤ length old

-- the head leaves
pub left_head : (x : NumberedNode) (rest : List NumberedNode) → StandOnce (live (x ∷ rest)) → StandApart (x ∷ rest) →
    x.node.cancelled ≡ false → LeftNodes x.node.arrival.seat (x ∷ rest) (without_dead_head rest)
left_head x rest once apart stays =
    record {
      arrivals = grind (
        arith,
        nat_tests,
        trimmed_live rest,
        left_absent x.node.arrival.seat (live rest),
      );
      numbers = λ i. grind (arith, nat_tests, trimmed_number i rest, no_number i rest);
      apart = trimmed_apart rest apart.1;
      headed = trimmed_head rest;
      short = omega (arith, trimmed_length rest);
    }

cancel_absent : (p : ℕ) (nodes : List NumberedNode) → at_place p nodes ≡ None → cancel_at p nodes ≡ nodes
cancel_absent p [] e = refl
cancel_absent p (x ∷ rest) e = grind (arith, cancel_absent p rest)

cancel_keeps_place : (p q : ℕ) (nodes : List NumberedNode) → at_place q nodes ≡ None →
    at_place q (cancel_at p nodes) ≡ None
cancel_keeps_place p q [] e = refl
cancel_keeps_place p q (x ∷ rest) e = grind (arith, cancel_keeps_place p q rest)

cancel_apart : (p : ℕ) (nodes : List NumberedNode) → StandApart nodes → StandApart (cancel_at p nodes)
cancel_apart p [] apart = tt
cancel_apart p (x ∷ rest) apart =
    grind (arith, cancel_keeps_place p x.number.place rest, cancel_apart p rest apart.1)

-- a node is marked where it stands
module _ (p : ℕ) (x : NumberedNode) (stays : x.node.cancelled ≡ false) where
  mark_live : (nodes : List NumberedNode) → at_place p nodes ≡ Some x → StandOnce (live nodes) →
      StandApart nodes →
      live (cancel_at p nodes) ≡ filter (λ a. not (eqb x.node.arrival.seat a.seat)) (live nodes)
  mark_live [] e once apart = absurd (none-some x e)
  mark_live (y ∷ rest) e once apart =
      grind (
        arith,
        nat_tests,
        mark_live rest,
        cancel_absent p rest,
        left_absent x.node.arrival.seat (live rest),
        stands_live p x rest,
      )

  mark_number : (i : ℕ) (nodes : List NumberedNode) → at_place p nodes ≡ Some x → StandOnce (live nodes) →
      StandApart nodes → number_of i (cancel_at p nodes)
      ≡ cond (eqb x.node.arrival.seat i) None (number_of i nodes)
  mark_number i [] e once apart = absurd (none-some x e)
  mark_number i (y ∷ rest) e once apart =
      grind (
        arith,
        nat_tests,
        mark_number i rest,
        cancel_absent p rest,
        no_number i rest,
        stands_live p x rest,
      )

-- the node of a seat leaves, from the head or from between others
pub left_by_number : (s : ℕ) (number : NodeNo) (nodes : List NumberedNode) → StandOnce (live nodes) →
    StandApart nodes → LiveHead nodes → number_of s nodes ≡ Some number →
    LeftNodes s nodes (left_by number nodes)
left_by_number s number [] once apart head e = absurd (none-some number e)
left_by_number s number (x ∷ rest) once apart head e =
    let f = find_node s number (x ∷ rest) apart e in
    let p = number.place in
    elim (cases_eq x.number.place p) [
      | inl same ↦
          let is : x ≡ f.node = same_Some _ _ (sym (cond-true _ _ _ (eq-eqb _ _ same)) ∙ f.at) in
          let seat : x.node.arrival.seat ≡ s = ap (λ (z : NumberedNode). z.node.arrival.seat) is ∙ f.seat in
          subst (λ l. LeftNodes s (x ∷ rest) l) (sym (cond-true _ _ _ (eq-eqb _ _ same)))
          (subst (λ k. LeftNodes k (x ∷ rest) (without_dead_head rest)) seat (left_head x rest once apart head))
      | inr differs ↦
          let other = ne_eqb _ _ differs in
          subst (λ l. LeftNodes s (x ∷ rest) l) (sym (cond-false _ _ _ other))
          (record {
            arrivals = rw f.seat at (mark_live p f.node f.stays (x ∷ rest) f.at once apart);
            numbers = λ i. rw f.seat at (mark_number p f.node f.stays i (x ∷ rest) f.at once apart);
            apart = cancel_apart p (x ∷ rest) apart;
            headed = rw other head;
            short = omega (arith, length-map rest (λ z. cond (is_at p z) (cancelled z) z));
          })
    ]

-- a node that leaves from between others stays as a marked one
pub left_between : (s : ℕ) (number : NodeNo) (nodes : List NumberedNode) → StandApart nodes → LiveHead nodes →
    number_of s nodes ≡ Some number → (first : Arrival) → first_of (live nodes) ≡ Some first →
    (first.seat ≡ s → ⊥) → length (left_by number nodes) ≡ length nodes
left_between s number [] apart head e first is other = absurd (none-some number e)
left_between s number (x ∷ rest) apart head e first is other =
    let f = find_node s number (x ∷ rest) apart e in
    grind (arith, nat_tests, f, length-map rest (λ z. cond (is_at number.place z) (cancelled z) z))

-- the node of the first in line leaves with the cancelled ones behind it
pub left_head_seat : (s : ℕ) (number : NodeNo) (nodes : List NumberedNode) → LiveHead nodes →
    number_of s nodes ≡ Some number → (first : Arrival) → first_of (live nodes) ≡ Some first →
    first.seat ≡ s → left_by number nodes ≡ without_dead_head (drop 1 nodes)
left_head_seat s number [] head e first is own = absurd (none-some number e)
left_head_seat s number (x ∷ rest) head e first is own = grind (arith, nat_tests)

-- fewer nodes stand then than would be swept
pub few_behind_head : (seats waiting : ℕ) (nodes : List NumberedNode) → 1 ≤ waiting →
    length nodes ≤ waiting + seats → length (without_dead_head (drop 1 nodes)) ≤ (waiting - 1) + seats
few_behind_head seats waiting [] some few = omega arith
few_behind_head seats waiting (x ∷ rest) some few = omega (arith, few, some, trimmed_length rest)

live_length : (nodes : List NumberedNode) → length (live nodes) ≤ length nodes
live_length [] = omega arith
live_length (x ∷ rest) = grind (arith, live_length rest)

pub left_swept : (s : ℕ) (old new : List NumberedNode) → LeftNodes s old new → LeftNodes s old (swept new)
left_swept s old new left =
    record {
      arrivals = swept_live new ∙ left.arrivals;
      numbers = λ i. swept_number i new ∙ left.numbers i;
      apart = apart-filter is_live new left.apart;
      headed = swept_head new;
      short = omega (arith, left.short, swept_length new, live_length new);
    }

-- how many nodes stand once one left from between others, and all cancelled ones were freed or none
pub standing_swept : (seats : ℕ) (old left new : List NumberedNode) → length left ≡ length old →
    new ≡ swept left → length (live new) + seats < length left →
    length new ≡ standing_behind seats (length (live new)) (length old)
standing_swept seats old left new same is more = grind (arith, nat_tests, swept_length left, swept_live left)

pub standing_left : (seats : ℕ) (old left : List NumberedNode) → length left ≡ length old →
    length left ≤ length (live left) + seats →
    length left ≡ standing_behind seats (length (live left)) (length old)
standing_left seats old left same few = grind (arith, nat_tests)

-- ---- freeing all cancelled ones, place by place

-- whether a node isn't cancelled, or stands at a place from this one on
abbrev pub stays_from : ℕ → NumberedNode → Bool
stays_from p x = is_live x || leb p x.number.place

abbrev pub swept_below : ℕ → List NumberedNode → List NumberedNode
swept_below p = filter (stays_from p)

pub swept_none : (nodes : List NumberedNode) → nodes ≡ swept_below 0 nodes
swept_none [] = refl
swept_none (x ∷ rest) = grind (arith, nat_tests, swept_none rest)

without_none : (q : ℕ) (nodes : List NumberedNode) → at_place q nodes ≡ None → without_place q nodes ≡ nodes
without_none q [] e = refl
without_none q (y ∷ nodes) e = grind (arith, without_none q nodes)

-- the place of a node is seen by all that is kept from it on
at_swept : (p : ℕ) (nodes : List NumberedNode) → at_place p (swept_below p nodes) ≡ at_place p nodes
at_swept p [] = refl
at_swept p (x ∷ rest) = grind (arith, nat_tests, at_swept p rest)

swept_vacant : (p : ℕ) (nodes : List NumberedNode) → at_place p nodes ≡ None →
    swept_below p nodes ≡ swept_below (p + 1) nodes
swept_vacant p [] e = refl
swept_vacant p (x ∷ rest) e = grind (arith, nat_tests, swept_vacant p rest)

swept_at : (p : ℕ) (x : NumberedNode) (nodes : List NumberedNode) → StandApart nodes →
    at_place p nodes ≡ Some x → cond x.node.cancelled (without_place p (swept_below p nodes)) (swept_below p nodes)
    ≡ swept_below (p + 1) nodes
swept_at p x [] apart e = absurd (none-some x e)
swept_at p x (y ∷ rest) apart e =
    grind (
      arith,
      nat_tests,
      swept_vacant p rest,
      at_swept p rest,
      without_none p (swept_below p rest),
      swept_at p x rest apart.1,
    )

-- what stands at the place goes if it is cancelled
pub swept_one : (p : ℕ) (old now : List NumberedNode) (x : NumberedNode) → StandApart old → now ≡ swept_below p old →
    at_place p now ≡ Some x → cond x.node.cancelled (without_place p now) now ≡ swept_below (p + 1) old
swept_one p old now x apart is e = rw is (swept_at p x old apart (sym (at_swept p old) ∙ ap (at_place p) (sym is) ∙ e))

pub swept_skip : (p : ℕ) (old now : List NumberedNode) → now ≡ swept_below p old → at_place p now ≡ None →
    now ≡ swept_below (p + 1) old
swept_skip p old now is e = is ∙ swept_vacant p old (sym (at_swept p old) ∙ ap (at_place p) (sym is) ∙ e)

pub swept_all : (p : ℕ) (nodes : List NumberedNode) →
    ((q : ℕ) → IsSome (at_place q nodes) → q < p) → swept_below p nodes ≡ swept nodes
swept_all p [] below = refl
swept_all p (x ∷ rest) below =
    let low : x.number.place < p = below x.number.place (grind (arith, nat_tests)) in
    grind (arith, nat_tests, low, swept_all p rest (λ q some. below q (grind arith)))

-- ---- the head

pub without_head : (p : ℕ) (x : NumberedNode) (rest : List NumberedNode) → StandApart (x ∷ rest) →
    x.number.place ≡ p →
    without_place p (x ∷ rest) ≡ rest
without_head p x rest apart same = grind (arith, nat_tests, without_none p rest)

-- the first node and those behind it
pub head_is : (nodes : List NumberedNode) (x : NumberedNode) → Some x ≡ slice_get nodes 0 → nodes ≡ x ∷ drop 1 nodes
head_is [] x e = cc
head_is (y ∷ rest) x e = cc

pub head_under : (x : NumberedNode) (rest : List NumberedNode) → under x.number (x ∷ rest) ≡ Some x.node
head_under x rest = grind (arith, nat_tests)

head_number : (x : NumberedNode) (rest : List NumberedNode) → x.node.cancelled ≡ false →
    number_of x.node.arrival.seat (x ∷ rest) ≡ Some x.number
head_number x rest stays = grind (arith, nat_tests)

pub nobody : (nodes : List NumberedNode) → None ≡ slice_get nodes 0 → nodes ≡ []
nobody [] e = refl
nobody (x ∷ rest) e = cc

-- ---- walking over the nodes

pub at_found : (p : ℕ) (nodes : List NumberedNode) (x : NumberedNode) → at_place p nodes ≡ Some x →
    (x.number.place ≡ p) × (under x.number nodes ≡ Some x.node)
at_found p nodes x e =
    let same = place_found p nodes x e in (same, rw (same, e) (grind (arith, nat_tests)))
  where
    place_found : (p : ℕ) (nodes : List NumberedNode) (x : NumberedNode) → at_place p nodes ≡ Some x →
        x.number.place ≡ p
    place_found p [] x e = absurd (none-some x e)
    place_found p (y ∷ rest) x e = grind (arith, nat_tests, place_found p rest x)

pub at_index : (nodes : List NumberedNode) (k : ℕ) (x : NumberedNode) → StandApart nodes →
    slice_get nodes k ≡ Some x →
    at_place x.number.place nodes ≡ Some x
at_index [] k x apart e = absurd (none-some x e)
at_index (y ∷ rest) zero x apart e = grind (arith, nat_tests)
at_index (y ∷ rest) (suc k) x apart e = grind (arith, nat_tests, at_index rest k x apart.1 e)

pub drop_at : (nodes : List NumberedNode) (k : ℕ) (x : NumberedNode) → slice_get nodes k ≡ Some x →
    drop k nodes ≡ x ∷ drop (suc k) nodes
drop_at [] k x e = absurd (none-some x e)
drop_at (y ∷ rest) zero x e = ap (λ z. z ∷ rest) (same_Some _ _ e)
drop_at (y ∷ rest) (suc k) x e = drop_at rest k x e

-- the first node

pub first_under : (nodes : List NumberedNode) (x : NumberedNode) → Some x ≡ slice_get nodes 0 →
    under x.number nodes ≡ Some x.node
first_under nodes x e = ap (under x.number) (head_is nodes x e) ∙ head_under x (drop 1 nodes)

pub first_without : (nodes : List NumberedNode) (x : NumberedNode) → Some x ≡ slice_get nodes 0 → StandApart nodes →
    without_place x.number.place nodes ≡ drop 1 nodes
first_without nodes x e apart =
    ap (without_place x.number.place) (head_is nodes x e)
    ∙ without_head x.number.place x (drop 1 nodes) (subst StandApart (head_is nodes x e) apart) refl

pub trimmed_past : (nodes : List NumberedNode) (x : NumberedNode) → Some x ≡ slice_get nodes 0 →
    x.node.cancelled ≡ true → without_dead_head (drop 1 nodes) ≡ without_dead_head nodes
trimmed_past nodes x e gone = sym (ap without_dead_head (head_is nodes x e) ∙ cond-true _ _ _ gone)

pub shorter_past : (nodes : List NumberedNode) (x : NumberedNode) → Some x ≡ slice_get nodes 0 →
    length (drop 1 nodes) < length nodes
shorter_past nodes x e = omega (arith, ap length (head_is nodes x e))

pub trimmed_by : (nodes : List NumberedNode) (x : NumberedNode) → Some x ≡ slice_get nodes 0 →
    x.node.cancelled ≡ false → nodes ≡ without_dead_head nodes
trimmed_by nodes x e stays = head_is nodes x e ∙ sym (ap without_dead_head (head_is nodes x e) ∙ cond-false _ _ _ stays)

pub trimmed_none : (nodes : List NumberedNode) → None ≡ slice_get nodes 0 → nodes ≡ without_dead_head nodes
trimmed_none nodes e = nobody nodes e ∙ sym (ap without_dead_head (nobody nodes e))

pub left_first : (nodes : List NumberedNode) (x : NumberedNode) (number : NodeNo) → Some x ≡ slice_get nodes 0 →
    x.number.place ≡ number.place → left_by number nodes ≡ without_dead_head (drop 1 nodes)
left_first nodes x number e same = ap (left_by number) (head_is nodes x e) ∙ cond-true _ _ _ (eq-eqb _ _ same)

pub unnot_true : (b : Bool) → not b ≡ true → b ≡ false
unnot_true b e = grind arith

pub unnot_false : (b : Bool) → not b ≡ false → b ≡ true
unnot_false b e = grind arith

-- who waits from a node on
pub from_here : (nodes : List NumberedNode) (k : ℕ) (x : NumberedNode) → slice_get nodes k ≡ Some x →
    live (drop k nodes)
    ≡ cond x.node.cancelled (live (drop (k + 1) nodes)) (x.node.arrival ∷ live (drop (k + 1) nodes))
from_here nodes k x at = ap live (drop_at nodes k x at ∙ ap (λ j. x ∷ drop j nodes) (sym (add-one k)))

-- how many that wait stand before a seat, from head to tail
module _ (s : ℕ) (nodes : List NumberedNode) (k before : ℕ)
    (before_is : position_from (λ a. eqb a.seat s) before (live (drop k nodes))
    ≡ position_from (λ a. eqb a.seat s) 0 (live nodes)) where
  in_all : position (λ a. eqb a.seat s) (live nodes)
      ≡ position_from (λ a. eqb a.seat s) before (live (drop k nodes))
  in_all = position_from-zero (λ a. eqb a.seat s) (live nodes) ∙ sym before_is

  pub walk_end : length nodes ≤ k → None ≡ position (λ a. eqb a.seat s) (live nodes)
  walk_end past =
      sym (in_all ∙ ap (λ l. position_from (λ a. eqb a.seat s) before (live l)) (drop_all k nodes past))

  module _ (x : NumberedNode) (at : slice_get nodes k ≡ Some x) where
    here : position_from (λ a. eqb a.seat s) before (live (drop k nodes))
        ≡ position_from (λ a. eqb a.seat s) before
        (cond x.node.cancelled (live (drop (k + 1) nodes)) (x.node.arrival ∷ live (drop (k + 1) nodes)))
    here = ap (λ l. position_from (λ a. eqb a.seat s) before l) (from_here nodes k x at)

    pub walk_found : x.node.cancelled ≡ false → x.node.arrival.seat ≡ s →
        Some before ≡ position (λ a. eqb a.seat s) (live nodes)
    walk_found stays same = grind (arith, nat_tests, in_all, here)

    pub walk_live : x.node.cancelled ≡ false → x.node.arrival.seat ≢ s →
        position_from (λ a. eqb a.seat s) (before + 1) (live (drop (k + 1) nodes))
        ≡ position_from (λ a. eqb a.seat s) 0 (live nodes)
    walk_live stays differs = grind (arith, nat_tests, before_is, here)

    pub walk_past : x.node.cancelled ≡ true →
        position_from (λ a. eqb a.seat s) before (live (drop (k + 1) nodes))
        ≡ position_from (λ a. eqb a.seat s) 0 (live nodes)
    walk_past gone = grind (arith, before_is, here)

pub live_one : (nodes : List NumberedNode) (k : ℕ) (x : NumberedNode) → slice_get nodes k ≡ Some x →
    x.node.cancelled ≡ false → length (live (drop k nodes)) ≡ length (live (drop (k + 1) nodes)) + 1
live_one nodes k x at stays = grind (arith, from_here nodes k x at)

pub live_none : (nodes : List NumberedNode) (k : ℕ) (x : NumberedNode) → slice_get nodes k ≡ Some x →
    x.node.cancelled ≡ true → length (live (drop k nodes)) ≡ length (live (drop (k + 1) nodes))
live_none nodes k x at gone = grind (arith, from_here nodes k x at)

-- ---- the table beside the nodes

-- a table with another number for one seat
table-set : (table : List (Option NodeNo)) (s i : ℕ) (o : Option NodeNo) → s < length table →
    get_or (set table s o) i None ≡ cond (eqb s i) o (get_or table i None)
table-set table s i o low =
    elim (cases_eq i s) [
      | inl same ↦ rw same (rw (eq-eqb s s refl) (get_or-set_same table s o None low))
      | inr differs ↦ rw (ne_eqb s i (λ e. differs (sym e))) (get_or-set_other table s i o None differs)
    ]

module _ (seats waiting : ℕ) (n : Nodes) (table : List (Option NodeNo)) (kept : IsLinkedLine seats waiting n table)
  where
    pub below : (i : ℕ) → is_some (place_of i (live n.nodes)) ≡ true → i < seats
    below i p = grind (arith, get_or_past table i None, numbered i n.nodes, kept.tabled i, kept.one_a_seat)

    pub few_wait : waiting ≤ seats
    few_wait = omega (arith, kept.counted, length-few seats (live n.nodes) kept.once below)

    -- a seat that stands in line
    pub find_seat : (s : ℕ) (number : NodeNo) → number_of s n.nodes ≡ Some number → Found s number n.nodes
    find_seat s number e = find_node s number n.nodes kept.apart e

    module _ (a : Arrival) (low : a.seat < seats) (absent : place_of a.seat (live n.nodes) ≡ None) where
      pub room : waiting + 1 ≤ seats
      room =
          let more = length-few seats (live n.nodes ++ a ∷ []) (once-push a (live n.nodes) kept.once absent)
          (λ i p. grind (arith, nat_tests, place_of-push_other i a (live n.nodes), below i)) in
          omega (arith, more, length_push (live n.nodes) a, kept.counted)

      pub place_free : length n.nodes < n.places
      place_free = omega (arith, room, kept.bounded, kept.reserved)

      -- the node of who joins, under a number
      abbrev pub newcomer : NodeNo → NumberedNode
      newcomer number = record { number = number; node = record { arrival = a; cancelled = false } }

      pub kept_joined : (m : Nodes) (number : NodeNo) → m.nodes ≡ n.nodes ++ newcomer number ∷ [] →
          at_place number.place n.nodes ≡ None → m.places ≡ n.places →
          IsLinkedLine seats (waiting + 1) m (set table a.seat (Some number))
      kept_joined m number is vacant places =
          let x = newcomer number in
          let line : live m.nodes ≡ live n.nodes ++ a ∷ [] = ap live is ∙ live-push x n.nodes refl in
          record {
            once = subst StandOnce (sym line) (once-push a (live n.nodes) kept.once absent);
            tabled = λ i. table-set table a.seat i (Some number) (omega (arith, kept.one_a_seat, low))
                ∙ ap (cond (eqb a.seat i) (Some number)) (kept.tabled i)
                ∙ sym (ap (number_of i) is ∙ number-push i x n.nodes refl (no_number a.seat n.nodes absent));
            one_a_seat = length-set table a.seat (Some number) ∙ kept.one_a_seat;
            apart = subst StandApart (sym is) (apart-push x n.nodes kept.apart vacant);
            headed = subst LiveHead (sym is) (head-push x n.nodes refl kept.headed);
            counted = omega (arith, ap length line, length_push (live n.nodes) a, kept.counted);
            bounded = omega (arith, ap length is, length_push n.nodes x, kept.bounded);
            reserved = omega (arith, kept.reserved, places);
            few = kept.few;
          }

    pub kept_swept : (m : Nodes) → m.nodes ≡ swept n.nodes → m.places ≡ n.places →
        IsLinkedLine seats waiting m table
    kept_swept m is places =
        let line : live m.nodes ≡ live n.nodes = ap live is ∙ swept_live n.nodes in
        record {
          once = subst StandOnce (sym line) kept.once;
          tabled = λ i. kept.tabled i ∙ sym (ap (number_of i) is ∙ swept_number i n.nodes);
          one_a_seat = kept.one_a_seat;
          apart = subst StandApart (sym is) (apart-filter is_live n.nodes kept.apart);
          headed = subst LiveHead (sym is) (swept_head n.nodes);
          counted = ap length line ∙ kept.counted;
          bounded = omega (arith, ap length is, swept_length n.nodes, kept.counted);
          reserved = omega (arith, kept.reserved, places);
          few = kept.few;
        }

    -- the seat of a number leaves
    module _ (s : ℕ) (number : NodeNo) (e : number_of s n.nodes ≡ Some number) where
      pub stands_by : is_some (place_of s (live n.nodes)) ≡ true
      stands_by = ap is_some (find_seat s number e).place

      pub under_by : IsSome (under number n.nodes)
      under_by = subst IsSome (sym (found_under s number n.nodes (find_seat s number e))) refl

      pub some_wait : 1 ≤ waiting
      some_wait = omega (arith, length-left s (live n.nodes) kept.once stands_by, kept.counted)

      pub left_node : (m : Nodes) → m.nodes ≡ left_by number n.nodes → LeftNodes s n.nodes m.nodes
      left_node m is =
          subst (LeftNodes s n.nodes) (sym is)
          (left_by_number s number n.nodes kept.once kept.apart kept.headed e)

      kept_left : (m : Nodes) (fewer : ℕ) → fewer ≡ waiting - 1 → LeftNodes s n.nodes m.nodes →
          length m.nodes ≤ fewer + seats → m.places ≡ n.places → IsLinkedLine seats fewer m (set table s None)
      kept_left m fewer one left bounded places =
          record {
            once = subst StandOnce (sym left.arrivals) (once-left s (live n.nodes) kept.once);
            tabled = λ i. table-set table s i None (omega (arith, kept.one_a_seat, below s stands_by))
                ∙ ap (cond (eqb s i) None) (kept.tabled i) ∙ sym (left.numbers i);
            one_a_seat = length-set table s None ∙ kept.one_a_seat;
            apart = left.apart;
            headed = left.headed;
            counted = omega (
              arith,
              ap length left.arrivals,
              length-left s (live n.nodes) kept.once stands_by,
              kept.counted,
              one,
            );
            bounded = bounded;
            reserved = omega (arith, kept.reserved, places);
            few = kept.few;
          }

      pub kept_gone : (m : Nodes) (fewer : ℕ) → fewer ≡ waiting - 1 → m.nodes ≡ left_by number n.nodes →
          m.places ≡ n.places → length m.nodes ≤ fewer + seats → IsLinkedLine seats fewer m (set table s None)
      kept_gone m fewer one is places bounded = kept_left m fewer one (left_node m is) bounded places

      pub kept_gone_swept : (m o : Nodes) (fewer : ℕ) → fewer ≡ waiting - 1 →
          m.nodes ≡ left_by number n.nodes →
          m.places ≡ n.places → o.nodes ≡ swept m.nodes → o.places ≡ m.places →
          IsLinkedLine seats fewer o (set table s None)
      kept_gone_swept m o fewer one is places all more =
          let left = left_node m is in
          kept_left o fewer one (subst (LeftNodes s n.nodes) (sym all) (left_swept s n.nodes m.nodes left))
          (omega (
            arith,
            ap length all,
            swept_length m.nodes,
            ap length left.arrivals,
            length-left s (live n.nodes) kept.once stands_by,
            kept.counted,
            one,
          ))
          (more ∙ places)

      pub line_gone_swept : (m o : Nodes) → m.nodes ≡ left_by number n.nodes → o.nodes ≡ swept m.nodes →
          live o.nodes ≡ filter (λ a. not (eqb s a.seat)) (live n.nodes)
      line_gone_swept m o is all = ap live all ∙ swept_live m.nodes ∙ (left_node m is).arrivals

    -- the first leaves
    module _ (x : NumberedNode) (e : Some x ≡ slice_get n.nodes 0) where
      first_stays : x.node.cancelled ≡ false
      first_stays = subst LiveHead (head_is n.nodes x e) kept.headed

      first_number : number_of x.node.arrival.seat n.nodes ≡ Some x.number
      first_number =
          ap (number_of x.node.arrival.seat) (head_is n.nodes x e) ∙ head_number x (drop 1 n.nodes) first_stays

      first_left : (m : Nodes) → m.nodes ≡ without_dead_head (drop 1 n.nodes) → m.nodes ≡ left_by x.number n.nodes
      first_left m is = is ∙ sym (left_first n.nodes x x.number e refl)

      pub first_seat : x.node.arrival.seat < seats
      first_seat = below x.node.arrival.seat (stands_by x.node.arrival.seat x.number first_number)

      pub left_at_head : (m : Nodes) → m.nodes ≡ without_dead_head (drop 1 n.nodes) →
          LeftNodes x.node.arrival.seat n.nodes m.nodes
      left_at_head m is = left_node x.node.arrival.seat x.number first_number m (first_left m is)

      pub kept_taken : (m : Nodes) (fewer : ℕ) → fewer ≡ waiting - 1 → m.nodes ≡ without_dead_head (drop 1 n.nodes) →
          m.places ≡ n.places → IsLinkedLine seats fewer m (set table x.node.arrival.seat None)
      kept_taken m fewer one is places =
          let some = some_wait x.node.arrival.seat x.number first_number in
          let short = few_behind_head seats waiting n.nodes some kept.bounded in
          kept_gone x.node.arrival.seat x.number first_number m fewer one (first_left m is) places
          (omega (arith, ap length is, short, one))

      pub line_taken : (m : Nodes) → m.nodes ≡ without_dead_head (drop 1 n.nodes) → live m.nodes ≡ drop 1 (live n.nodes)
      line_taken m is =
          let first = ap live (head_is n.nodes x e) ∙ live_by x (drop 1 n.nodes) first_stays in
          ap live is ∙ trimmed_live (drop 1 n.nodes) ∙ sym (ap (drop 1) first)

-- what a removal that finds its node makes
pub some_removed : (o : Option Node) (number : NodeNo) (old new : List NumberedNode) → o ≡ under number old →
    IsSome (under number old) → OnSome o (new ≡ without_place number.place old) →
    new ≡ without_place number.place old
some_removed None number old new found some gone = let none = rw (← found) at some in cc
some_removed (Some x) number old new found some gone = gone
