-- What freeing the cancelled nodes right before a seat's node makes of the nodes.
use Rattle.std.proofs.Common.{◌≡◌, inl, inr, ℕ, ◌<◌, ◌≤◌, true, false, ◌&&◌, zero, suc, List, [], ◌∷◌, length, Option, Some, None, slice_get, is_some, refl, ap, ◌∙◌, sym, subst, arith}
use Rattle.std.proofs.lemmas.Bool.{cond-true, cond-false}
use Rattle.std.proofs.lemmas.Bool.Decides.{nat_tests}
use Rattle.std.proofs.lemmas.Option.{none-some, same_Some}
use Rattle.acquire_queue.specs.Below.{place_of, Node, NodeNo, NumberedNode, Nodes, at_place, without_place, StandApart, standing_before, StandOnce}
use Rattle.acquire_queue.specs.Line.{Line, live, number_of, is_first, tidied, IsTidy, LiveHead, IsLinkedLine}
use Rattle.acquire_queue.proofs.Nodes.{either, stands_live, without_head, at_index, Found, find_node}

-- ---- what stays as it was

pub tidied_live : (i : ℕ) (nodes : List NumberedNode) → live (tidied i nodes) ≡ live nodes
tidied_live i [] = refl
tidied_live i (x ∷ rest) = grind (arith, tidied_live i rest)

pub tidied_number : (i j : ℕ) (nodes : List NumberedNode) → number_of j (tidied i nodes) ≡ number_of j nodes
tidied_number i j [] = refl
tidied_number i j (x ∷ rest) = grind (arith, tidied_number i j rest)

tidied_absent : (i q : ℕ) (nodes : List NumberedNode) → at_place q nodes ≡ None →
    at_place q (tidied i nodes) ≡ None
tidied_absent i q [] e = refl
tidied_absent i q (x ∷ rest) e = grind (arith, tidied_absent i q rest)

tidied_apart : (i : ℕ) (nodes : List NumberedNode) → StandApart nodes → StandApart (tidied i nodes)
tidied_apart i [] apart = tt
tidied_apart i (x ∷ rest) apart =
    grind (arith, tidied_absent i x.number.place rest apart.0, tidied_apart i rest apart.1)

tidied_head : (i : ℕ) (nodes : List NumberedNode) → LiveHead nodes → LiveHead (tidied i nodes)
tidied_head i [] head = tt
tidied_head i (x ∷ rest) head = grind arith

tidied_length : (i : ℕ) (nodes : List NumberedNode) → length (tidied i nodes) ≤ length nodes
tidied_length i [] = omega arith
tidied_length i (x ∷ rest) = grind (arith, tidied_length i rest)

pub kept_tidied : (i seats waiting : ℕ) (n m : Nodes) (table : List (Option NodeNo)) →
    IsLinkedLine seats waiting n table → m.nodes ≡ tidied i n.nodes → m.places ≡ n.places →
    IsLinkedLine seats waiting m table
kept_tidied i seats waiting n m table kept is places =
    let line : live m.nodes ≡ live n.nodes = ap live is ∙ tidied_live i n.nodes in
    record {
      once = subst StandOnce (sym line) kept.once;
      tabled = λ j. kept.tabled j ∙ sym (ap (number_of j) is ∙ tidied_number i j n.nodes);
      one_a_seat = kept.one_a_seat;
      apart = subst StandApart (sym is) (tidied_apart i n.nodes kept.apart);
      headed = subst LiveHead (sym is) (tidied_head i n.nodes kept.headed);
      counted = ap length line ∙ kept.counted;
      bounded = omega (arith, ap length is, tidied_length i n.nodes, kept.bounded);
      reserved = omega (arith, kept.reserved, places);
      few = kept.few;
    }

-- ---- when nothing goes

-- the first node is the first that waits
first_waits : (i : ℕ) (x : NumberedNode) (nodes : List NumberedNode) → slice_get nodes 0 ≡ Some x →
    x.node.cancelled ≡ false → x.node.arrival.seat ≡ i → is_first i (live nodes) ≡ true
first_waits i x [] at stays seat = absurd (none-some x at)
first_waits i x (y ∷ rest) at stays seat = grind (arith, nat_tests)

pub tidied_is_tidy : (i : ℕ) (nodes : List NumberedNode) → IsTidy i (tidied i nodes)
tidied_is_tidy i [] = λ k before x at here stays seat. absurd (none-some x here)
tidied_is_tidy i (y ∷ rest) =
    elim (either (y.node.cancelled && is_first i (live rest))) [
      | inl goes ↦ subst (IsTidy i) (sym (cond-true _ _ _ goes)) (tidied_is_tidy i rest)
      | inr stays ↦ subst (IsTidy i) (sym (cond-false _ _ _ stays)) (front stays (tidied_is_tidy i rest))
    ]
  where
    front : (y.node.cancelled && is_first i (live rest)) ≡ false → IsTidy i (tidied i rest) →
        IsTidy i (y ∷ tidied i rest)
    front keeps ih zero before x at here stays seat = absurd (none-some before at)
    front keeps ih (suc zero) before x at here stays seat =
        grind (arith, tidied_live i rest, first_waits i x (tidied i rest) here stays seat)
    front keeps ih (suc (suc k)) before x at here stays seat = ih (suc k) before x at here stays seat

tidy_behind : (i : ℕ) (x : NumberedNode) (rest : List NumberedNode) → IsTidy i (x ∷ rest) → IsTidy i rest
tidy_behind i x rest tidy zero before y at here stays seat = absurd (none-some before at)
tidy_behind i x rest tidy (suc k) before y at here stays seat = tidy (suc (suc k)) before y at here stays seat

-- a cancelled node with none but cancelled ones between it and the seat's
untidy : (i : ℕ) (x : NumberedNode) (rest : List NumberedNode) → x.node.cancelled ≡ true →
    is_first i (live rest) ≡ true → IsTidy i (x ∷ rest) → ⊥
untidy i x [] gone first tidy = cc
untidy i x (y ∷ rest) gone first tidy =
    let later : y.node.cancelled ≡ true → is_first i (live rest) ≡ true → ⊥ =
    λ e f. untidy i y rest e f (tidy_behind i x (y ∷ rest) tidy) in
    grind (arith, nat_tests, tidy 1 x y refl refl, later)

pub tidied_tidy : (i : ℕ) (nodes : List NumberedNode) → IsTidy i nodes → tidied i nodes ≡ nodes
tidied_tidy i [] tidy = refl
tidied_tidy i (x ∷ rest) tidy =
    let no : x.node.cancelled ≡ true → is_first i (live rest) ≡ true → ⊥ = λ e f. untidy i x rest e f tidy in
    grind (arith, no, tidied_tidy i rest (tidy_behind i x rest tidy))

-- a node that isn't cancelled stands in line
at_live : (nodes : List NumberedNode) (k : ℕ) (x : NumberedNode) → StandApart nodes → slice_get nodes k ≡ Some x →
    x.node.cancelled ≡ false → is_some (place_of x.node.arrival.seat (live nodes)) ≡ true
at_live nodes k x apart at stays = stands_live x.number.place x nodes (at_index nodes k x apart at) stays

pub absent_tidy : (i : ℕ) (nodes : List NumberedNode) → StandApart nodes → place_of i (live nodes) ≡ None →
    IsTidy i nodes
absent_tidy i nodes apart absent k before x at here stays seat =
    let some = at_live nodes k x apart here stays in absurd (cc (some, seat, absent))

-- what a contract sees
abbrev pub seen : ℕ → Nodes → Line
seen seats n = record { seats = seats; joined = n.placed; arrivals = live n.nodes; nodes = n.nodes }

-- the same, where the nodes are the same
pub same_line : (seats : ℕ) (m n : Nodes) → m.nodes ≡ n.nodes → m.placed ≡ n.placed →
    seen seats m ≡ seen seats n
same_line seats m n is placed =
    ap (λ l. record { seats = seats; joined = m.placed; arrivals = live l; nodes = l }) is
    ∙ ap (λ p. record { seats = seats; joined = p; arrivals = live n.nodes; nodes = n.nodes }) placed

-- ---- the node of a seat

once_behind : (x : NumberedNode) (rest : List NumberedNode) → StandOnce (live (x ∷ rest)) → StandOnce (live rest)
once_behind x rest once = grind arith

-- a seat that waits has one node
module _ (i : ℕ) (x y : NumberedNode) (x_stays : x.node.cancelled ≡ false) (y_stays : y.node.cancelled ≡ false)
    (x_seat : x.node.arrival.seat ≡ i) (y_seat : y.node.arrival.seat ≡ i) where
  same_index : (nodes : List NumberedNode) (k j : ℕ) → StandOnce (live nodes) → StandApart nodes →
      slice_get nodes k ≡ Some x → slice_get nodes j ≡ Some y → k ≡ j
  same_index [] k j once apart at_x at_y = absurd (none-some x at_x)
  same_index (z ∷ rest) zero zero once apart at_x at_y = refl
  same_index (z ∷ rest) zero (suc j) once apart at_x at_y =
      let later = at_live rest j y apart.1 at_y y_stays in absurd (grind arith)
  same_index (z ∷ rest) (suc k) zero once apart at_x at_y =
      let later = at_live rest k x apart.1 at_x x_stays in absurd (grind arith)
  same_index (z ∷ rest) (suc k) (suc j) once apart at_x at_y =
      ap suc (same_index rest k j (once_behind z rest once) apart.1 at_x at_y)

-- what stands before the node of a seat
pub record IsBefore (i : ℕ) (number : NodeNo) (nodes : List NumberedNode) (before : Option NumberedNode) : Type 0
  where
    pub found : Found i number nodes
    pub is : before ≡ standing_before nodes found.k

pub before_node : (i : ℕ) (number : NodeNo) (nodes : List NumberedNode) (before : Option NumberedNode) →
    StandApart nodes → number_of i nodes ≡ Some number →
    ((k : ℕ) (node : Node) → slice_get nodes k ≡ Some (record { number = number; node = node }) →
    before ≡ standing_before nodes k) → IsBefore i number nodes before
before_node i number nodes before apart e told =
    let f = find_node i number nodes apart e in
    let own = ap (λ (n : NodeNo). Some (record { number = n; node = f.node.node })) f.is in
    record { found = f; is = told f.k f.node.node (f.here ∙ own) }

-- nothing before the seat's node is cancelled
pub ends_tidied : (i : ℕ) (number : NodeNo) (nodes : List NumberedNode) (before : Option NumberedNode) →
    StandOnce (live nodes) → StandApart nodes → IsBefore i number nodes before →
    ((b : NumberedNode) → before ≡ Some b → b.node.cancelled ≡ false) → nodes ≡ tidied i nodes
ends_tidied i number nodes before once apart b ends =
    let f = b.found in
    sym (tidied_tidy i nodes (λ j other y at_b at_y stays seat.
    let k : f.k ≡ j =
    same_index i f.node y f.stays stays f.seat seat nodes f.k j once apart f.here at_y in
    ends other (b.is ∙ ap (standing_before nodes) k ∙ at_b)))

-- ---- freeing one

-- the node at a place, right before a seat's, goes
pub record Freed (i p : ℕ) (nodes : List NumberedNode) : Type 0 where
  pub tidied : tidied i (without_place p nodes) ≡ tidied i nodes
  pub shorter : length (without_place p nodes) < length nodes

module _ (i : ℕ) (x b : NumberedNode) (stays : x.node.cancelled ≡ false) (seat : x.node.arrival.seat ≡ i)
    (gone : b.node.cancelled ≡ true) where
  freed_at : (nodes : List NumberedNode) (k : ℕ) → StandApart nodes → slice_get nodes k ≡ Some b →
      slice_get nodes (suc k) ≡ Some x → Freed i b.number.place nodes
  freed_at [] k apart at next = absurd (none-some b at)
  freed_at (y ∷ rest) zero apart at next =
      let is : y ≡ b = same_Some _ _ at in
      let left : without_place b.number.place (y ∷ rest) ≡ rest =
      without_head b.number.place y rest apart (ap (λ (z : NumberedNode). z.number.place) is) in
      let first = first_waits i x rest next stays seat in
      record { tidied = rw left (grind arith); shorter = omega (arith, ap length left) }
  freed_at (y ∷ rest) (suc k) apart at next =
      let ih = freed_at rest k apart.1 at next in
      let before = at_index rest k b apart.1 at in
      let left : without_place b.number.place (y ∷ rest) ≡ y ∷ without_place b.number.place rest =
      grind (arith, nat_tests) in
      record {
        tidied = rw left (grind (
          arith,
          ih.tidied,
          tidied_live i (without_place b.number.place rest),
          tidied_live i rest,
        ));
        shorter = let s = ih.shorter in omega (arith, ap length left, s);
      }

  pub freed : (nodes : List NumberedNode) (k : ℕ) → StandApart nodes → slice_get nodes k ≡ Some x →
      standing_before nodes k ≡ Some b → Freed i b.number.place nodes
  freed nodes zero apart at before = absurd (none-some b before)
  freed nodes (suc k) apart at before = freed_at nodes k apart before at

pub before_at : (nodes : List NumberedNode) (k : ℕ) (b : NumberedNode) → StandApart nodes →
    standing_before nodes k ≡ Some b → at_place b.number.place nodes ≡ Some b
before_at nodes zero b apart e = absurd (none-some b e)
before_at nodes (suc k) b apart e = at_index nodes k b apart e

-- ---- where as much stays as before

pub number_still : (i : ℕ) (number : NodeNo) (old now : List NumberedNode) → tidied i now ≡ tidied i old →
    number_of i old ≡ Some number → number_of i now ≡ Some number
number_still i number old now same e =
    sym (tidied_number i i now) ∙ ap (number_of i) same ∙ tidied_number i i old ∙ e

pub once_still : (i : ℕ) (old now : List NumberedNode) → tidied i now ≡ tidied i old → StandOnce (live old) →
    StandOnce (live now)
once_still i old now same once =
    subst StandOnce (sym (sym (tidied_live i now) ∙ ap live same ∙ tidied_live i old)) once
