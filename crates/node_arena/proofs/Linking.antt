-- What placing, freeing and cancelling make of the nodes that one list links.
use Rattle.std.proofs.Common.{rules, ◌≡◌, ◌≢◌, ℕ, ◌+◌, List, [], ◌∷◌, ◌++◌, length, map, not, get_or, true, Option, Some, None, IsSome, cond, slice_get, zero, suc, refl, sym, ap, ◌∙◌, subst, inl, inr, arith, eq-eqb, ne_eqb}
use Rattle.std.proofs.lemmas.Bool.{cases_eq, cond-true, cond-false}
use Rattle.std.proofs.lemmas.List.{length_push, map-append}
use Rattle.std.proofs.lemmas.Option.{none-some, same_Some}
use Rattle.std.specs.Option.{option_map}
use Rattle.node_arena.specs.declared.node.Node.{Node}
use Rattle.node_arena.specs.declared.node.NodeNo.{NodeNo}
use Rattle.node_arena.specs.declared.node.NumberedNode.{NumberedNode}
use Rattle.node_arena.specs.declared.arena.Slot.{Slot}
use Rattle.node_arena.specs.Arena.{Places, slot_at, taken, standing_by, standing_in, of_generation, find, Changes}
use Rattle.node_arena.specs.LinkedLists.{
  LinkedLists,
  items,
  list_of,
  one_before,
  without,
  IsIn,
  IsApart,
  Moves,
}
use Rattle.node_arena.specs.NodeList.{standing_at, is_at, at_place, of_number, under, without_place, cancelled, cancel_at, StandApart, standing_before, list_by, nodes_of, IsLinked}
use Rattle.node_arena.proofs.Rings.{without_head, without_past, IsIn-without, IsIn-without_kept, IsApart-without, IsIn-push, IsIn-push_kept, IsIn-push_last, IsApart-push, length-without}

place_by : (p : ℕ) (o : Option Slot) → (standing_by p o).number.place ≡ p
place_by p None = refl
place_by p (Some s) = refl

pub place_at : (slots : List (Option Slot)) (p : ℕ) → (standing_at slots p).number.place ≡ p
place_at slots p = place_by p (get_or slots p None)

-- ---- the nodes at a list of places

pub at_place-in : (slots : List (Option Slot)) (keys : List ℕ) (p : ℕ) → IsIn p keys →
    at_place p (map (standing_at slots) keys) ≡ Some (standing_at slots p)
at_place-in slots [] p found = absurd found
at_place-in slots (first ∷ rest) p found =
    elim (cases_eq first p) [
      | inl same ↦
          cond-true _ _ _ (eq-eqb _ p (place_at slots first ∙ same))
          ∙ ap (λ q. Some (standing_at slots q)) same
      | inr differs ↦
          cond-false _ _ _ (ne_eqb _ p (λ e. differs (sym (place_at slots first) ∙ e)))
          ∙ at_place-in slots rest p (elim found [ inl here ↦ absurd (differs here) | inr there ↦ there ])
    ]

pub at_place-out : (slots : List (Option Slot)) (keys : List ℕ) (p : ℕ) → ¬ IsIn p keys →
    at_place p (map (standing_at slots) keys) ≡ None
at_place-out slots [] p absent = refl
at_place-out slots (first ∷ rest) p absent =
    cond-false _ _ _ (ne_eqb _ p (λ e. absent (inl (sym (place_at slots first) ∙ e))))
    ∙ at_place-out slots rest p (λ there. absent (inr there))

pub apart_nodes : (slots : List (Option Slot)) (keys : List ℕ) → IsApart keys →
    StandApart (map (standing_at slots) keys)
apart_nodes slots [] apart = tt
apart_nodes slots (first ∷ rest) apart = (
  ap (λ q. at_place q (map (standing_at slots) rest)) (place_at slots first)
      ∙ at_place-out slots rest first apart.0,
  apart_nodes slots rest apart.1,
)

module _ (old new : List (Option Slot)) (p : ℕ)
    (others : (q : ℕ) → q ≢ p → get_or new q None ≡ get_or old q None) where
  same_at : (q : ℕ) → q ≢ p → standing_at new q ≡ standing_at old q
  same_at q differs = ap (standing_by q) (others q differs)

  nodes_kept : (keys : List ℕ) → ¬ IsIn p keys → map (standing_at new) keys ≡ map (standing_at old) keys
  nodes_kept [] absent = refl
  nodes_kept (first ∷ rest) absent =
      ap (λ x. x ∷ map (standing_at new) rest) (same_at first (λ same. absent (inl same)))
      ∙ ap (λ xs. standing_at old first ∷ xs) (nodes_kept rest (λ there. absent (inr there)))

  pub nodes-push : (keys : List ℕ) (s : Slot) → ¬ IsIn p keys → get_or new p None ≡ Some s →
      map (standing_at new) (keys ++ p ∷ []) ≡ map (standing_at old) keys ++ standing_by p (Some s) ∷ []
  nodes-push keys s absent changed =
      map-append (standing_at new) keys (p ∷ [])
      ∙ ap (λ xs. xs ++ standing_at new p ∷ []) (nodes_kept keys absent)
      ∙ ap (λ x. map (standing_at old) keys ++ x ∷ []) (ap (standing_by p) changed)

  pub nodes-without : (keys : List ℕ) →
      map (standing_at new) (without p keys) ≡ without_place p (map (standing_at old) keys)
  nodes-without [] = refl
  nodes-without (first ∷ rest) =
      elim (cases_eq first p) [
        | inl same ↦
            ap (map (standing_at new)) (without_head p first rest same) ∙ nodes-without rest
            ∙ sym (cond-false _ _ _ (ap not (eq-eqb _ p (place_at old first ∙ same))))
        | inr differs ↦
            ap (map (standing_at new)) (without_past p first rest differs)
            ∙ ap (λ x. x ∷ map (standing_at new) (without p rest)) (same_at first differs)
            ∙ ap (λ xs. standing_at old first ∷ xs) (nodes-without rest)
            ∙ sym (cond-true _ _ _ (ap not (ne_eqb _ p (λ e. differs (sym (place_at old first) ∙ e)))))
      ]

  pub nodes-cancel : (keys : List ℕ) → standing_at new p ≡ cancelled (standing_at old p) →
      map (standing_at new) keys ≡ cancel_at p (map (standing_at old) keys)
  nodes-cancel [] changed = refl
  nodes-cancel (first ∷ rest) changed =
      let here : standing_at new first
      ≡ cond (is_at p (standing_at old first)) (cancelled (standing_at old first))
      (standing_at old first) =
      elim (cases_eq first p) [
        | inl same ↦
            ap (standing_at new) same ∙ changed ∙ ap (λ q. cancelled (standing_at old q)) (sym same)
            ∙ sym (cond-true _ _ _ (eq-eqb _ p (place_at old first ∙ same)))
        | inr differs ↦
            same_at first differs
            ∙ sym (cond-false _ _ _ (ne_eqb _ p (λ e. differs (sym (place_at old first) ∙ e))))
      ] in
      ap (λ x. x ∷ map (standing_at new) rest) here
      ∙ ap (λ xs. cond (is_at p (standing_at old first)) (cancelled (standing_at old first))
      (standing_at old first) ∷ xs)
      (nodes-cancel rest changed)

-- ---- an arena and the list that links its places

some_is : (o : Option Slot) → IsSome o → (s : Slot) × (o ≡ Some s)
some_is None some = cc
some_is (Some s) some = (s, refl)

none_not : (o : Option Slot) → o ≡ None → ¬ IsSome o
none_not o e some = let is = some_is o some in none-some is.0 (sym e ∙ is.1)

is_some_by : (o : Option Slot) (s : Slot) → o ≡ Some s → IsSome o
is_some_by None s e = absurd (none-some s e)
is_some_by (Some x) s e = search rules

module _ (a : Places) (l : LinkedLists) (is : IsLinked a l) where
  pub not_listed : (p : ℕ) → slot_at a p ≡ None → ¬ IsIn p (items l 0)
  not_listed p e found = none_not (slot_at a p) e (is.stands p found)

  pub under_is : (number : NodeNo) → under number (nodes_of a l) ≡ find a number
  under_is number = by (slot_at a number.place) refl
    where
      by : (o : Option Slot) → slot_at a number.place ≡ o →
          of_number number (at_place number.place (nodes_of a l))
          ≡ of_generation number.generation (slot_at a number.place)
      by None e =
          ap (of_number number) (at_place-out a.slots (items l 0) number.place (not_listed number.place e))
          ∙ ap (of_generation number.generation) (sym e)
      by (Some s) e =
          ap (of_number number)
          (at_place-in a.slots (items l 0) number.place (is.listed number.place (is_some_by _ s e))
          ∙ ap (λ o. Some (standing_by number.place o)) e)
          ∙ ap (of_generation number.generation) (sym e)

  pub nodes_apart : StandApart (nodes_of a l)
  nodes_apart = apart_nodes a.slots (items l 0) is.apart

  pub linked-push : (b : Places) (m : LinkedLists) (p : ℕ) (s : Slot) → slot_at a p ≡ None →
      Changes a b p (Some s) → taken b ≡ taken a + 1 → Moves l m p (Some 0) →
      items m 0 ≡ items l 0 ++ p ∷ [] → IsLinked b m
  linked-push b m p s vacant changes more moves pushed =
      let absent = not_listed p vacant in
      record {
        linked = λ q.
            elim (cases_eq q p) [
              | inl same ↦ ap (list_of m) same ∙ moves.moved
                  ∙ ap list_by (sym changes.changed ∙ ap (slot_at b) (sym same))
              | inr differs ↦ moves.others q differs ∙ is.linked q
                  ∙ ap list_by (sym (changes.others q differs))
            ];
        stands = λ q found.
            elim (cases_eq q p) [
              | inl same ↦ is_some_by _ s (ap (slot_at b) same ∙ changes.changed)
              | inr differs ↦
                  elim (IsIn-push p q (items l 0) (subst (IsIn q) pushed found)) [
                    | inl old ↦ subst IsSome (sym (changes.others q differs)) (is.stands q old)
                    | inr new ↦ absurd (differs (sym new))
                  ]
            ];
        listed = λ q some.
            subst (IsIn q) (sym pushed)
            (elim (cases_eq q p) [
              | inl same ↦ subst (λ k. IsIn k (items l 0 ++ p ∷ [])) (sym same) (IsIn-push_last p (items l 0))
              | inr differs ↦ IsIn-push_kept p q (items l 0)
                  (is.listed q (subst IsSome (changes.others q differs) some))
            ]);
        apart = subst IsApart (sym pushed) (IsApart-push p (items l 0) is.apart absent);
        counted = more ∙ omega (arith, is.counted, ap length pushed, length_push (items l 0) p);
        one = moves.count ∙ is.one;
        room = omega (arith, is.room, changes.limit, moves.limit);
      }

  pub linked-without : (b : Places) (m : LinkedLists) (p : ℕ) → IsSome (slot_at a p) → Changes a b p None →
      taken b + 1 ≡ taken a → Moves l m p None → items m 0 ≡ without p (items l 0) → IsLinked b m
  linked-without b m p some changes fewer moves left =
      record {
        linked = λ q.
            elim (cases_eq q p) [
              | inl same ↦ ap (list_of m) same ∙ moves.moved
                  ∙ ap list_by (sym changes.changed ∙ ap (slot_at b) (sym same))
              | inr differs ↦ moves.others q differs ∙ is.linked q
                  ∙ ap list_by (sym (changes.others q differs))
            ];
        stands = λ q found.
            let was = IsIn-without p q (items l 0) (subst (IsIn q) left found) in
            subst IsSome (sym (changes.others q was.1)) (is.stands q was.0);
        listed = λ q there.
            let differs : q ≢ p = λ same. none_not (slot_at b q) (ap (slot_at b) same
            ∙ changes.changed) there in
            subst (IsIn q) (sym left)
            (IsIn-without_kept p q (items l 0) (is.listed q (subst IsSome (changes.others q differs) there))
            differs);
        apart = subst IsApart (sym left) (IsApart-without p (items l 0) is.apart);
        counted = omega (
          arith,
          fewer,
          is.counted,
          ap length left,
          length-without p (items l 0) is.apart
              (is.listed p some),
        );
        one = moves.count ∙ is.one;
        room = omega (arith, is.room, changes.limit, moves.limit);
      }

-- what a number that finds a node tells of its place
pub found_slot : (a : Places) (number : NodeNo) (node : Node) → find a number ≡ Some node →
    slot_at a number.place ≡ Some (record { generation = number.generation; node = node })
found_slot a number node found = by (slot_at a number.place) refl found
  where
    by : (o : Option Slot) → slot_at a number.place ≡ o → of_generation number.generation o ≡ Some node →
        slot_at a number.place ≡ Some (record { generation = number.generation; node = node })
    by None e found = absurd (none-some node found)
    by (Some s) e found =
        elim (cases_eq s.generation number.generation) [
          | inl same ↦
              let is : s.node ≡ node = same_Some _ _ (sym (cond-true _ _ _ (eq-eqb _ _ same)) ∙ found) in
              e ∙ ap (λ g. Some (record { generation = g; node = s.node })) same
              ∙ ap (λ n. Some (record { generation = number.generation; node = n })) is
          | inr differs ↦ absurd (none-some node (sym (cond-false _ _ _ (ne_eqb _ _ differs)) ∙ found))
        ]

pub found_some : (a : Places) (number : NodeNo) (node : Node) → find a number ≡ Some node →
    IsSome (slot_at a number.place)
found_some a number node found = is_some_by _ _ (found_slot a number node found)

module _ (a : Places) (l : LinkedLists) (is : IsLinked a l) (number : NodeNo) (node : Node)
    (found : find a number ≡ Some node) where
  pub in_list : list_of l number.place ≡ Some 0
  in_list = is.linked number.place ∙ ap list_by (found_slot a number node found)

  pub cancelled_now : (b : Places) → Changes a b number.place (Some (record {
    generation = number.generation;
    node = record { arrival = node.arrival; cancelled = true };
  })) → nodes_of b l ≡ cancel_at number.place (nodes_of a l)
  cancelled_now b changes =
      nodes-cancel a.slots b.slots number.place changes.others (items l 0)
      (ap (standing_by number.place) changes.changed
      ∙ sym (ap (λ o. cancelled (standing_by number.place o)) (found_slot a number node found)))

pub some_in_list : (a : Places) (l : LinkedLists) (number : NodeNo) → IsLinked a l →
    IsSome (under number (nodes_of a l)) → IsSome (list_of l number.place)
some_in_list a l number is some = by (find a number) refl (rw (under_is a l is number) at some)
  where
    by : (o : Option Node) → find a number ≡ o → IsSome o → IsSome (list_of l number.place)
    by None e some = cc
    by (Some node) e some = subst IsSome (sym (in_list a l is number node e)) refl

-- the nodes by their index
index_in : (keys : List ℕ) (k q : ℕ) → slice_get keys k ≡ Some q → IsIn q keys
index_in [] k q found = absurd (none-some q found)
index_in (first ∷ rest) zero q found = inl (same_Some first q found)
index_in (first ∷ rest) (suc k) q found = inr (index_in rest k q found)

get_map : {X Y : Type 0} (f : X → Y) (xs : List X) (k : ℕ) →
    slice_get (map f xs) k ≡ option_map f (slice_get xs k)
get_map f [] k = refl
get_map f (x ∷ xs) zero = refl
get_map f (x ∷ xs) (suc k) = get_map f xs k

module _ (a : Places) (l : LinkedLists) (is : IsLinked a l) where
  -- what an arena finds at a place of the list
  found_at : (o : Option ℕ) (q : ℕ) → o ≡ Some q → IsIn q (items l 0) →
      standing_in q (slot_at a q) ≡ option_map (standing_at a.slots) o
  found_at o q e listed =
      let s = some_is (slot_at a q) (is.stands q listed) in
      ap (standing_in q) s.1 ∙ sym (ap (λ x. Some (standing_by q x)) s.1)
      ∙ sym (ap (option_map (standing_at a.slots)) e)

  pub index_place : (k : ℕ) (number : NodeNo) (node : Node) →
      slice_get (nodes_of a l) k ≡ Some (record { number = number; node = node }) →
      slice_get (items l 0) k ≡ Some number.place
  index_place k number node found =
      by (slice_get (items l 0) k) (sym (get_map (standing_at a.slots) (items l 0) k) ∙ found)
    where
      by : (o : Option ℕ) →
          option_map (standing_at a.slots) o ≡ Some (record { number = number; node = node }) →
          o ≡ Some number.place
      by None e = cc
      by (Some q) e = ap Some (sym (place_at a.slots q)
          ∙ ap (λ (x : NumberedNode). x.number.place) (same_Some _ _ e))

  pub found_index : (k q : ℕ) → Some q ≡ slice_get (items l 0) k →
      standing_in q (slot_at a q) ≡ slice_get (nodes_of a l) k
  found_index k q e =
      found_at (slice_get (items l 0) k) q (sym e) (index_in (items l 0) k q (sym e))
      ∙ sym (get_map (standing_at a.slots) (items l 0) k)

  pub no_index : (k : ℕ) → None ≡ slice_get (items l 0) k → None ≡ slice_get (nodes_of a l) k
  no_index k e =
      ap (option_map (standing_at a.slots)) e ∙ sym (get_map (standing_at a.slots) (items l 0) k)

  pub at_is : (p : ℕ) → standing_in p (slot_at a p) ≡ at_place p (nodes_of a l)
  at_is p = by (slot_at a p) refl
    where
      by : (o : Option Slot) → slot_at a p ≡ o → standing_in p (slot_at a p) ≡ at_place p (nodes_of a l)
      by None e = ap (standing_in p) e ∙ sym (at_place-out a.slots (items l 0) p (not_listed a l is p e))
      by (Some s) e =
          ap (standing_in p) e ∙ sym (ap (λ o. Some (standing_by p o)) e)
          ∙ sym (at_place-in a.slots (items l 0) p (is.listed p (is_some_by _ s e)))

  pub some_slot : (p : ℕ) → IsSome (at_place p (nodes_of a l)) → IsSome (slot_at a p)
  some_slot p some = by (slot_at a p) (rw (← at_is p) at some)
    where
      by : (o : Option Slot) → IsSome (standing_in p o) → IsSome o
      by None some = cc
      by (Some s) some = search rules

  pub before_none : (k : ℕ) → None ≡ one_before (items l 0) k → None ≡ standing_before (nodes_of a l) k
  before_none zero e = refl
  before_none (suc k) e = no_index k e

  pub before_some : (k q : ℕ) → Some q ≡ one_before (items l 0) k →
      standing_in q (slot_at a q) ≡ standing_before (nodes_of a l) k
  before_some zero q e = cc
  before_some (suc k) q e = found_index k q e
