-- From the links of `LinkedLists` to what a contract sees.
use Rattle.std.proofs.Common.{◌≡◌, ◌≢◌, ◌⊎◌, ℕ, zero, suc, ◌+◌, ◌-◌, ◌<◌, ◌≤◌, List, [], ◌∷◌, ◌++◌, length, get_or, set, replicate, take, take_all, append-nil, Bool, true, false, slice_get, Option, Some, None, IsSome, IfSome, cond, count_by, ltb, add-one, refl, sym, ap, ◌∙◌, subst, inl, inr, arith, eq-eqb, ne_eqb, length-set, get_or-set_same, get_or-set_other, lt-ltb, le-ltb, length-append}
use Rattle.std.proofs.lemmas.Bool.{cases_eq, cases_lt, cond-true, cond-false}
use Rattle.std.proofs.lemmas.List.{get_or_past, get_or_push, get_or_read, get_or_append_left, get_or-append_right, length_push, length-replicate}
use Rattle.std.proofs.lemmas.List.FromFn.{length-map-range_with_len, get_or-map-range_with_len}
use Rattle.std.proofs.lemmas.List.Sums.{sum_by-set, sum_by-append}
use Rattle.std.proofs.lemmas.List.Folds.{sum_by-replicate}
use Rattle.std.proofs.lemmas.Option.{none-some, same_Some}
use Rattle.node_arena.specs.declared.linked_lists.Link.{Link}
use Rattle.node_arena.specs.LinkedLists.{items, list_count, one_before, without, IsIn, IsApart, IsEmpty}
use Rattle.node_arena.specs.inner.LinkedLists.{SameLists}
use Rattle.node_arena.specs.Links.{no_link, next_of, prev_of, Skips, Splices, is_list, walk, IsChain, IsRing, keys_of, lists_of, IsSound}
use Rattle.node_arena.proofs.Rings.{length-without, length-walk, IsOn, walk_chain, prev_end_on, prev_on, next_on, IsRing-kept, IsRing-skip, IsRing-push, rings_apart, free_not_on}

-- a key with a list has room
pub owned_within : (owners : List (Option ℕ)) (key list : ℕ) → get_or owners key None ≡ Some list →
    key < length owners
owned_within owners key list owned =
    elim (cases_lt key (length owners)) [
      | inl within ↦ within
      | inr past ↦ absurd (none-some list (sym (get_or_past owners key None past) ∙ owned))
    ]

is_list_same : (list : ℕ) → ◌≡◌ {A = ℕ} (cond (is_list list (Some list)) 1 0) 1
is_list_same list = cond-true _ _ _ (eq-eqb list list refl)

is_list_other : (list other : ℕ) → other ≢ list → ◌≡◌ {A = ℕ} (cond (is_list other (Some list)) 1 0) 0
is_list_other list other differs = cond-false _ _ _ (ne_eqb list other (λ same. differs (sym same)))

-- how the count of a list's keys follows a write to one key
count-set : (owners : List (Option ℕ)) (key list : ℕ) (old new : Option ℕ) → key < length owners →
    get_or owners key None ≡ old → count_by (is_list list) (set owners key new) + cond (is_list list old) 1 0
    ≡ count_by (is_list list) owners + cond (is_list list new) 1 0
count-set owners key list old new within read =
    rw (← read) (sum_by-set (λ o. cond (is_list list o) 1 0) owners key new None within)

-- the first key of a chain that closes at a head
first_of_ring : (next prev : ℕ → ℕ) (heads list : ℕ) (keys : List ℕ) → list < heads →
    IsChain next prev heads list keys list →
    ((next list ≡ list) × (keys ≡ [])) ⊎ ((heads ≤ next list) × (slice_get keys 0 ≡ Some (next list - heads))
    × IsIn (next list - heads) keys)
first_of_ring next prev heads list [] head chain = inl (chain.0, refl)
first_of_ring next prev heads list (first ∷ rest) head chain =
    let key : first ≡ next list - heads = omega (arith, chain.0) in
    inr (omega (arith, chain.0), ap Some key, inl key)

module _ (links : List Link) (owners : List (Option ℕ)) (heads : ℕ) where
  pub list_count-lists_of : list_count (lists_of links owners heads) ≡ heads
  list_count-lists_of = length-map-range_with_len (keys_of links owners heads) 0 heads

  pub items-lists_of : (list : ℕ) → list < heads →
      items (lists_of links owners heads) list ≡ keys_of links owners heads list
  items-lists_of list head =
      get_or-map-range_with_len (keys_of links owners heads) 0 heads list list [] head (omega arith)

  pub items_past : (list : ℕ) → heads ≤ list → items (lists_of links owners heads) list ≡ []
  items_past list past = get_or_past _ list [] (omega (arith, list_count-lists_of))

  length-keys_of : (list : ℕ) → length (keys_of links owners heads list) ≡ count_by (is_list list) owners
  unfolding keys_of
  length-keys_of list = length-walk (next_of links) heads _ list

  -- a ring with as many keys as the list owns is what the walk finds
  pub keys_of_ring : (list : ℕ) (keys : List ℕ) →
      IsChain (next_of links) (prev_of links) heads list keys list →
      count_by (is_list list) owners ≡ length keys → keys_of links owners heads list ≡ keys
  unfolding keys_of
  keys_of_ring list keys chain count =
      ap (λ n. walk (next_of links) heads n list) count
      ∙ walk_chain (next_of links) (prev_of links) heads list keys list chain

  module _ (sound : IsSound links owners heads) where
    on_within : (list at : ℕ) → list < heads → IsOn heads list (keys_of links owners heads list) at →
        at < length links
    on_within list at head on =
        elim on [
          | inl here ↦ omega (arith, sound.sized)
          | inr found ↦ omega (
            arith,
            sound.sized,
            found.2,
            owned_within owners found.0 list
                ((sound.rings list head).owned found.0 found.1),
          )
        ]

    last_on : (list : ℕ) → list < heads →
        IsOn heads list (keys_of links owners heads list) (prev_of links list)
    last_on list head = prev_end_on _ _ heads list _ list (sound.rings list head).chained

    before_on : (list key : ℕ) → (owned : get_or owners key None ≡ Some list) →
        IsOn heads list (keys_of links owners heads list) (prev_of links (heads + key))
    before_on list key owned =
        let ring = sound.rings list (sound.known key list owned) in
        prev_on _ _ heads list _ list key ring.chained (ring.listed key owned)

    after_on : (list key : ℕ) → (owned : get_or owners key None ≡ Some list) →
        IsOn heads list (keys_of links owners heads list) (next_of links (heads + key))
    after_on list key owned =
        let ring = sound.rings list (sound.known key list owned) in
        next_on _ _ heads list _ list key ring.chained (ring.listed key owned)

    pub last_within : (list : ℕ) → list < heads → prev_of links list < length links
    last_within list head = on_within list _ head (last_on list head)

    pub before_within : (list key : ℕ) → get_or owners key None ≡ Some list →
        prev_of links (heads + key) < length links
    before_within list key owned = on_within list _ (sound.known key list owned) (before_on list key owned)

    pub after_within : (list key : ℕ) → get_or owners key None ≡ Some list →
        next_of links (heads + key) < length links
    after_within list key owned = on_within list _ (sound.known key list owned) (after_on list key owned)

    pub free_not_last : (list key : ℕ) → list < heads → get_or owners key None ≡ None →
        heads + key ≢ prev_of links list
    free_not_last list key head free same =
        free_not_on _ _ heads _ list _ key head (sound.rings list head) free
        (subst (IsOn heads list (keys_of links owners heads list)) (sym same) (last_on list head))

    pub owner_known : (key : ℕ) →
        IfSome (get_or owners key None) (λ list. list < list_count (lists_of links owners heads))
    owner_known key =
        elim (get_or owners key None) as (λ o. get_or owners key None ≡ o →
        IfSome o (λ list. list < list_count (lists_of links owners heads))) [
          | None ↦ λ _. tt
          | Some list ↦ λ owned. omega (arith, sound.known key list owned, list_count-lists_of)
        ] refl

    -- a list holds only the keys that it owns
    pub absent_elsewhere : (key list : ℕ) → get_or owners key None ≢ Some list →
        ¬ IsIn key (items (lists_of links owners heads) list)
    absent_elsewhere key list other =
        elim (cases_lt list heads) [
          | inl head ↦ rw (items-lists_of list head)
              (λ found. other ((sound.rings list head).owned key found))
          | inr past ↦ rw (items_past list past) (λ nowhere. nowhere)
        ]

    pub items_apart : (list : ℕ) → list < heads → IsApart (items (lists_of links owners heads) list)
    items_apart list head = rw (items-lists_of list head) (sound.rings list head).apart

    pub head_within : (list : ℕ) → list < list_count (lists_of links owners heads) →
        (list < heads) × (list < length links)
    head_within list head =
        (omega (arith, list_count-lists_of), omega (arith, list_count-lists_of, sound.sized))

    next_read : (list : ℕ) (link : Link) → list < list_count (lists_of links owners heads) →
        link ≡ get_or links list link → link.next ≡ next_of links list
    next_read list link head read =
        ap (λ (l : Link). l.next) (get_or_read links list link (head_within list head).1 read no_link)

    -- a head that leads to itself has no key
    pub front_none : (list : ℕ) (link : Link) → list < list_count (lists_of links owners heads) →
        link ≡ get_or links list link → link.next ≡ list →
        (None ≡ slice_get (items (lists_of links owners heads) list) 0)
        × IsEmpty (lists_of links owners heads) list
    front_none list link counted read itself =
        let head = (head_within list counted).0 in
        let self = sym (next_read list link counted read) ∙ itself in
        let ring = sound.rings list head in
        elim (first_of_ring _ _ heads list _ head ring.chained) [
          | inl empty ↦ (
            rw (items-lists_of list head, empty.1),
            λ key owned. subst (IsIn key) empty.1
                (ring.listed key owned),
          )
          | inr some ↦ absurd (omega (arith, some.0))
        ]

    -- a head that leads elsewhere leads to the first key
    pub front_some : (list : ℕ) (link : Link) → list < list_count (lists_of links owners heads) →
        link ≡ get_or links list link → link.next ≢ list →
        (heads ≤ link.next) × (Some (link.next - heads)
        ≡ slice_get (items (lists_of links owners heads) list) 0)
        × (get_or owners (link.next - heads) None ≡ Some list)
    front_some list link counted read other =
        let head = (head_within list counted).0 in
        let next = next_read list link counted read in
        let ring = sound.rings list head in
        elim (first_of_ring _ _ heads list _ head ring.chained) [
          | inl empty ↦ absurd (other (next ∙ empty.0))
          | inr some ↦ rw next (some.0, rw (items-lists_of list head) (sym some.1), ring.owned _ some.2)
        ]

-- the new fields are sound, one list has these keys, and every other list is as it was
pub record Changes (links new_links : List Link) (owners new_owners : List (Option ℕ)) (heads list : ℕ)
    (keys : List ℕ) : Type 0 where
  pub sound : IsSound new_links new_owners heads
  pub changed : items (lists_of new_links new_owners heads) list ≡ keys
  pub others : (other : ℕ) → other ≢ list →
      items (lists_of new_links new_owners heads) other ≡ items (lists_of links owners heads) other

module _ (links new_links : List Link) (owners new_owners : List (Option ℕ)) (heads : ℕ) where
  -- a list whose ring and count stay keeps its keys
  pub ring_kept : (list : ℕ) →
      IsRing (next_of new_links) (prev_of new_links) heads (λ key. get_or new_owners key None) list
      (keys_of links owners heads list) →
      count_by (is_list list) new_owners ≡ count_by (is_list list) owners →
      keys_of new_links new_owners heads list ≡ keys_of links owners heads list
  ring_kept list ring count = keys_of_ring new_links new_owners heads list _ ring.chained (count
      ∙ sym (length-keys_of links owners heads list))

  pub items_kept : (list : ℕ) →
      (list < heads → keys_of new_links new_owners heads list ≡ keys_of links owners heads list) →
      items (lists_of new_links new_owners heads) list ≡ items (lists_of links owners heads) list
  items_kept list kept =
      elim (cases_lt list heads) [
        | inl head ↦ items-lists_of new_links new_owners heads list head ∙ kept head
            ∙ sym (items-lists_of links owners heads list head)
        | inr past ↦ items_past new_links new_owners heads list past
            ∙ sym (items_past links owners heads list past)
      ]

  -- one ring is new and the others stay
  Changes-from_rings : (list : ℕ) (keys : List ℕ) → list < heads →
      heads + length new_owners ≤ length new_links →
      ((key owner : ℕ) → get_or new_owners key None ≡ Some owner → owner < heads) →
      IsRing (next_of new_links) (prev_of new_links) heads (λ key. get_or new_owners key None) list keys →
      count_by (is_list list) new_owners ≡ length keys →
      ((other : ℕ) → other < heads → other ≢ list →
      IsRing (next_of new_links) (prev_of new_links) heads (λ key. get_or new_owners key None) other
      (keys_of links owners heads other)) →
      ((other : ℕ) → other ≢ list → count_by (is_list other) new_owners ≡ count_by (is_list other) owners) →
      Changes links new_links owners new_owners heads list keys
  Changes-from_rings list keys head sized known ring count rings counts =
      let Ring : ℕ → List ℕ →
      Type 0 = IsRing (next_of new_links) (prev_of new_links) heads (λ key. get_or new_owners key None) in
      let found = keys_of_ring new_links new_owners heads list keys ring.chained count in
      record {
        sound = record {
          sized = sized;
          known = known;
          rings = λ other other_head.
              elim (cases_eq other list) [
                | inl same ↦ subst (λ l. Ring l (keys_of new_links new_owners heads l)) (sym same)
                    (subst (Ring list) (sym found) ring)
                | inr differs ↦ subst (Ring other)
                    (sym (ring_kept other (rings other other_head differs) (counts other differs)))
                    (rings other other_head differs)
              ];
        };
        changed = items-lists_of new_links new_owners heads list head ∙ found;
        others = λ other differs. items_kept other
            (λ other_head. ring_kept other (rings other other_head differs) (counts other differs));
      }

module _ (links new_links : List Link) (owners : List (Option ℕ)) (heads list key : ℕ)
    (sound : IsSound links owners heads) (sized : length new_links ≡ length links) where
  pub Changes-skip : get_or owners key None ≡ Some list → Skips links new_links (heads + key) →
      Changes links new_links owners (set owners key None) heads list
      (without key (items (lists_of links owners heads) list))
  Changes-skip owned skips =
      let head = sound.known key list owned in
      let within = owned_within owners key list owned in
      let ring = sound.rings list head in
      let left = get_or-set_same owners key None None within in
      let others : (other : ℕ) → other ≢ key →
      get_or (set owners key None) other None ≡ get_or owners other None =
      λ other differs. get_or-set_other owners key other None None differs in
      let came : (k l : ℕ) → get_or (set owners key None) k None ≡ Some l → get_or owners k None ≡ Some l =
      λ k l now. sym (others k (λ same. none-some l (sym left
      ∙ ap (λ j. get_or (set owners key None) j None) (sym same) ∙ now))) ∙ now in
      rw (items-lists_of links owners heads list head)
      (Changes-from_rings links new_links owners (set owners key None) heads list _ head
      (omega (arith, sound.sized, length-set owners key None))
      (λ k l now. sound.known k l (came k l now))
      (IsRing-skip _ _ _ _ heads _ _ list _ key head ring owned skips.next skips.prev left others)
      (omega (
        arith,
        count-set owners key list (Some list) None within owned,
        is_list_same list,
        length-keys_of links owners heads list,
        length-without key _ ring.apart (ring.listed key owned),
      ))
      (λ other other_head differs.
      let other_ring = sound.rings other other_head in
      IsRing-kept _ _ _ _ heads _ _ other _ other_ring
      (λ at on. skips.next.others at (λ same. rings_apart _ _ heads _ list other _ _ at head other_head
      differs ring other_ring (rw same (before_on links owners heads sound list key owned)) on))
      (λ at on. skips.prev.others at (λ same. rings_apart _ _ heads _ list other _ _ at head other_head
      differs ring other_ring (rw same (after_on links owners heads sound list key owned)) on))
      (λ k was. others k (λ same. differs (same_Some other list (sym was ∙ ap (λ j. get_or owners j None) same
      ∙ owned))) ∙ was)
      (λ k now. came k other now))
      (λ other differs. omega (
        arith,
        count-set owners key other (Some list) None within owned,
        is_list_other
            list other differs,
      )))

  pub shorter_after_skip : get_or owners key None ≡ Some list →
      length (without key (items (lists_of links owners heads) list)) + 1
      ≡ length (items (lists_of links owners heads) list)
  shorter_after_skip owned =
      let head = sound.known key list owned in
      let ring = sound.rings list head in
      rw (items-lists_of links owners heads list head)
      (length-without key _ ring.apart (ring.listed key owned))

  pub Changes-splice : list < heads → key < length owners → get_or owners key None ≡ None →
      Splices links new_links (heads + key) list →
      Changes links new_links owners (set owners key (Some list)) heads list
      (items (lists_of links owners heads) list ++ key ∷ [])
  Changes-splice head within free splices =
      let ring = sound.rings list head in
      let joined = get_or-set_same owners key (Some list) None within in
      let others : (other : ℕ) → other ≢ key →
      get_or (set owners key (Some list)) other None ≡ get_or owners other None =
      λ other differs. get_or-set_other owners key other (Some list) None differs in
      rw (items-lists_of links owners heads list head)
      (Changes-from_rings links new_links owners (set owners key (Some list)) heads list _ head
      (omega (arith, sound.sized, length-set owners key (Some list)))
      (λ k l now.
      elim (cases_eq k key) [
        | inl same ↦ subst (λ n. n < heads) (same_Some list l (sym joined
            ∙ ap (λ j. get_or (set owners key (Some list)) j None) (sym same) ∙ now)) head
        | inr differs ↦ sound.known k l (sym (others k differs) ∙ now)
      ])
      (IsRing-push _ _ _ _ heads _ _ list _ key head ring free splices joined others)
      (omega (
        arith,
        count-set owners key list None (Some list) within free,
        is_list_same list,
        length-keys_of
            links owners heads list,
        length_push (keys_of links owners heads list) key,
      ))
      (λ other other_head differs.
      let other_ring = sound.rings other other_head in
      let off : (at : ℕ) → IsOn heads other (keys_of links owners heads other) at → at ≢ heads + key =
      λ at on same. free_not_on _ _ heads _ other _ key other_head other_ring free (rw (← same) on) in
      IsRing-kept _ _ _ _ heads _ _ other _ other_ring
      (λ at on. splices.nexts at (λ same. rings_apart _ _ heads _ list other _ _ at head other_head differs
      ring other_ring (rw same (last_on links owners heads sound list head)) on) (off at on))
      (λ at on. splices.prevs at (λ same. rings_apart _ _ heads _ list other _ _ at head other_head differs
      ring other_ring (inl same) on) (off at on))
      (λ k was. others k (λ same. none-some other (sym free ∙ ap (λ j. get_or owners j None) (sym same)
      ∙ was)) ∙ was)
      (λ k now. sym (others k (λ same. differs (same_Some other list (sym now
      ∙ ap (λ j. get_or (set owners key (Some list)) j None) same ∙ joined)))) ∙ now))
      (λ other differs. omega (
        arith,
        count-set owners key other None (Some list) within free,
        is_list_other
            list other differs,
      )))

-- one more head that leads to itself
pub closed_push : (links : List Link) (head : ℕ) → length links ≡ head →
    ((list : ℕ) → list < head → (next_of links list ≡ list) × (prev_of links list ≡ list)) → (list : ℕ) →
    list < head + 1 → (next_of (links ++ record { prev = head; next = head } ∷ []) list ≡ list)
    × (prev_of (links ++ record { prev = head; next = head } ∷ []) list ≡ list)
closed_push links head sized closed list below =
    let link : Link = record { prev = head; next = head } in
    elim (cases_eq list head) [
      | inl same ↦
          let read = ap (λ at. get_or (links ++ link ∷ []) at no_link) same
          ∙ get_or_push links link no_link head sized in
          (ap (λ (l : Link). l.next) read ∙ sym same, ap (λ (l : Link). l.prev) read ∙ sym same)
      | inr older ↦
          let read = get_or_append_left links (link ∷ []) no_link list (omega arith) in
          let was = closed list (omega arith) in
          (ap (λ (l : Link). l.next) read ∙ was.0, ap (λ (l : Link). l.prev) read ∙ was.1)
    ]

-- heads that lead to themselves are empty lists
module _ (links : List Link) (heads : ℕ) (sized : length links ≡ heads) (closed : (list : ℕ) → list < heads →
    (next_of links list ≡ list) × (prev_of links list ≡ list)) where
  keys_of_new : (list : ℕ) → list < heads → keys_of links [] heads list ≡ []
  keys_of_new list head = keys_of_ring links [] heads list [] (closed list head) refl

  pub IsSound-new : IsSound links [] heads
  IsSound-new =
      record {
        sized = omega arith;
        known = λ key list owned. absurd (none-some list owned);
        rings = λ list head. rw (keys_of_new list head) (record {
          chained = closed list head;
          apart = tt;
          owned = λ key nowhere. absurd nowhere;
          listed = λ key owned. none-some list owned;
        });
      }

  pub items-lists_of_new : (list : ℕ) → items (lists_of links [] heads) list ≡ []
  items-lists_of_new list =
      elim (cases_lt list heads) [
        | inl head ↦ items-lists_of links [] heads list head ∙ keys_of_new list head
        | inr past ↦ items_past links [] heads list past
      ]

get_or-replicate_default : {X : Type 0} (count at : ℕ) (d : X) → get_or (replicate count d) at d ≡ d
get_or-replicate_default zero at d = refl
get_or-replicate_default (suc count) zero d = refl
get_or-replicate_default (suc count) (suc at) d = get_or-replicate_default count at d

-- copies of the default at the end of a list change no read
pub get_or-append_defaults : {X : Type 0} (xs : List X) (count at : ℕ) (d : X) →
    get_or (xs ++ replicate count d) at d ≡ get_or xs at d
get_or-append_defaults xs count at d =
    elim (cases_lt at (length xs)) [
      | inl within ↦ get_or_append_left xs _ d at within
      | inr past ↦ get_or-append_right xs _ (length xs) at d refl past ∙ get_or-replicate_default count _ d
          ∙ sym (get_or_past xs at d past)
    ]

-- a resize that grows adds copies of its value, or nothing where it fails
pub grown_by : {X : Type 0} (ok : Bool) (old new : List X) (len count : ℕ) (d : X) → len ≡ length old →
    len ≤ count → new ≡ cond ok (take count old ++ replicate (count - len) d) old →
    (more : ℕ) × (new ≡ old ++ replicate more d) × (len + more ≤ count)
grown_by true old new len count d is_len below resized = (
  count - len,
  resized
      ∙ ap (λ xs. xs ++ replicate (count - len) d) (take_all count old (omega arith)),
  omega arith,
)
grown_by false old new len count d is_len below resized = (0, resized ∙ sym (append-nil old), omega arith)

-- room for more keys changes no list
module _ (links new_links : List Link) (owners : List (Option ℕ)) (heads more : ℕ)
    (sound : IsSound links owners heads) (sized : heads + length owners + more ≤ length new_links)
    (kept : (at : ℕ) → at < heads + length owners →
    get_or new_links at no_link ≡ get_or links at no_link) where
  ring_grown : (list : ℕ) → list < heads →
      IsRing (next_of new_links) (prev_of new_links) heads (λ key. get_or (owners ++ replicate more None) key
      None) list (keys_of links owners heads list)
  ring_grown list head =
      let ring = sound.rings list head in
      let same : (at : ℕ) → IsOn heads list (keys_of links owners heads list) at →
      get_or new_links at no_link ≡ get_or links at no_link =
      λ at on. kept at (elim on [
        | inl here ↦ omega arith
        | inr found ↦
            omega (arith, found.2, owned_within owners found.0 list (ring.owned found.0 found.1))
      ]) in
      IsRing-kept _ _ _ _ heads _ _ list _ ring
      (λ at on. ap (λ (l : Link). l.next) (same at on))
      (λ at on. ap (λ (l : Link). l.prev) (same at on))
      (λ key was. get_or-append_defaults owners more key None ∙ was)
      (λ key now. sym (get_or-append_defaults owners more key None) ∙ now)

  keys_grown : (list : ℕ) → list < heads → keys_of new_links (owners ++ replicate more None) heads list
      ≡ keys_of links owners heads list
  keys_grown list head =
      ring_kept links new_links owners _ heads list (ring_grown list head)
      (omega (
        arith,
        sum_by-append (λ o. cond (is_list list o) 1 0) owners (replicate more None),
        sum_by-replicate (λ o. cond (is_list list o) 1 0) more None,
      ))

  pub IsSound-grown : IsSound new_links (owners ++ replicate more None) heads
  IsSound-grown =
      record {
        sized = omega (
          arith,
          length-append owners (replicate more None),
          length-replicate {A =
              Option ℕ} more None,
        );
        known = λ key list owned. sound.known key list (sym (get_or-append_defaults owners more key None)
            ∙ owned);
        rings = λ list head. rw (keys_grown list head) (ring_grown list head);
      }

  pub SameLists-grown : SameLists (lists_of links owners heads)
      (lists_of new_links (owners ++ replicate more None) heads)
  SameLists-grown =
      record {
        count = list_count-lists_of new_links _ heads ∙ sym (list_count-lists_of links owners heads);
        lists = λ list. items_kept links new_links owners _ heads list (keys_grown list);
        keys = λ key. get_or-append_defaults owners more key None;
      }

-- the key whose link is at a place, and None at a head
abbrev pub key_at : ℕ → ℕ → Option ℕ
key_at heads at = cond (ltb at heads) None (Some (at - heads))

pub key_at_head : (heads at : ℕ) → at < heads → key_at heads at ≡ None
key_at_head heads at low = cond-true _ _ _ (lt-ltb at heads low)

pub key_at_link : (heads at : ℕ) → heads ≤ at → key_at heads at ≡ Some (at - heads)
key_at_link heads at high = cond-false _ _ _ (le-ltb at heads high)

key_at_key : (heads at key : ℕ) → at ≡ heads + key → key_at heads at ≡ Some key
key_at_key heads at key e =
    let same : at - heads ≡ key = omega (arith, e) in
    key_at_link heads at (omega (arith, e)) ∙ ap Some same

module _ (next prev : ℕ → ℕ) (heads : ℕ) where
  next_in_chain : (from : ℕ) (keys : List ℕ) (to k key : ℕ) → to < heads →
      IsChain next prev heads from keys to → slice_get keys k ≡ Some key →
      key_at heads (next (heads + key)) ≡ slice_get keys (suc k)
  next_in_chain from [] to k key low chain found = absurd (none-some key found)
  next_in_chain from (first ∷ []) to zero key low chain found =
      let same = same_Some first key found in
      ap (λ x. key_at heads (next (heads + x))) (sym same) ∙ ap (key_at heads) chain.2.0
      ∙ key_at_head heads to low
  next_in_chain from (first ∷ (second ∷ rest)) to zero key low chain found =
      let same = same_Some first key found in
      ap (λ x. key_at heads (next (heads + x))) (sym same) ∙ key_at_key heads _ second chain.2.0
  next_in_chain from (first ∷ rest) to (suc k) key low chain found =
      next_in_chain (heads + first) rest to k key low chain.2 found

  prev_behind : (one : ℕ) (keys : List ℕ) (to k key : ℕ) → IsChain next prev heads (heads + one) keys to →
      slice_get keys k ≡ Some key → key_at heads (prev (heads + key)) ≡ slice_get (one ∷ keys) k
  prev_behind one [] to k key chain found = absurd (none-some key found)
  prev_behind one (first ∷ rest) to zero key chain found =
      let same = same_Some first key found in
      ap (λ x. key_at heads (prev (heads + x))) (sym same) ∙ key_at_key heads _ one chain.1
  prev_behind one (first ∷ rest) to (suc k) key chain found = prev_behind first rest to k key chain.2 found

  prev_in_chain : (from : ℕ) (keys : List ℕ) (to k key : ℕ) → from < heads →
      IsChain next prev heads from keys to → slice_get keys k ≡ Some key →
      key_at heads (prev (heads + key)) ≡ one_before keys k
  prev_in_chain from [] to k key low chain found = absurd (none-some key found)
  prev_in_chain from (first ∷ rest) to zero key low chain found =
      let same = same_Some first key found in
      ap (λ x. key_at heads (prev (heads + x))) (sym same)
      ∙ ap (key_at heads) chain.1 ∙ key_at_head heads from low
  prev_in_chain from (first ∷ rest) to (suc k) key low chain found =
      prev_behind first rest to k key chain.2 found

in_list_below : (links : List Link) (owners : List (Option ℕ)) (heads list k key : ℕ) →
    slice_get (items (lists_of links owners heads) list) k ≡ Some key → list < heads
in_list_below links owners heads list k key found =
    elim (cases_lt list heads) [
      | inl head ↦ head
      | inr past ↦ absurd (none-some key
          (ap (λ l. slice_get l k) (sym (items_past links owners heads list past)) ∙ found))
    ]

module _ (links : List Link) (owners : List (Option ℕ)) (heads : ℕ) (sound : IsSound links owners heads)
    (list k key : ℕ) (found : slice_get (items (lists_of links owners heads) list) k ≡ Some key) where
  pub next_key : key_at heads (next_of links (heads + key))
      ≡ slice_get (items (lists_of links owners heads) list) (k + 1)
  next_key =
      let head = in_list_below links owners heads list k key found in
      let same = items-lists_of links owners heads list head in
      next_in_chain _ _ heads list _ list k key head (sound.rings list head).chained (rw same at found)
      ∙ ap (slice_get (keys_of links owners heads list)) (sym (add-one k))
      ∙ ap (λ keys. slice_get keys (k + 1)) (sym same)

  pub prev_key : key_at heads (prev_of links (heads + key))
      ≡ one_before (items (lists_of links owners heads) list) k
  prev_key =
      let head = in_list_below links owners heads list k key found in
      let same = items-lists_of links owners heads list head in
      prev_in_chain _ _ heads list _ list k key head (sound.rings list head).chained (rw same at found)
      ∙ ap (λ keys. one_before keys k) (sym same)

some_within : (owners : List (Option ℕ)) (key : ℕ) → IsSome (get_or owners key None) → key < length owners
some_within owners key some = grind (arith, get_or_past)

-- the link of a key that is in a list, as it was read
pub link_read : (links : List Link) (owners : List (Option ℕ)) (heads key : ℕ) (link : Link) →
    IsSound links owners heads → IsSome (get_or owners key None) → link ≡ get_or links (heads + key) link →
    link ≡ get_or links (heads + key) no_link
link_read links owners heads key link sound some read =
    let low = some_within owners key some in
    let within : heads + key < length links = omega (arith, sound.sized, low) in
    get_or_read links (heads + key) link within read no_link
