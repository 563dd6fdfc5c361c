-- How a ring of links changes when a key joins or leaves it.
use Rattle.std.proofs.Common.{◌≡◌, ◌≢◌, ◌⊎◌, ℕ, zero, suc, ◌+◌, ◌-◌, ◌<◌, List, [], ◌∷◌, ◌++◌, length, Option, Some, None, refl, sym, ap, ◌∙◌, subst, inl, inr, arith, eq-eqb, ne_eqb}
use Rattle.std.proofs.lemmas.Bool.{cases_eq, cond-true, cond-false, not_from_true, not_from_false}
use Rattle.std.proofs.lemmas.Option.{none-some, same_Some}
use Rattle.node_arena.specs.LinkedLists.{without, IsIn, IsApart}
use Rattle.node_arena.specs.Links.{Joins, Inserts, walk, IsChain, IsRing}

-- ---- lists of keys

pub without_head : (key first : ℕ) (rest : List ℕ) → first ≡ key →
    without key (first ∷ rest) ≡ without key rest
without_head key first rest same = cond-false _ _ _ (not_from_true _ (eq-eqb first key same))

pub without_past : (key first : ℕ) (rest : List ℕ) → first ≢ key →
    without key (first ∷ rest) ≡ first ∷ without key rest
without_past key first rest other = cond-true _ _ _ (not_from_false _ (ne_eqb first key other))

pub without_absent : (key : ℕ) (keys : List ℕ) → ¬ IsIn key keys → without key keys ≡ keys
without_absent key [] absent = refl
without_absent key (first ∷ rest) absent =
    without_past key first rest (λ same. absent (inl same))
    ∙ ap (λ xs. first ∷ xs) (without_absent key rest (λ found. absent (inr found)))

pub IsIn-without : (key other : ℕ) (keys : List ℕ) → IsIn other (without key keys) →
    IsIn other keys × (other ≢ key)
IsIn-without key other [] found = absurd found
IsIn-without key other (first ∷ rest) found =
    elim (cases_eq first key) [
      | inl same ↦
          let later = IsIn-without key other rest (subst (IsIn other) (without_head key first rest same)
          found) in
          (inr later.0, later.1)
      | inr differs ↦
          elim (subst (IsIn other) (without_past key first rest differs) found) [
            | inl here ↦ (inl here, λ same. differs (here ∙ same))
            | inr there ↦ let later = IsIn-without key other rest there in (inr later.0, later.1)
          ]
    ]

pub IsIn-without_kept : (key other : ℕ) (keys : List ℕ) → IsIn other keys → other ≢ key →
    IsIn other (without key keys)
IsIn-without_kept key other [] found differs = absurd found
IsIn-without_kept key other (first ∷ rest) found differs =
    elim (cases_eq first key) [
      | inl same ↦
          subst (IsIn other) (sym (without_head key first rest same))
          (elim found [
            | inl here ↦ absurd (differs (sym here ∙ same))
            | inr there ↦ IsIn-without_kept key other rest there differs
          ])
      | inr apart ↦
          subst (IsIn other) (sym (without_past key first rest apart))
          (elim found [
            | inl here ↦ inl here
            | inr there ↦
                inr (IsIn-without_kept key other rest there differs)
          ])
    ]

pub IsApart-without : (key : ℕ) (keys : List ℕ) → IsApart keys → IsApart (without key keys)
IsApart-without key [] apart = tt
IsApart-without key (first ∷ rest) apart =
    elim (cases_eq first key) [
      | inl same ↦ subst IsApart (sym (without_head key first rest same)) (IsApart-without key rest apart.1)
      | inr differs ↦
          subst IsApart (sym (without_past key first rest differs))
          (λ found. apart.0 (IsIn-without key first rest found).0, IsApart-without key rest apart.1)
    ]

pub length-without : (key : ℕ) (keys : List ℕ) → IsApart keys → IsIn key keys →
    length (without key keys) + 1 ≡ length keys
length-without key [] apart found = absurd found
length-without key (first ∷ rest) apart found =
    elim (cases_eq first key) [
      | inl same ↦
          let gone = without_head key first rest same
          ∙ without_absent key rest (λ there. apart.0 (subst (λ k. IsIn k rest) (sym same) there)) in
          omega (arith, ap length gone)
      | inr differs ↦
          elim found [
            | inl here ↦ absurd (differs here)
            | inr there ↦ omega (
              arith,
              ap length (without_past key first rest differs),
              length-without key
                  rest apart.1 there,
            )
          ]
    ]

pub IsIn-push : (key other : ℕ) (keys : List ℕ) → IsIn other (keys ++ key ∷ []) →
    IsIn other keys ⊎ (key ≡ other)
IsIn-push key other [] found = elim found [ inl here ↦ inr here | inr nowhere ↦ absurd nowhere ]
IsIn-push key other (first ∷ rest) found =
    elim found [
      | inl here ↦ inl (inl here)
      | inr there ↦ elim (IsIn-push key other rest there) [ inl old ↦ inl (inr old) | inr new ↦ inr new ]
    ]

pub IsIn-push_kept : (key other : ℕ) (keys : List ℕ) → IsIn other keys → IsIn other (keys ++ key ∷ [])
IsIn-push_kept key other [] found = absurd found
IsIn-push_kept key other (first ∷ rest) found =
    elim found [ inl here ↦ inl here | inr there ↦ inr (IsIn-push_kept key other rest there) ]

pub IsIn-push_last : (key : ℕ) (keys : List ℕ) → IsIn key (keys ++ key ∷ [])
IsIn-push_last key [] = inl refl
IsIn-push_last key (first ∷ rest) = inr (IsIn-push_last key rest)

pub IsApart-push : (key : ℕ) (keys : List ℕ) → IsApart keys → ¬ IsIn key keys → IsApart (keys ++ key ∷ [])
IsApart-push key [] apart absent = (λ nowhere. nowhere, tt)
IsApart-push key (first ∷ rest) apart absent = (
  λ found. elim (IsIn-push key first rest found) [ inl old ↦ apart.0 old | inr new ↦ absent (inl (sym new)) ],
  IsApart-push key rest apart.1 (λ there. absent (inr there)),
)

-- ---- chains

pub length-walk : (next : ℕ → ℕ) (heads count from : ℕ) → length (walk next heads count from) ≡ count
length-walk next heads zero from = refl
length-walk next heads (suc count) from = ap suc (length-walk next heads count (next from))

-- the place is this end, or the link of one of the keys
abbrev pub IsOn : ℕ → ℕ → List ℕ → ℕ → Type 0
IsOn heads end keys at = (at ≡ end) ⊎ ((key : ℕ) × IsIn key keys × (at ≡ heads + key))

-- the place is the link of none of the keys
abbrev IsOff : ℕ → List ℕ → ℕ → Type 0
IsOff heads keys at = (key : ℕ) → IsIn key keys → at ≢ heads + key

IsOn-cons : (heads from first : ℕ) (rest : List ℕ) (at : ℕ) → IsOn heads (heads + first) rest at →
    IsOn heads from (first ∷ rest) at
IsOn-cons heads from first rest at on =
    elim on [ inl here ↦ inr (first, inl refl, here) | inr there ↦ inr (there.0, inr there.1, there.2) ]

IsOn-more : (heads to first : ℕ) (rest : List ℕ) (at : ℕ) → IsOn heads to rest at →
    IsOn heads to (first ∷ rest) at
IsOn-more heads to first rest at on =
    elim on [ inl here ↦ inl here | inr there ↦ inr (there.0, inr there.1, there.2) ]

-- a place that is not the end and is off the keys is not on the chain
off_not_on : (heads end : ℕ) (keys : List ℕ) (at on : ℕ) → at ≢ end → IsOff heads keys at →
    IsOn heads end keys on → at ≢ on
off_not_on heads end keys at on other off found same =
    elim found [ inl here ↦ other (same ∙ here) | inr there ↦ off there.0 there.1 (same ∙ there.2) ]

IsOff-head : (heads first : ℕ) (rest : List ℕ) → ¬ IsIn first rest → IsOff heads rest (heads + first)
IsOff-head heads first rest absent key found same =
    let keys : key ≡ first = omega arith in absent (subst (λ k. IsIn k rest) keys found)

module _ (next prev : ℕ → ℕ) (heads : ℕ) where
  pub walk_chain : (from : ℕ) (keys : List ℕ) (to : ℕ) → IsChain next prev heads from keys to →
      walk next heads (length keys) from ≡ keys
  walk_chain from [] to chain = refl
  walk_chain from (first ∷ rest) to chain =
      let head : next from - heads ≡ first = omega (arith, chain.0) in
      rw (head, chain.0) (ap (λ xs. first ∷ xs) (walk_chain (heads + first) rest to chain.2))

  pub prev_end_on : (from : ℕ) (keys : List ℕ) (to : ℕ) → IsChain next prev heads from keys to →
      IsOn heads from keys (prev to)
  prev_end_on from [] to chain = inl chain.1
  prev_end_on from (first ∷ rest) to chain =
      IsOn-cons heads from first rest _ (prev_end_on (heads + first) rest to chain.2)

  next_start_on : (from : ℕ) (keys : List ℕ) (to : ℕ) → IsChain next prev heads from keys to →
      IsOn heads to keys (next from)
  next_start_on from [] to chain = inl chain.0
  next_start_on from (first ∷ rest) to chain = inr (first, inl refl, chain.0)

  pub prev_on : (from : ℕ) (keys : List ℕ) (to key : ℕ) → IsChain next prev heads from keys to →
      IsIn key keys → IsOn heads from keys (prev (heads + key))
  prev_on from [] to key chain found = absurd found
  prev_on from (first ∷ rest) to key chain found =
      elim found [
        | inl here ↦ inl (ap (λ k. prev (heads + k)) (sym here) ∙ chain.1)
        | inr there ↦ IsOn-cons heads from first rest _ (prev_on (heads + first) rest to key chain.2 there)
      ]

  pub next_on : (from : ℕ) (keys : List ℕ) (to key : ℕ) → IsChain next prev heads from keys to →
      IsIn key keys → IsOn heads to keys (next (heads + key))
  next_on from [] to key chain found = absurd found
  next_on from (first ∷ rest) to key chain found =
      IsOn-more heads to first rest _
      (elim found [
        | inl here ↦ subst (λ k. IsOn heads to rest (next (heads + k))) here
            (next_start_on (heads + first) rest to chain.2)
        | inr there ↦ next_on (heads + first) rest to key chain.2 there
      ])

module _ (next prev next' prev' : ℕ → ℕ) (heads : ℕ) where
  -- a chain stays where the links stay on it
  IsChain-kept : (from : ℕ) (keys : List ℕ) (to : ℕ) → IsChain next prev heads from keys to →
      ((at : ℕ) → IsOn heads from keys at → next' at ≡ next at) →
      ((at : ℕ) → IsOn heads to keys at → prev' at ≡ prev at) → IsChain next' prev' heads from keys to
  IsChain-kept from [] to chain nexts prevs = (nexts from (inl refl) ∙ chain.0, prevs to (inl refl) ∙ chain.1)
  IsChain-kept from (first ∷ rest) to chain nexts prevs = (
    nexts from (inl refl) ∙ chain.0,
    prevs (heads + first) (inr (first, inl refl, refl)) ∙ chain.1,
    IsChain-kept (heads + first) rest to chain.2
        (λ at on. nexts at (IsOn-cons heads from first rest at on))
        (λ at on. prevs at (IsOn-more heads to first rest at on)),
  )

  -- the first key leaves, and the start is joined to what followed it
  IsChain-skip_first : (from first : ℕ) (rest : List ℕ) (to : ℕ) →
      IsChain next prev heads (heads + first) rest to → IsApart rest → IsOff heads rest from →
      IsOff heads rest to → Joins next next' from (next (heads + first)) →
      Joins prev prev' (next (heads + first)) from → IsChain next' prev' heads from rest to
  IsChain-skip_first from first [] to chain apart from_off to_off nexts prevs =
      (nexts.here ∙ chain.0, ap prev' (sym chain.0) ∙ prevs.here)
  IsChain-skip_first from first (second ∷ rest) to chain apart from_off to_off nexts prevs = (
    nexts.here ∙ chain.0,
    ap prev' (sym chain.0) ∙ prevs.here,
    IsChain-kept (heads + second) rest to chain.2
        (λ at on. nexts.others at (λ same.
        off_not_on heads (heads + second) rest from at (from_off second (inl refl))
        (λ k there. from_off k (inr there)) on (sym same)))
        (λ at on. prevs.others at (λ same.
        off_not_on heads to rest (heads + second) at (λ end. to_off second (inl refl) (sym end))
        (IsOff-head heads second rest apart.0) on (sym (same ∙ chain.0)))),
  )

  -- a key leaves, and its neighbours are joined
  IsChain-skip : (from : ℕ) (keys : List ℕ) (to key : ℕ) → IsChain next prev heads from keys to →
      IsApart keys → IsOff heads keys from → IsOff heads keys to → IsIn key keys →
      Joins next next' (prev (heads + key)) (next (heads + key)) →
      Joins prev prev' (next (heads + key)) (prev (heads + key)) →
      IsChain next' prev' heads from (without key keys) to
  IsChain-skip from [] to key chain apart from_off to_off found nexts prevs = absurd found
  IsChain-skip from (first ∷ rest) to key chain apart from_off to_off found nexts prevs =
      elim (cases_eq first key) [
        | inl same ↦
            let gone = without_head key first rest same
            ∙ without_absent key rest (λ there. apart.0 (subst (λ k. IsIn k rest) (sym same) there)) in
            subst (λ ks. IsChain next' prev' heads from ks to) (sym gone)
            (IsChain-skip_first from first rest to chain.2 apart.1 (λ k there. from_off k (inr there))
            (λ k there. to_off k (inr there))
            (rw (← same, chain.1) at nexts) (rw (← same, chain.1) at prevs))
        | inr differs ↦
            let there : IsIn key rest = elim found [ inl here ↦ absurd (differs here) | inr later ↦ later ] in
            let first_off = IsOff-head heads first rest apart.0 in
            subst (λ ks. IsChain next' prev' heads from ks to) (sym (without_past key first rest differs)) (
              nexts.others from (off_not_on heads (heads + first) rest from _ (from_off first (inl refl))
                  (λ k later. from_off k (inr later)) (prev_on next prev heads (heads + first) rest to key
                  chain.2 there)) ∙ chain.0,
              prevs.others (heads + first)
                  (off_not_on heads to rest (heads + first) _ (λ end. to_off first (inl refl) (sym end))
                  first_off (next_on next prev heads (heads + first) rest to key chain.2 there)) ∙ chain.1,
              IsChain-skip (heads + first) rest to key chain.2 apart.1 first_off
                  (λ k later. to_off k (inr later)) there nexts prevs,
            )
      ]

  -- a key joins at the end
  IsChain-push : (from : ℕ) (keys : List ℕ) (to key : ℕ) → IsChain next prev heads from keys to →
      IsApart keys → IsOff heads keys from → IsOff heads keys to → ¬ IsIn key keys → from ≢ heads + key →
      Inserts next prev next' prev' (prev to) (heads + key) to →
      IsChain next' prev' heads from (keys ++ key ∷ []) to
  IsChain-push from [] to key chain apart from_off to_off absent other splices =
      (ap next' (sym chain.1) ∙ splices.into, splices.back_out ∙ chain.1, (splices.out, splices.back_into))
  IsChain-push from (first ∷ rest) to key chain apart from_off to_off absent other splices =
      let new : heads + first ≢ heads + key = λ same. absent (inl (omega arith)) in (
        splices.nexts from (off_not_on heads (heads + first) rest from _ (from_off first (inl refl))
            (λ k later. from_off k (inr later)) (prev_end_on next prev heads (heads + first) rest to chain.2))
            other ∙ chain.0,
        splices.prevs (heads + first) (λ end. to_off first (inl refl) (sym end)) new ∙ chain.1,
        IsChain-push (heads + first) rest to key chain.2 apart.1 (IsOff-head heads first rest apart.0)
            (λ k later. to_off k (inr later)) (λ later. absent (inr later)) new splices,
      )

  -- ---- rings

  module _ (owner owner' : ℕ → Option ℕ) where
    -- a ring stays where its links and its keys stay
    pub IsRing-kept : (list : ℕ) (keys : List ℕ) → IsRing next prev heads owner list keys →
        ((at : ℕ) → IsOn heads list keys at → next' at ≡ next at) →
        ((at : ℕ) → IsOn heads list keys at → prev' at ≡ prev at) →
        ((key : ℕ) → owner key ≡ Some list → owner' key ≡ Some list) →
        ((key : ℕ) → owner' key ≡ Some list → owner key ≡ Some list) →
        IsRing next' prev' heads owner' list keys
    IsRing-kept list keys ring nexts prevs stay came =
        record {
          chained = IsChain-kept list keys list ring.chained nexts prevs;
          apart = ring.apart;
          owned = λ key found. stay key (ring.owned key found);
          listed = λ key owned. ring.listed key (came key owned);
        }

    pub IsRing-skip : (list : ℕ) (keys : List ℕ) (key : ℕ) → list < heads →
        IsRing next prev heads owner list keys → owner key ≡ Some list →
        Joins next next' (prev (heads + key)) (next (heads + key)) →
        Joins prev prev' (next (heads + key)) (prev (heads + key)) → owner' key ≡ None →
        ((other : ℕ) → other ≢ key → owner' other ≡ owner other) →
        IsRing next' prev' heads owner' list (without key keys)
    IsRing-skip list keys key head ring owned nexts prevs left others =
        let off : IsOff heads keys list = λ k found same. omega arith in
        record {
          chained = IsChain-skip list keys list key ring.chained ring.apart off off (ring.listed key owned)
              nexts prevs;
          apart = IsApart-without key keys ring.apart;
          owned = λ other found. let was = IsIn-without key other keys found in
              others other was.1 ∙ ring.owned other was.0;
          listed = λ other now.
              let differs : other ≢ key = λ same. none-some list (sym left ∙ ap owner' (sym same) ∙ now) in
              IsIn-without_kept key other keys (ring.listed other (sym (others other differs) ∙ now)) differs;
        }

    pub IsRing-push : (list : ℕ) (keys : List ℕ) (key : ℕ) → list < heads →
        IsRing next prev heads owner list keys → owner key ≡ None →
        Inserts next prev next' prev' (prev list) (heads + key) list → owner' key ≡ Some list →
        ((other : ℕ) → other ≢ key → owner' other ≡ owner other) →
        IsRing next' prev' heads owner' list (keys ++ key ∷ [])
    IsRing-push list keys key head ring free splices joined others =
        let off : IsOff heads keys list = λ k found same. omega arith in
        let absent : ¬ IsIn key keys = λ found. none-some list (sym free ∙ ring.owned key found) in
        record {
          chained = IsChain-push list keys list key ring.chained ring.apart off off absent
              (λ same. omega arith) splices;
          apart = IsApart-push key keys ring.apart absent;
          owned = λ other found.
              elim (IsIn-push key other keys found) [
                | inl old ↦ others other (λ same. absent (subst (λ k. IsIn k keys) same old))
                    ∙ ring.owned other old
                | inr new ↦ ap owner' (sym new) ∙ joined
              ];
          listed = λ other now.
              elim (cases_eq other key) [
                | inl same ↦ subst (λ k. IsIn k (keys ++ key ∷ [])) (sym same) (IsIn-push_last key keys)
                | inr differs ↦ IsIn-push_kept key other keys (ring.listed other (sym (others other differs)
                    ∙ now))
              ];
        }

module _ (next prev : ℕ → ℕ) (heads : ℕ) (owner : ℕ → Option ℕ) where
  -- two rings share no place
  pub rings_apart : (list other : ℕ) (keys others : List ℕ) (at : ℕ) → list < heads → other < heads →
      other ≢ list → IsRing next prev heads owner list keys → IsRing next prev heads owner other others →
      IsOn heads list keys at → IsOn heads other others at → ⊥
  rings_apart list other keys others at head other_head differs ring other_ring on other_on =
      elim on [
        | inl here ↦ elim other_on [
          | inl also ↦ differs (sym also ∙ here)
          | inr there ↦
              omega (arith, there.2)
        ]
        | inr found ↦
            elim other_on [
              | inl also ↦ omega (arith, found.2)
              | inr there ↦
                  let same : there.0 ≡ found.0 = omega (arith, there.2, found.2) in
                  differs (same_Some other list (sym (other_ring.owned there.0 there.1) ∙ ap owner same
                  ∙ ring.owned found.0 found.1))
            ]
      ]

  -- the link of a key with no list is on no ring
  pub free_not_on : (list : ℕ) (keys : List ℕ) (key : ℕ) → list < heads →
      IsRing next prev heads owner list keys → owner key ≡ None → ¬ IsOn heads list keys (heads + key)
  free_not_on list keys key head ring free on =
      elim on [
        | inl here ↦ omega arith
        | inr found ↦
            let same : key ≡ found.0 = omega (arith, found.2) in
            none-some list (sym free ∙ ap owner same ∙ ring.owned found.0 found.1)
      ]
