-- That the bars of a history are exactly its longest stretches.
use Rattle.std.proofs.Common.{◌≡◌, ◌≢◌, ◌⊎◌, ◌↔◌, inl, inr, ⊎_elim, ℕ, zero, suc, ◌+◌, ◌-◌, ◌<◌, ◌≤◌, Bool, true, false, cond, eqb, ltb, List, [], ◌∷◌, length, get_or, map, drop, refl, ap, ◌∙◌, sym, subst, arith, eq-eqb, ne_eqb, lt-ltb, le-ltb, ltb-true}
use Rattle.std.specs.List.{Contains, flat_map}
use Rattle.std.proofs.lemmas.Bool.{cases_eq, cases_lt, eqb-false}
use Rattle.std.proofs.lemmas.Bool.Decides.{nat_tests}
use Rattle.std.proofs.lemmas.List.{get_or-map, length-map}
use Rattle.std.proofs.lemmas.List.Elements.{Contains-append_left, Contains-append_right, Contains-append_cases, Contains-push, Contains-push_cases}
use Rattle.drawing.specs.Below.{Entry, Start}
use Rattle.drawing.specs.Prelude.{Bar, Kind, Exclusive, Shared, InLine, Asleep, bar_at, bars, ended, ended_by, lasting, IsBar, IsKind, IsRun, level_behind, Track, asleep_kinds, kinds, level, level_of, track, tracks, tracks_below, tracks_of_seat}
use Rattle.drawing.proofs.StretchesFollow.{lasting_none}

-- who stands in lists that are joined
nothing_in : {X : Type 0} (x : X) → Contains [] x → ⊥
nothing_in x c = let l = c.1 in omega (arith, l)

one_in : {X : Type 0} (y x : X) → Contains (y ∷ []) x → y ≡ x
one_in y x c = by c.0 c.1 c.2
  where
    by : (k : ℕ) → k < 1 → get_or (y ∷ []) k x ≡ x → y ≡ x
    by zero l q = q
    by (suc k) l q = absurd (omega (arith, l))

alone_in : {X : Type 0} (y x : X) → y ≡ x → Contains (y ∷ []) x
alone_in y x q = (0, omega arith, q)

first_in : {X : Type 0} (x : X) (xs : List X) → Contains (x ∷ xs) x
first_in x xs = (0, omega arith, refl)

later_in : {X : Type 0} (y x : X) (xs : List X) → Contains xs x → Contains (y ∷ xs) x
later_in y x xs c = (suc c.0, (let l = c.1 in omega (arith, l)), c.2)

cons_cases : {X : Type 0} (y x : X) (xs : List X) → Contains (y ∷ xs) x → (y ≡ x) ⊎ Contains xs x
cons_cases y x xs c = by c.0 c.1 c.2
  where
    by : (k : ℕ) → k < suc (length xs) → get_or (y ∷ xs) k x ≡ x → (y ≡ x) ⊎ Contains xs x
    by zero l q = inl q
    by (suc k) l q = inr (k, omega (arith, l), q)

in_flat : {X Y : Type 0} (f : X → List Y) (xs : List X) (x : X) (y : Y) → Contains xs x → Contains (f x) y →
    Contains (flat_map f xs) y
in_flat f [] x y c d = absurd (nothing_in x c)
in_flat f (z ∷ xs) x y c d =
    ⊎_elim (λ q. Contains-append_left (f z) (flat_map f xs) y (subst (λ w. Contains (f w) y) (sym q) d))
    (λ later. Contains-append_right (f z) (flat_map f xs) y (in_flat f xs x y later d))
    (cons_cases z x xs c)

flat_in : {X Y : Type 0} (f : X → List Y) (xs : List X) (y : Y) → Contains (flat_map f xs) y →
    (x : X) × Contains xs x × Contains (f x) y
flat_in f [] y c = absurd (nothing_in y c)
flat_in f (z ∷ xs) y c =
    ⊎_elim (λ here. (z, first_in z xs, here))
    (λ there. let r = flat_in f xs y there in (r.0, later_in z r.0 xs r.1, r.2))
    (Contains-append_cases (f z) (flat_map f xs) y c)

-- the kinds and the tracks of an object
in_map : {X Y : Type 0} (f : X → Y) (xs : List X) (x : X) → Contains xs x → Contains (map f xs) (f x)
in_map f xs x c = (
  c.0,
  (let l = c.1 in omega (arith, l, length-map xs f)),
  get_or-map f xs c.0 x (f x) c.1 ∙ ap f c.2,
)

map_in : {X Y : Type 0} (f : X → Y) (xs : List X) (y : Y) → Contains (map f xs) y →
    (x : X) × Contains xs x × (f x ≡ y)
map_in f [] y c = absurd (nothing_in y c)
map_in f (z ∷ xs) y c =
    ⊎_elim (λ here. (z, first_in z xs, here))
    (λ there. let r = map_in f xs y there in (r.0, later_in z r.0 xs r.1, r.2))
    (cons_cases (f z) y (map f xs) c)

asleep_in : (c d : ℕ) → d < c → Contains (asleep_kinds c) (Asleep d)
asleep_in zero d l = absurd (omega (arith, l))
asleep_in (suc c) d l =
    ⊎_elim
    (λ q. subst (λ n. Contains (asleep_kinds (suc c)) (Asleep n)) q
    (Contains-push (asleep_kinds c) (Asleep c)))
    (λ ne. Contains-append_left (asleep_kinds c) (Asleep c ∷ []) (Asleep d)
    (asleep_in c d (omega (arith, l, ne))))
    (cases_eq c d)

in_asleep : (c : ℕ) (kind : Kind) → Contains (asleep_kinds c) kind → IsKind c kind
in_asleep zero kind x = absurd (nothing_in kind x)
in_asleep (suc c) kind x =
    ⊎_elim (λ old. wider kind (in_asleep c kind old)) (λ new. subst (IsKind (suc c)) new (omega arith))
    (Contains-push_cases (asleep_kinds c) (Asleep c) kind x)
  where
    wider : (kind : Kind) → IsKind c kind → IsKind (suc c) kind
    wider Exclusive p = tt
    wider Shared p = tt
    wider InLine p = tt
    wider (Asleep d) p = omega (arith, p)

kind_in : (c : ℕ) (kind : Kind) → IsKind c kind → Contains (kinds c) kind
kind_in c Exclusive p = (0, omega arith, refl)
kind_in c Shared p = (1, omega arith, refl)
kind_in c InLine p = (2, omega arith, refl)
kind_in c (Asleep d) p =
    let r = asleep_in c d p in (suc (suc (suc r.0)), (let l = r.1 in omega (arith, l)), r.2)

in_kinds : (c : ℕ) (kind : Kind) → Contains (kinds c) kind → IsKind c kind
in_kinds c kind x = by x.0 x.1 x.2
  where
    by : (k : ℕ) → k < length (kinds c) → get_or (kinds c) k kind ≡ kind → IsKind c kind
    by zero l q = subst (IsKind c) q tt
    by (suc zero) l q = subst (IsKind c) q tt
    by (suc (suc zero)) l q = subst (IsKind c) q tt
    by (suc (suc (suc k))) l q = in_asleep c kind (k, omega (arith, l), q)

abbrev IsTrack : ℕ → ℕ → Track → Type 0
IsTrack seats conditions t = (t.seat < seats) × IsKind conditions t.kind

below_in : (c n i : ℕ) (kind : Kind) → i < n → IsKind c kind → Contains (tracks_below c n) (track i kind)
below_in c zero i kind l p = absurd (omega (arith, l))
below_in c (suc n) i kind l p =
    ⊎_elim
    (λ q. Contains-append_right (tracks_below c n) (tracks_of_seat c n) (track i kind)
    (subst (λ j. Contains (tracks_of_seat c j) (track i kind)) (sym q)
    (in_map (track i) (kinds c) kind (kind_in c kind p))))
    (λ ne. Contains-append_left (tracks_below c n) (tracks_of_seat c n) (track i kind)
    (below_in c n i kind (omega (arith, l, ne)) p))
    (cases_eq n i)

in_below : (c n : ℕ) (t : Track) → Contains (tracks_below c n) t → IsTrack n c t
in_below c zero t x = absurd (nothing_in t x)
in_below c (suc n) t x =
    ⊎_elim (λ old. let r = in_below c n t old in ((let l = r.0 in omega (arith, l)), r.1))
    (λ new. let r = map_in (track n) (kinds c) t new in
    let seat : n ≡ t.seat = ap (λ (y : Track). y.seat) r.2 in
    (omega (arith, seat), subst (IsKind c) (ap (λ (y : Track). y.kind) r.2) (in_kinds c r.0 r.1)))
    (Contains-append_cases (tracks_below c n) (tracks_of_seat c n) t x)

-- what an entry more leaves of the levels behind those before it
behind_same : (s : Start) (e : Entry) (h : List Entry) (i : ℕ) (kind : Kind) (n : ℕ) → n < length h →
    level_behind s (e ∷ h) i kind n ≡ level_behind s h i kind n
behind_same s e h i kind n l =
    let one : length (e ∷ h) - (n + 1) ≡ suc (length h - (n + 1)) = omega (arith, l) in
    ap (λ m. level s (drop m (e ∷ h)) i kind) one

behind_last : (s : Start) (h : List Entry) (i : ℕ) (kind : Kind) (n : ℕ) → n + 1 ≡ length h →
    level_behind s h i kind n ≡ level s h i kind
behind_last s h i kind n q =
    let none : length h - (n + 1) ≡ 0 = omega (arith, q) in ap (λ m. level s (drop m h) i kind) none

run_later : (s : Start) (from : ℕ) (e : Entry) (h : List Entry) (b : Bar) → IsRun s from h b →
    IsRun s from (e ∷ h) b
run_later s from e h b r =
    record {
      seat = r.seat;
      kind = r.kind;
      some = r.some;
      begins_within = r.begins_within;
      order = r.order;
      ends_within = omega (arith, r.ends_within);
      throughout = λ n l m. behind_same s e h b.seat b.kind n (omega (arith, m, r.ends_within))
          ∙ r.throughout n l m;
      before = ⊎_elim (λ q. inl q)
          (λ ne. inr (λ q. ne (sym (behind_same s e h b.seat b.kind (b.first - 1)
          (omega (arith, r.order, r.ends_within))) ∙ q))) r.before;
    }

run_earlier : (s : Start) (from : ℕ) (e : Entry) (h : List Entry) (b : Bar) → b.last < length h →
    IsRun s from (e ∷ h) b → IsRun s from h b
run_earlier s from e h b l r =
    record {
      seat = r.seat;
      kind = r.kind;
      some = r.some;
      begins_within = r.begins_within;
      order = r.order;
      ends_within = l;
      throughout = λ n f m. sym (behind_same s e h b.seat b.kind n (omega (arith, m, l)))
          ∙ r.throughout n f m;
      before = ⊎_elim (λ q. inl q)
          (λ ne.
          inr (λ q. ne (behind_same s e h b.seat b.kind (b.first - 1) (omega (arith, r.order, l)) ∙ q)))
          r.before;
    }

lasting_on : (s : Start) (from : ℕ) (e : Entry) (h : List Entry) (t : Track) (n : ℕ) → from ≤ length h →
    level_of s (e ∷ h) t ≡ n → lasting s from (e ∷ h) t n ≡ lasting s from h t n + 1
lasting_on s from e h t n l q =
    rw (le-ltb (length h) from l) (rw (eq-eqb (level_of s (e ∷ h) t) n q) refl)

-- a run that reaches the newest entry has lasted since its first
lasts : (s : Start) (from : ℕ) (h : List Entry) (t : Track) (n first : ℕ) → from ≤ first → first < length h →
    ((number : ℕ) → first ≤ number → number < length h → level_behind s h t.seat t.kind number ≡ n) →
    (first ≡ from) ⊎ (level_behind s h t.seat t.kind (first - 1) ≢ n) →
    lasting s from h t n + first ≡ length h
lasts s from [] t n first f l all before = absurd (omega (arith, l))
lasts s from (e ∷ h) t n first f l all before =
    ⊎_elim
    (λ more.
    let ih = lasts s from h t n first f more
    (λ k a b. sym (behind_same s e h t.seat t.kind k b) ∙ all k a (omega (arith, b)))
    (⊎_elim (λ q. inl q)
    (λ ne. inr (λ q. ne (behind_same s e h t.seat t.kind (first - 1) (omega (arith, more)) ∙ q))) before) in
    omega (arith, ih, on))
    (λ less.
    let z = lasting_none s from h t n (λ m same. now less m same) in
    omega (arith, z, on, less, l))
    (cases_lt first (length h))
  where
    on : lasting s from (e ∷ h) t n ≡ lasting s from h t n + 1
    on = lasting_on s from e h t n (omega (arith, f, l))
        (sym (behind_last s (e ∷ h) t.seat t.kind (length h) (omega arith))
        ∙ all (length h) (omega (arith, l)) (omega arith))

    now : length h ≤ first → from < length h → level_of s h t ≡ n → ⊥
    now less m same = ⊎_elim (λ q. absurd (omega (arith, q, less, m)))
        (λ ne. ne (behind_same s e h t.seat t.kind (first - 1) (omega (arith, m, less, l))
        ∙ behind_last s h t.seat t.kind (first - 1) (omega (arith, m, less, l)) ∙ same)) before

-- and what has lasted is a run
lasting_within : (s : Start) (from : ℕ) (h : List Entry) (t : Track) (n : ℕ) →
    lasting s from h t n ≤ length h - from
lasting_within s from [] t n = omega arith
lasting_within s from (e ∷ h) t n = grind (arith, nat_tests, lasting_within s from h t n)

lasting_throughout : (s : Start) (from : ℕ) (h : List Entry) (t : Track) (n k : ℕ) →
    length h - lasting s from h t n ≤ k → k < length h → level_behind s h t.seat t.kind k ≡ n
lasting_throughout s from [] t n k a b = absurd (omega (arith, b))
lasting_throughout s from (e ∷ h) t n k a b =
    grind (
      arith,
      nat_tests,
      behind_same s e h t.seat t.kind k,
      behind_last s (e ∷ h) t.seat t.kind k,
      lasting_throughout s from h t n k,
    )

lasting_before : (s : Start) (from : ℕ) (h : List Entry) (t : Track) (n : ℕ) →
    from < length h - lasting s from h t n →
    level_behind s h t.seat t.kind (length h - lasting s from h t n - 1) ≡ n → ⊥
lasting_before s from [] t n a q = absurd (omega (arith, a))
lasting_before s from (e ∷ h) t n a q =
    grind (
      arith,
      nat_tests,
      behind_same s e h t.seat t.kind (length h - lasting s from h t n - 1),
      behind_last s (e ∷ h) t.seat t.kind (length h),
      lasting_before s from h t n,
    )

-- the bar of a track that reaches the newest entry
abbrev reaching : Start → ℕ → List Entry → Track → Bar
reaching s from h t =
    record {
      seat = t.seat;
      kind = t.kind;
      first = length h - lasting s from h t (level_of s h t);
      last = length h - 1;
      holds = level_of s h t;
    }

bar_at_is : (s : Start) (from : ℕ) (h : List Entry) (t : Track) → 0 < level_of s h t → from < length h →
    bar_at s from h t ≡ reaching s from h t ∷ []
bar_at_is s from h t p l =
    rw (ne_eqb (level_of s h t) 0 (λ q. absurd (omega (arith, q, p)))) (rw (lt-ltb from (length h) l) refl)

in_bar_at : (s : Start) (from : ℕ) (h : List Entry) (t : Track) (b : Bar) → Contains (bar_at s from h t) b →
    (reaching s from h t ≡ b) × (0 < level_of s h t) × (from < length h)
in_bar_at s from h t b c = by (eqb (level_of s h t) 0) (ltb from (length h)) refl refl c
  where
    by : (x y : Bool) → eqb (level_of s h t) 0 ≡ x → ltb from (length h) ≡ y →
        Contains (cond x [] (cond y (reaching s from h t ∷ []) [])) b →
        (reaching s from h t ≡ b) × (0 < level_of s h t) × (from < length h)
    by true y p q c = absurd (nothing_in b c)
    by false true p q c =
        let ne = eqb-false (level_of s h t) 0 p in
        (one_in (reaching s from h t) b c, omega (arith, ne), ltb-true from (length h) q)
    by false false p q c = absurd (nothing_in b c)

reaching_run : (s : Start) (from : ℕ) (h : List Entry) (t : Track) →
    IsTrack s.header.seats s.header.conditions t → 0 < level_of s h t → from < length h →
    IsRun s from h (reaching s from h t)
reaching_run s from h t is p l =
    let n = level_of s h t in
    let within = lasting_within s from h t n in
    let some : 0 < lasting s from h t n = lasted h p l in
    record {
      seat = is.0;
      kind = is.1;
      some = p;
      begins_within = omega (arith, within, l);
      order = omega (arith, some);
      ends_within = omega (arith, l);
      throughout = λ k a b. lasting_throughout s from h t n k a (omega (arith, b, l));
      before = ⊎_elim (λ later. inr (λ q. lasting_before s from h t n later q))
          (λ early. inl (omega (arith, early, within, l)))
          (cases_lt from (length h - lasting s from h t n));
    }
  where
    lasted : (h : List Entry) → 0 < level_of s h t → from < length h →
        0 < lasting s from h t (level_of s h t)
    lasted [] p l = absurd (omega (arith, l))
    lasted (e ∷ h) p l =
        let m = lasting_on s from e h t (level_of s (e ∷ h) t) (omega (arith, l)) refl in omega (arith, m)

-- a run that reaches the newest entry is the bar of its track
run_reaching : (s : Start) (from : ℕ) (h : List Entry) (b : Bar) → IsRun s from h b → b.last + 1 ≡ length h →
    Contains (bar_at s from h (track b.seat b.kind)) b
run_reaching s from h b r q =
    let t = track b.seat b.kind in
    let now : level_of s h t ≡ b.holds =
    sym (behind_last s h b.seat b.kind b.last q) ∙ r.throughout b.last r.order (omega arith) in
    let some : 0 < level_of s h t = omega (arith, now, r.some) in
    let since = lasts s from h t b.holds b.first r.begins_within (omega (arith, r.order, r.ends_within))
    (λ k f l. r.throughout k f (omega (arith, l, q))) r.before in
    let first : length h - lasting s from h t (level_of s h t) ≡ b.first =
    ap (λ n. length h - lasting s from h t n) now ∙ omega (arith, since) in
    let last : length h - 1 ≡ b.last = omega (arith, q) in
    subst (λ xs. Contains xs b)
    (sym (bar_at_is s from h t some (omega (arith, r.begins_within, r.order, r.ends_within))))
    (alone_in (reaching s from h t) b (same b first last now))
  where
    same : (b : Bar) → length h - lasting s from h (track b.seat b.kind) (level_of s h (track b.seat b.kind))
        ≡ b.first → length h - 1 ≡ b.last → level_of s h (track b.seat b.kind) ≡ b.holds →
        reaching s from h (track b.seat b.kind) ≡ b
    same b f l n = rw (f, l, n) refl

-- the bars that have ended: runs with another level behind them
record HasEnded (s : Start) (from : ℕ) (h : List Entry) (b : Bar) : Type 0 where
  run : IsRun s from h b
  more : b.last + 1 < length h
  behind : level_behind s h b.seat b.kind (b.last + 1) ≢ b.holds

ended_run : (s : Start) (from : ℕ) (h : List Entry) (b : Bar) → Contains (ended s from h) b →
    HasEnded s from h b
ended_run s from [] b c = absurd (nothing_in b c)
ended_run s from (e ∷ h) b c =
    ⊎_elim
    (λ old. let r = ended_run s from h b old in
    record {
      run = run_later s from e h b r.run;
      more = omega (arith, r.more);
      behind = λ q. r.behind (sym (behind_same s e h b.seat b.kind (b.last + 1) r.more) ∙ q);
    })
    (λ new. let x = flat_in (ended_by s from e h) (tracks s.header) b new in
    fresh x.0 (in_below s.header.conditions s.header.seats x.0 x.1)
    (eqb (level_of s (e ∷ h) x.0) (level_of s h x.0)) refl x.2)
    (Contains-append_cases (ended s from h) (flat_map (ended_by s from e h) (tracks s.header)) b c)
  where
    fresh : (t : Track) → IsTrack s.header.seats s.header.conditions t → (x : Bool) →
        eqb (level_of s (e ∷ h) t) (level_of s h t) ≡ x → Contains (cond x [] (bar_at s from h t)) b →
        HasEnded s from (e ∷ h) b
    fresh t is true p c = absurd (nothing_in b c)
    fresh t is false p c =
        let r = in_bar_at s from h t b c in
        let run = run_later s from e h (reaching s from h t) (reaching_run s from h t is r.1 r.2) in
        subst (HasEnded s from (e ∷ h)) r.0 (record {
          run = run;
          more = (let l = r.2 in omega (arith, l));
          behind = λ q. eqb-false (level_of s (e ∷ h) t) (level_of s h t) p
              (sym (behind_last s (e ∷ h) t.seat t.kind (length h - 1 + 1)
              (let l = r.2 in omega (arith, l))) ∙ q);
        })

run_ended : (s : Start) (from : ℕ) (h : List Entry) (b : Bar) → HasEnded s from h b →
    Contains (ended s from h) b
run_ended s from [] b r = absurd (omega (arith, r.more))
run_ended s from (e ∷ h) b r =
    let before = run_earlier s from e h b (omega (arith, r.more)) r.run in
    ⊎_elim
    (λ old. Contains-append_left (ended s from h) (flat_map (ended_by s from e h) (tracks s.header)) b
    (run_ended s from h b (record {
      run = before;
      more = old;
      behind = λ q. r.behind (behind_same s e h b.seat b.kind (b.last + 1) old ∙ q);
    })))
    (λ new. let last : b.last + 1 ≡ length h = omega (arith, new, r.more) in
    Contains-append_right (ended s from h) (flat_map (ended_by s from e h) (tracks s.header)) b
    (in_flat (ended_by s from e h) (tracks s.header) (track b.seat b.kind) b
    (below_in s.header.conditions s.header.seats b.seat b.kind r.run.seat r.run.kind)
    (subst (λ xs. Contains xs b) (sym (changed before last)) (run_reaching s from h b before last))))
    (cases_lt (b.last + 1) (length h))
  where
    changed : IsRun s from h b → b.last + 1 ≡ length h →
        ended_by s from e h (track b.seat b.kind) ≡ bar_at s from h (track b.seat b.kind)
    changed before last =
        let was : level_of s h (track b.seat b.kind) ≡ b.holds =
        sym (behind_last s h b.seat b.kind b.last last) ∙ before.throughout b.last before.order
        (omega arith) in
        rw (ne_eqb (level_of s (e ∷ h) (track b.seat b.kind)) (level_of s h (track b.seat b.kind))
        (λ q. r.behind (behind_last s (e ∷ h) b.seat b.kind (b.last + 1) (omega (arith, last)) ∙ q ∙ was)))
        refl

-- the bars are those, and those that reach the newest entry
pub bars_exact : (s : Start) (from : ℕ) (h : List Entry) (b : Bar) →
    Contains (bars s from h) b ↔ IsBar s from h b
bars_exact s from h b = (to, back)
  where
    to : Contains (bars s from h) b → IsBar s from h b
    to c = ⊎_elim (λ old. let r = ended_run s from h b old in record { run = r.run; behind = inr r.behind })
        (λ new. let x = flat_in (bar_at s from h) (tracks s.header) b new in
        let r = in_bar_at s from h x.0 b x.2 in
        let is = in_below s.header.conditions s.header.seats x.0 x.1 in
        let run = subst (IsRun s from h) r.0 (reaching_run s from h x.0 is r.1 r.2) in
        let last : length h - 1 ≡ b.last = ap (λ (y : Bar). y.last) r.0 in
        record { run = run; behind = inl (let l = r.2 in omega (arith, l, last)) })
        (Contains-append_cases (ended s from h) (flat_map (bar_at s from h) (tracks s.header)) b c)

    reaches : IsRun s from h b → b.last + 1 ≡ length h → Contains (bars s from h) b
    reaches run last = Contains-append_right (ended s from h) (flat_map (bar_at s from h) (tracks s.header)) b
        (in_flat (bar_at s from h) (tracks s.header) (track b.seat b.kind) b
        (below_in s.header.conditions s.header.seats b.seat b.kind run.seat run.kind)
        (run_reaching s from h b run last))

    back : IsBar s from h b → Contains (bars s from h) b
    back r =
        ⊎_elim (λ last. reaches r.run last)
        (λ ne. ⊎_elim
        (λ more. Contains-append_left (ended s from h) (flat_map (bar_at s from h) (tracks s.header)) b
        (run_ended s from h b (record { run = r.run; more = more; behind = ne })))
        (λ less. reaches r.run (omega (arith, less, r.run.ends_within)))
        (cases_lt (b.last + 1) (length h)))
        r.behind
