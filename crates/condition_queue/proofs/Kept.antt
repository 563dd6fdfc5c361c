-- What falling asleep and leaving make of the lists, the counts and the table beside them.
use Rattle.std.proofs.Common.{◌≡◌, ◌≢◌, ◌⊎◌, inl, inr, ℕ, ◌+◌, ◌^◌, ◌<◌, ◌≤◌, Bool, true, false, not, ◌||◌, ◌&&◌, cond, eqb, List, [], ◌∷◌, ◌++◌, length, get_or, set, Option, Some, None, refl, ap, ◌∙◌, sym, subst, arith, IfSome, eqb-true, eq-eqb, ne_eqb, length-set}
use Rattle.std.proofs.lemmas.Bool.{cases_eq}
use Rattle.std.proofs.lemmas.Bool.Decides.{nat_tests}
use Rattle.std.proofs.lemmas.List.{get_or_past, length_push}
use Rattle.condition_queue.specs.Below.{has, without, LinkedLists, items, list_of, list_count, key_limit, Moves}
use Rattle.condition_queue.specs.declared.sleeper.Sleeper.{Sleeper}
use Rattle.condition_queue.specs.Sleepers.{AreLinkedSleepers, SleepOnce, sleeps_on, condition_of}
use Rattle.condition_queue.proofs.Lists.{has-append, has-without, once-push, once-without, length-once, without_absent, at_set}

-- a seat sleeps on one condition at most
pub sleeps_elsewhere : (c d : ℕ) (o : Option Sleeper) → sleeps_on c o ≡ true → d ≢ c → sleeps_on d o ≡ false
sleeps_elsewhere c d None p n = refl
sleeps_elsewhere c d (Some s) p n = ne_eqb s.condition d (λ e. n (sym e ∙ eqb-true s.condition c p))

-- only a seat of the object sleeps, and only on a condition of the object
pub seat_below : (table : List (Option Sleeper)) (c s : ℕ) → sleeps_on c (get_or table s None) ≡ true →
    s < length table
seat_below table c s p = grind (arith, get_or_past table s None)

pub condition_below : (lists : List (List ℕ)) (c s : ℕ) → has s (get_or lists c []) ≡ true → c < length lists
condition_below lists c s p = grind (arith, get_or_past lists c [])

pub known_asleep : (o : Option Sleeper) (x : Sleeper) → o ≡ Some x → sleeps_on x.condition o ≡ true
known_asleep o x told = ap (sleeps_on x.condition) told ∙ eq-eqb x.condition x.condition refl

-- where a seat sleeps, and where it doesn't
pub left_elsewhere : (c d s : ℕ) (o : Option Sleeper) (xs : List ℕ) → sleeps_on c o ≡ true → d ≢ c →
    has s xs ≡ sleeps_on d o → without s xs ≡ xs
left_elsewhere c d s o xs asleep differs listed =
    without_absent s xs (listed ∙ sleeps_elsewhere c d o asleep differs)

module _ (seats : ℕ) (l : LinkedLists) (counts : List ℕ) (table : List (Option Sleeper))
    (kept : AreLinkedSleepers seats l counts table) where
  pub list_below : (c s : ℕ) → sleeps_on c (get_or table s None) ≡ true → c < list_count l
  list_below c s asleep = condition_below l.lists c s (kept.listed c s ∙ asleep)

  pub asleep_below : (c s : ℕ) → sleeps_on c (get_or table s None) ≡ true → s < seats
  asleep_below c s asleep = omega (arith, seat_below table c s asleep, kept.one_a_seat)

  pub condition_known : (s : ℕ) (o : Option Sleeper) → get_or table s None ≡ o →
      IfSome o (λ x. x.condition < list_count l)
  condition_known s None told = tt
  condition_known s (Some x) told = list_below x.condition s (known_asleep (get_or table s None) x told)

  pub awake : (c s : ℕ) → get_or table s None ≡ None → has s (items l c) ≡ false
  awake c s none = kept.listed c s ∙ ap (sleeps_on c) none

  pub listed_on : (s : ℕ) (x : Sleeper) → get_or table s None ≡ Some x → list_of l s ≡ Some x.condition
  listed_on s x told = kept.owned s ∙ ap condition_of told

  -- there is one more seat than sleep on a condition, where one of them is awake
  pub room_to_join : (c s : ℕ) → s < seats → get_or table s None ≡ None → length (items l c) + 1 ≤ seats
  room_to_join c s seat none =
      let few =
      length-once seats (items l c ++ s ∷ []) (once-push s (items l c) (kept.once c) (awake c s none))
      (λ i h. grind (arith, nat_tests, asleep_below c i, kept.listed c i, has-append i (items l c) (s ∷ []))) in
      omega (arith, few, length_push (items l c) s)

  -- the list of one condition changes by one seat, and the table at that seat
  module _ (c s n : ℕ) (m : LinkedLists) (o : Option Sleeper) (low : c < list_count l) (seat : s < seats)
      (once : SleepOnce (items m c))
      (changed : (i : ℕ) → has i (items m c) ≡ cond (eqb s i) (sleeps_on c o) (has i (items l c)))
      (elsewhere : (d : ℕ) → d ≢ c → sleeps_on d o ≡ sleeps_on d (get_or table s None))
      (others : (d : ℕ) → d ≢ c → items m d ≡ items l d) (moves : Moves l m s (condition_of o))
      (long : n ≡ length (items m c)) where
    told : (i : ℕ) → get_or (set table s o) i None ≡ cond (eqb s i) o (get_or table i None)
    told i = at_set table s i o None (omega (arith, seat, kept.one_a_seat))

    listed_now : (d i : ℕ) → has i (items m d) ≡ sleeps_on d (get_or (set table s o) i None)
    listed_now d i = grind (arith, nat_tests, told i, changed i, others d, kept.listed d i, elsewhere d)

    owned_now : (i : ℕ) → list_of m i ≡ condition_of (get_or (set table s o) i None)
    owned_now i = grind (arith, nat_tests, told i, moves.moved, moves.others i, kept.owned i)

    once_now : (d : ℕ) → (c ≡ d) ⊎ (c ≡ d → ⊥) → SleepOnce (items m d)
    once_now d (inl e) = subst (λ k. SleepOnce (items m k)) e once
    once_now d (inr x) = subst SleepOnce (sym (others d (λ e. x (sym e)))) (kept.once d)

    counted_now : (d : ℕ) → get_or (set counts c n) d 0 ≡ length (items m d)
    counted_now d =
        let set_at = at_set counts c d n 0 (omega (arith, low, kept.each_counted)) in
        grind (arith, nat_tests, set_at, long, kept.counted d, others d)

    pub kept_changed : AreLinkedSleepers seats m (set counts c n) (set table s o)
    kept_changed =
        record {
          listed = listed_now;
          owned = owned_now;
          once = λ d. once_now d (cases_eq c d);
          counted = counted_now;
          each_counted = omega (arith, length-set counts c n, kept.each_counted, moves.count);
          one_a_seat = length-set table s o ∙ kept.one_a_seat;
          linked = omega (arith, kept.linked, moves.limit);
          few = kept.few;
        }

  -- one who is awake falls asleep
  pub kept_joined : (c s h n : ℕ) (m : LinkedLists) → c < list_count l → s < seats →
      get_or table s None ≡ None →
      items m c ≡ items l c ++ s ∷ [] → ((d : ℕ) → d ≢ c → items m d ≡ items l d) → Moves l m s (Some c) →
      n ≡ get_or counts c 0 + 1 →
      AreLinkedSleepers seats m (set counts c n) (set table s (Some (record { condition = c; holds = h })))
  kept_joined c s h n m low seat none last others moves more =
      kept_changed c s n m (Some (record { condition = c; holds = h })) low seat
      (subst SleepOnce (sym last) (once-push s (items l c) (kept.once c) (awake c s none)))
      (λ i. ap (has i) last ∙ has-append i (items l c) (s ∷ [])
      ∙ asleep (eqb s i) (has i (items l c)) (eqb c c) (eq-eqb c c refl))
      (λ d x. ne_eqb c d (λ e. x (sym e)) ∙ ap (sleeps_on d) (sym none)) others moves
      (omega (arith, more, kept.counted c, ap length last, length_push (items l c) s))
    where
      asleep : (b h t : Bool) → t ≡ true → (h || (b || false)) ≡ cond b t h
      asleep b h t e = grind arith

  -- one who sleeps leaves
  pub kept_left : (s n : ℕ) (x : Sleeper) (m : LinkedLists) → get_or table s None ≡ Some x →
      items m x.condition ≡ without s (items l x.condition) →
      length (items m x.condition) + 1 ≡ length (items l x.condition) →
      ((d : ℕ) → d ≢ x.condition → items m d ≡ items l d) → Moves l m s None →
      n + 1 ≡ get_or counts x.condition 0 → AreLinkedSleepers seats m (set counts x.condition n) (set table s None)
  kept_left s n x m told left shorter others moves fewer =
      let c = x.condition in
      let asleep = known_asleep (get_or table s None) x told in
      kept_changed c s n m None (list_below c s asleep) (asleep_below c s asleep)
      (subst SleepOnce (sym left) (once-without s (items l c) (kept.once c)))
      (λ i. ap (has i) left ∙ has-without s i (items l c) ∙ gone (eqb s i) (has i (items l c)))
      (λ d y. sym (sleeps_elsewhere c d (get_or table s None) asleep y)) others moves
      (omega (arith, fewer, kept.counted c, shorter))
    where
      gone : (b h : Bool) → (not b && h) ≡ cond b false h
      gone b h = grind arith

  -- a seat that has left is in no list
  pub left_all : (s : ℕ) (x : Sleeper) (m : LinkedLists) → get_or table s None ≡ Some x →
      items m x.condition ≡ without s (items l x.condition) →
      ((d : ℕ) → d ≢ x.condition → items m d ≡ items l d) → (d : ℕ) → items m d ≡ without s (items l d)
  left_all s x m told left others d = by (cases_eq d x.condition)
    where
      by : (d ≡ x.condition) ⊎ (d ≡ x.condition → ⊥) → items m d ≡ without s (items l d)
      by (inl e) = ap (items m) e ∙ left ∙ ap (λ k. without s (items l k)) (sym e)
      by (inr n) =
          others d n
          ∙ sym (left_elsewhere x.condition d s (get_or table s None) (items l d)
          (known_asleep (get_or table s None) x told) n (kept.listed d s))

-- nobody sleeps in lists as they are opened
pub kept_opened : (seats : ℕ) (l : LinkedLists) (counts : List ℕ) (table : List (Option Sleeper)) →
    ((c : ℕ) → items l c ≡ []) → ((i : ℕ) → list_of l i ≡ None) → ((i : ℕ) → get_or table i None ≡ None) →
    ((c : ℕ) → get_or counts c 0 ≡ 0) → length counts ≡ list_count l → length table ≡ seats →
    seats ≡ key_limit l →
    seats < 2 ^ 16 → AreLinkedSleepers seats l counts table
kept_opened seats l counts table empty free none zeros each long room few =
    record {
      listed = λ c i. ap (has i) (empty c) ∙ sym (ap (sleeps_on c) (none i));
      owned = λ i. free i ∙ sym (ap condition_of (none i));
      once = λ c. let P : List ℕ → Type 0 = SleepOnce in subst P (sym (empty c)) tt;
      counted = λ c. zeros c ∙ sym (ap length (empty c));
      each_counted = each;
      one_a_seat = long;
      linked = room;
      few = few;
    }
