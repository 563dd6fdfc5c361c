-- What the line of a base spells is read again, and is no other line.
use Rattle.std.proofs.Common.{◌≡◌, ⊎_elim, ℕ, ◌+◌, ◌*◌, ◌^◌, ◌<◌, ◌≤◌, Bool, true, false, List, [], ◌∷◌, length, get_or, Some, refl, sym, ap, ◌∙◌, arith, decimal, codes, length-append}
use Rattle.std.specs.List.{AllByRecursion}
use Rattle.std.proofs.lemmas.Fmt.{length-decimal-le_wide}
use Rattle.history_text.specs.Below.{LinePlace, SeatBase, Entry, Header, Object, Base, IsWritten, entry_words, LAST_CONDITION, MOST_AMOUNT, MOST_BASE_PERMITS, MOST_FOLDED, MOST_HOLDS, Asks, GaveUp, Returns, IsInRange, IsOpening, opening_count, Words, line_of, words_of}
use Rattle.history.specs.declared.entry.End.TheVariants as end
use Rattle.history.proofs.Asking.{asked_few}
use Rattle.history.proofs.EntryAgain.{plain_entry, words_again_read}
use Rattle.history.proofs.Numbers.{digits_alone, number_at_again}
use Rattle.history.proofs.Owners.{most_fits}
use Rattle.history.proofs.Plain.{ArePlain, words_again}
use Rattle.history.proofs.Readers.{same_value}
use Rattle.history.proofs.WideNumbers.{wide_at_again, wide_plain}
use Rattle.streams.proofs.Lawful.{Lacks}
use Rattle.streams.proofs.Lists.{head_is}
use Rattle.streams.proofs.WholeLines.{line_lacks}
use Rattle.history_text.specs.Prelude.{BaseLine, Folded, Released, CountedDown, Seat, Stands, Sleeps, IsBaseLine, stood_by, base_line, base_words, waiting_by, base_line_at, beside_at, folded_at, has_at, sleeps_at, stands_at, MayFollow, MayHold, BaseSums, HasLine, counts_line, entry_line}
use Rattle.history_text.specs.declared.base_line.TheConstants.{LAST_SEAT}
use Rattle.history_text.proofs.Amounts.{few_conditions}
use Rattle.history_text.proofs.Spelt.{came_back}
use Rattle.history_text.proofs.EntryLemmas.{counts_line-words, counts_plain, entry_line-words, line_plain}

-- ---- the words of a line

seat_again : (i : ℕ) (has : SeatBase) → i ≤ LAST_SEAT → has.calls ≤ MOST_FOLDED → has.exclusive ≤ MOST_HOLDS →
    has.shared ≤ MOST_BASE_PERMITS
    → has_at (decimal i ∷ codes "calls" ∷ decimal has.calls ∷ codes "x" ∷ decimal has.exclusive ∷ codes "s"
    ∷ decimal has.shared ∷ []) ≡ Some (Seat i has, [])
unfolding has_at
seat_again i has small calls exclusive shared =
    rw (
      number_at_again 0 LAST_SEAT i _ (omega (arith, small)) (omega arith) small,
      number_at_again 0 MOST_FOLDED has.calls _ (omega (arith, calls)) (omega arith) calls,
      number_at_again 0 MOST_HOLDS has.exclusive _ (omega (arith, exclusive)) (omega arith) exclusive,
      wide_at_again 0 MOST_BASE_PERMITS has.shared [] (omega (arith, shared)) (omega arith) shared,
    ) refl

stands_again : (p : LinePlace) (b : Bool) → p.who.seat ≤ LAST_SEAT → IsWritten (waiting_by b p) →
    p ≡ stood_by b (waiting_by b p) →
    stands_at (decimal p.who.seat ∷ entry_words (waiting_by b p)) ≡ Some (Stands p, [])
unfolding stands_at
stands_again p b small written same =
    grind (
      arith,
      number_at_again 0 LAST_SEAT p.who.seat (entry_words (waiting_by b p)) (omega (arith, small))
          (omega arith) small,
      words_again_read (waiting_by b p) written,
    )

sleeps_again : (c i h : ℕ) → c ≤ LAST_CONDITION → i ≤ LAST_SEAT → h ≤ MOST_HOLDS →
    sleeps_at (decimal c ∷ decimal i ∷ decimal h ∷ []) ≡ Some (Sleeps c (record { seat = i; holds = h }), [])
unfolding sleeps_at
sleeps_again c i h few small most =
    rw (
      number_at_again 0 LAST_CONDITION c _ (omega (arith, few)) (omega arith) few,
      number_at_again 0 LAST_SEAT i _ (omega (arith, small)) (omega arith) small,
      number_at_again 0 MOST_HOLDS h [] (omega (arith, most)) (omega arith) most,
    ) refl

base_again : (x : BaseLine) → IsBaseLine x → base_line_at (base_words x) ≡ Some (x, [])
unfolding base_line_at folded_at beside_at
base_again (Folded t) is = rw (wide_at_again 1 MOST_FOLDED t [] (omega (arith, is.1)) is.0 is.1) refl
base_again (Released t u) is =
    rw (
      wide_at_again 1 MOST_FOLDED t _ (omega (arith, is.1)) is.0 is.1,
      wide_at_again 0 MOST_BASE_PERMITS u [] (omega (arith, is.2)) (omega arith) is.2,
    ) refl
base_again (CountedDown t q) is =
    rw (
      wide_at_again 1 MOST_FOLDED t _ (omega (arith, is.1)) is.0 is.1,
      number_at_again 0 MOST_AMOUNT q [] (omega (arith, is.2)) (omega arith) is.2,
    ) refl
base_again (Seat i has) is = seat_again i has is.0 is.1 is.2 is.3
base_again (Stands p) is = stands_again p p.who.back is.0 is.1 is.2
base_again (Sleeps c x) is = sleeps_again c x.seat x.holds is.0 is.1 is.2

base_plain : (x : BaseLine) → IsBaseLine x → ArePlain (base_words x)
base_plain x is = grind (arith, wide_plain, plain_entry)

-- the first word, and what follows it
abbrev name_of : BaseLine → List ℕ
name_of (Folded t) = codes "base"
name_of (Released t u) = codes "base"
name_of (CountedDown t q) = codes "base"
name_of (Seat i has) = codes "seat"
name_of (Stands p) = codes "line"
name_of (Sleeps c x) = codes "sleeper"

named : (x : BaseLine) → (rest : Words) × (base_words x ≡ name_of x ∷ rest)
named (Folded t) = (_, refl)
named _ = (_, refl)

words_kept : (ws : Words) (w : List ℕ) (rest : Words) → ws ≡ w ∷ rest → ArePlain ws →
    words_of (line_of ws) ≡ ws
words_kept [] w rest is plain = absurd cc
words_kept (v ∷ ws) w rest is plain = words_again v ws plain

pub base_line-words : (x : BaseLine) → IsBaseLine x → words_of (base_line x) ≡ base_words x
base_line-words x is = words_kept (base_words x) (name_of x) (named x).0 (named x).1 (base_plain x is)

pub whole_base_line : (x : BaseLine) → IsBaseLine x → base_line_at (words_of (base_line x)) ≡ Some (x, [])
whole_base_line x is = ap base_line_at (base_line-words x is) ∙ base_again x is

pub same_base_line : (x y : BaseLine) → IsBaseLine x → IsBaseLine y → base_line x ≡ base_line y → x ≡ y
same_base_line x y p q e =
    same_value base_line_at (base_line x) (base_line y) x y (whole_base_line x p) (whole_base_line y q) e

pub base_lacks : (x : BaseLine) → IsBaseLine x → Lacks (base_line x)
base_lacks x is = line_lacks (base_words x) (base_plain x is)

-- ---- it is no other line

letter : (x : BaseLine) → 57 < get_or (name_of x) 0 0
letter x = grind arith

not_e : (x : BaseLine) → get_or (name_of x) 0 0 ≡ 101 → ⊥
not_e x e = grind arith

some_bytes : (x : BaseLine) → 0 < length (name_of x)
some_bytes x = grind arith

-- the words of two lines that are the same
same_first : (x : BaseLine) (w : List ℕ) (ws : Words) → IsBaseLine x → ArePlain (w ∷ ws) →
    base_line x ≡ line_of (w ∷ ws) → name_of x ≡ w
same_first x w ws is plain e =
    head_is (sym (named x).1 ∙ sym (base_line-words x is) ∙ ap words_of e ∙ words_again w ws plain)

pub base_no_entry : (x : BaseLine) (h : Header) (k : ℕ) (e : Entry) → IsBaseLine x → k < 2 ^ 64 →
    IsInRange h → HasLine h e → base_line x ≡ entry_line k e → ⊥
base_no_entry x h k e is lt range fits same =
    let word = same_first x (decimal k) (decimal e.seat ∷ entry_words e) is (line_plain h k e lt range fits)
    (same ∙ entry_line-words k e) in
    let digit = digits_alone (name_of x) k 0 lt (some_bytes x) word in
    omega (arith, digit, letter x)

pub base_no_end : (x : BaseLine) (a b : ℕ) → IsBaseLine x → a < 2 ^ 64 → b < 2 ^ 64 →
    base_line x ≡ counts_line a b → ⊥
base_no_end x a b is l k same =
    let word = same_first x (codes "end") (decimal a ∷ decimal b ∷ []) is (counts_plain a b l k)
    (same ∙ counts_line-words a b) in
    not_e x (ap (λ (w : List ℕ). get_or w 0 0) word)

-- ---- its length

abbrev weight : Words → ℕ
weight [] = 0
weight (w ∷ ws) = length w + 1 + weight ws

line_weight : (ws : Words) → length (line_of ws) ≤ weight ws
line_weight [] = omega arith
line_weight (w ∷ []) = omega arith
line_weight (w ∷ v ∷ ws) = omega (arith, line_weight (v ∷ ws), length-append w (32 ∷ line_of (v ∷ ws)))

short_weight : (ws : Words) → AllByRecursion (λ w. length w ≤ 20) ws → weight ws ≤ 21 * length ws
short_weight [] short = omega arith
short_weight (w ∷ ws) short = omega (arith, short.0, short_weight ws short.1)

few_bytes : (n : ℕ) → n ≤ MOST_AMOUNT → length (decimal n) ≤ 10
few_bytes n lt = length-decimal-le_wide 10 n (omega arith) (omega (arith, lt)) (omega (arith, lt))

folded_bytes : (n : ℕ) → n ≤ MOST_FOLDED → length (decimal n) ≤ 16
folded_bytes n lt = length-decimal-le_wide 16 n (omega arith) (omega (arith, lt)) (omega (arith, lt))

permit_bytes : (n : ℕ) → n ≤ MOST_BASE_PERMITS → length (decimal n) ≤ 26
permit_bytes n lt = length-decimal-le_wide 26 n (omega arith) (omega (arith, lt)) (omega (arith, lt))

base_weight : (x : BaseLine) → IsBaseLine x →
    ((p : LinePlace) → IsBaseLine (Stands p) → weight (entry_words (waiting_by p.who.back p)) ≤ 84) →
    weight (base_words x) < 256
base_weight x is stands = grind (arith, few_bytes, folded_bytes, permit_bytes, stands)

pub base_short : (x : BaseLine) → IsBaseLine x
    → ((p : LinePlace) → IsBaseLine (Stands p)
    → AllByRecursion (λ w. length w ≤ 20) (entry_words (waiting_by p.who.back p))
    × (length (entry_words (waiting_by p.who.back p)) ≤ 4)) → length (base_line x) < 256
base_short x is stands =
    let all = base_weight x is (λ p fits. (let short = stands p fits in
    omega (arith, short_weight (entry_words (waiting_by p.who.back p)) short.0))) in
    omega (arith, line_weight (base_words x), all)

-- ---- a line that may follow is spelt

opening_few : (o : Object) (c : ℕ) → IsOpening o c → opening_count o ≤ MOST_AMOUNT
opening_few o c r = grind arith

few_held : (o : Object) (seats : ℕ) (t : BaseSums) (has : SeatBase) → MayHold o seats t has →
    (has.exclusive ≤ MOST_HOLDS) × (has.shared ≤ MOST_BASE_PERMITS)
few_held o seats t has may = grind arith

asks_line : (b : Base) (p : LinePlace) → IsInRange b.header → p.who.back ≡ false → Asks b p →
    IsBaseLine (Stands p)
asks_line b p range back asks =
    let amount = asked_few b.header.object p.who.n asks.amount in
    rw back (
      omega (arith, range.seats, asks.seat),
      record { words = (refl, refl); amount = omega (arith, amount); condition = omega arith },
      λ j. record {
        who = record { seat = p.who.seat; mode = p.who.mode; n = p.who.n; back = false };
        condition = asks.condition j;
        holds = asks.holds j;
        how = asks.how j;
      },
    )

gave_few : (b : Base) (i c n : ℕ) → IsInRange b.header → GaveUp b i c n →
    (i ≤ LAST_SEAT) × (c ≤ LAST_CONDITION) × (n ≤ MOST_HOLDS)
gave_few b i c n range gave = (
  omega (arith, range.seats, gave.seat),
  omega (arith, few_conditions b.header.object b.header.conditions range.opening, gave.condition),
  omega (arith, most_fits b.header.object, gave.most),
)

returns_line : (b : Base) (p : LinePlace) → IsInRange b.header → p.who.back ≡ true → Returns b p →
    IsBaseLine (Stands p)
returns_line b p range back returns =
    let few = gave_few b p.who.seat p.condition p.holds range returns.gave in
    rw back (
      few.0,
      record { words = (refl, came_back p.how returns.how); amount = few.2; condition = few.1 },
      λ j. record {
        who = record {
          seat = p.who.seat;
          mode = (returns.who j).mode;
          n = (returns.who j).n;
          back = true;
        };
        condition = p.condition;
        holds = p.holds;
        how = p.how;
      },
    )

pub may_follow_spelt : (t : BaseSums) (b : Base) (x : BaseLine) → IsInRange b.header →
    t.entries ≤ MOST_FOLDED → MayFollow t b x → IsBaseLine x
may_follow_spelt t b (Folded n) range few may = (may.0.some, may.0.most)
may_follow_spelt t b (Released n u) range few may = (may.0.some, may.0.most, may.2)
may_follow_spelt t b (CountedDown n q) range few may = (
  may.0.some,
  may.0.most,
  omega (arith, may.2, opening_few b.header.object b.header.conditions range.opening),
)
may_follow_spelt t b (Seat i has) range few may =
    let held = few_held b.header.object b.header.seats t has may.holds in (
      omega (arith, range.seats, may.seat),
      omega (arith, may.calls, few),
      held.0,
      held.1,
    )
may_follow_spelt t b (Stands p) range few may =
    ⊎_elim (λ q. asks_line b p range q.0 q.1) (λ q. returns_line b p range q.0 q.1) may.3
may_follow_spelt t b (Sleeps c x) range few may =
    let gave = gave_few b x.seat c x.holds range may.3 in (gave.1, gave.0, gave.2)
