-- The entries of a text are followed as their lines are read.
use Rattle.std.proofs.Common.{◌≡◌, ℕ, ◌+◌, ◌<◌, ◌≤◌, ◌^◌, nat_lt, Bool, true, false, List, [], ◌∷◌, ◌++◌, length, reverse, take, Option, None, Some, Result, Ok, IfSome, IfOk, OnOk, sym, ap, ◌∙◌, arith, subst, length-append, length-take, take_all, if◌then◌else◌, is_some}
use Rattle.std.proofs.lemmas.Bool.Decides.{nat_tests}
use Rattle.std.proofs.lemmas.List.{reverse-append, take-append-le}
use Rattle.std.proofs.lemmas.List.Elements.{All-push}
use Rattle.std.specs.List.{All}
use Rattle.audit.proofs.Beginnings.{header_from}
use Rattle.driver.specs.Below.{Judgement, HasJudged, IsJudgement, verdict_of, Entry, Header, Base, based, IsBasedWell, or_opening, ends_call, IsInRange, calls, Start, IsHistoryText}
use Rattle.audit.specs.declared.verdict.Judgement.TheVariants.{Legal, NotLegal}
use Rattle.driver.specs.declared.judged.Following.{Following}
use Rattle.driver.specs.declared.telling.Telling.{Telling}
use Rattle.driver.specs.Prelude.{IsVerdict, AreCounted, EntriesHeld, IsEntryNext, base_held}
use Rattle.driver.specs.inner.Judged.{AreSums, Follows, IsFollowed, kept_with}
use Rattle.driver.specs.inner.Telling.{is_summed}
use Rattle.driver.proofs.EntriesAhead.{EntriesOn}
use Rattle.summing.specs.Summing.{HasSummed, IsSumming}
use Rattle.summing.specs.declared.summing.Summing.{Summing}

pub verdict_is : (b : Base) (entries : List Entry) (j : Judgement) → IsJudgement (based b) entries j →
    IsVerdict b entries (verdict_of j)
verdict_is b entries (Legal totals) judged = judged.0
verdict_is b entries (NotLegal number) judged = judged.0

-- a history begins from the same base as long as it is read
pub base_kept : (old new : EntriesHeld) → new.header ≡ old.header → new.base ≡ old.base →
    base_held new ≡ base_held old
base_kept old new header base =
    ap (λ (k : Header). or_opening k new.base) header
    ∙ ap (λ (o : Option Base). or_opening old.header o) base

-- one more entry is kept, or none
kept_more : (xs : List Entry) (e : Entry) (most : ℕ) → kept_with (take most xs) e most ≡ take most (xs ++ e ∷ [])
kept_more xs e most =
    grind (
      arith,
      nat_tests,
      take_all most xs,
      take_all most (xs ++ e ∷ []),
      length-take most xs,
      length-append xs (e ∷ []),
      take-append-le most xs (e ∷ []),
    )

seated_by : (P : Entry → Type 0) (kept : List Entry) (e : Entry) (b : Bool) → All P kept → P e →
    All P (if b then kept ++ e ∷ [] else kept)
seated_by P kept e true all seat = All-push P kept e all seat
seated_by P kept e false all seat = all

-- one more entry was followed
pub follows_on : (f g : Following) (e : Entry) (s : Start) (h : List Entry) → g.most ≡ f.most →
    ((t : Start) (k : List Entry) → HasJudged t k f.auditor → e.seat < t.header.seats →
    HasJudged t (e ∷ k) g.auditor) → g.kept.items ≡ kept_with f.kept.items e f.most →
    (IfSome f.summing (AreSums s h) → IfSome g.summing (AreSums s (e ∷ h))) → Follows s h f →
    e.seat < s.header.seats → Follows s (e ∷ h) g
follows_on f g e s h same judges kept sums was seat =
    let P : Entry → Type 0 = λ x. x.seat < s.header.seats in
    record {
      judged = judges s h was.judged seat;
      front = kept ∙ ap (λ xs. kept_with xs e f.most) was.front ∙ kept_more (reverse h) e f.most
          ∙ ap (take f.most) (sym (reverse-append (e ∷ []) h))
          ∙ ap (λ n. take n (reverse (e ∷ h))) (sym same);
      seated = subst (All P) (sym kept) (seated_by P f.kept.items e (nat_lt (length f.kept.items) f.most) was.seated seat);
      sums = sums was.sums;
    }

-- what holds of a success follows from what is known of it
pub on_ok : {A E : Type 0} {P Q : Type 0} (r : Result A E) → (P → Q) → OnOk r P → OnOk r Q
on_ok r f p = grind arith

pub if_any : {A E : Type 0} {P : A → Type 0} (r : Result A E) → ((x : A) → P x) → IfOk r P
if_any r f = grind arith

sums_begun : (s : Start) (o : Option Summing) → IfSome o (HasSummed s []) → IfSome o (AreSums s [])
sums_begun s None summed = tt
sums_begun s (Some z) summed =
    record {
      summed = λ legal. summed;
      sound = record { start = s; entries = []; summed = summed; few = omega arith };
    }

-- nothing was followed
pub follows_none : (s : Start) (f : Following) → HasJudged s [] f.auditor → f.kept.items ≡ [] →
    IfSome f.summing (HasSummed s []) → Follows s [] f
follows_none s f judged empty summed =
    record {
      judged = judged;
      front = empty ∙ sym (take_all f.most [] (omega arith));
      seated = subst (All (λ (e : Entry). e.seat < s.header.seats)) (sym empty) (λ i d lt. absurd (omega (arith, lt)));
      sums = sums_begun s f.summing summed;
    }

pub sums_sound : (s : Start) (h : List Entry) (o : Option Summing) → IfSome o (AreSums s h) → IfSome o IsSumming
sums_sound s h None sums = tt
sums_sound s h (Some z) sums = sums.sound

-- these entries were read from the base on, and followed
pub record Reading (first : EntriesHeld) (left : Option (List ℕ)) (now : EntriesHeld) (mid : Option (List ℕ))
    (telling : Telling) (f : Following) : Type 0 where
  pub entries : List Entry
  pub read : EntriesOn first left (reverse entries) now mid
  pub follows : Follows (based (base_held first)) entries f
  pub header : now.header ≡ first.header
  pub base : now.base ≡ first.base
  pub count : now.place.count ≡ length entries
  pub calls : now.place.calls ≡ calls (based (base_held first)) entries
  pub few : length entries < 2 ^ 32
  pub summing : is_some f.summing ≡ is_summed telling
  pub range : IsInRange first.header
  pub well : IsBasedWell first.header first.base

pub seat_based : (first old new : EntriesHeld) (e : Entry) → old.header ≡ first.header →
    IsBasedWell first.header first.base → AreCounted old (Some e) new →
    e.seat < (based (base_held first)).header.seats
seat_based first old new e header well counted =
    subst (λ (k : Header). e.seat < k.seats) (sym (header_from first.header first.base well))
    (subst (λ (k : Header). e.seat < k.seats) header counted.2)

-- one more entry is few enough
pub room_on : (first old new : EntriesHeld) (e : Entry) (n : ℕ) → old.header ≡ first.header →
    AreCounted old (Some e) new → old.place.count ≡ n → IsInRange first.header → n + 1 < 2 ^ 32
room_on first old new e n header counted count range =
    let within = subst (λ (k : Header). new.place.count ≤ k.cap) header counted.1 in
    let one = ap (λ p. p.count) counted.0 in
    omega (arith, one, within, count, range.cap)

pub reading_on : (first old new : EntriesHeld) (left mid after : Option (List ℕ)) (telling : Telling)
    (f g : Following) (e : Entry) →
    IsEntryNext old mid (Ok (Some e)) new after → new.header ≡ old.header → new.base ≡ old.base →
    AreCounted old (Some e) new →
    ((s : Start) (h : List Entry) → Follows s h f → e.seat < s.header.seats → length h + 1 < 2 ^ 32 →
    Follows s (e ∷ h) g) → is_some g.summing ≡ is_some f.summing →
    Reading first left old mid telling f → Reading first left new after telling g
reading_on first old new left mid after telling f g e next same same_base counted follow summing j =
    let one = ap (λ p. p.count) counted.0 in
    let few : length j.entries + 1 < 2 ^ 32 =
    room_on first old new e (length j.entries) j.header counted j.count j.range in
    record {
      entries = e ∷ j.entries;
      read = rw (reverse-append (e ∷ []) j.entries)
          (λ text were. next text (reverse j.entries) (j.read text were));
      follows = follow (based (base_held first)) j.entries j.follows
          (seat_based first old new e j.header j.well counted) few;
      header = same ∙ j.header;
      base = same_base ∙ j.base;
      count = omega (arith, one, j.count);
      calls = ap (λ p. p.calls) counted.0 ∙ ap (λ n. n + (if ends_call e.word then 1 else 0)) j.calls;
      few = omega (arith, few);
      summing = summing ∙ j.summing;
      range = j.range;
      well = j.well;
    }

pub all_followed : (first now new : EntriesHeld) (left mid after : Option (List ℕ)) (telling : Telling)
    (f : Following) → IsEntryNext now mid (Ok None) new after →
    new.header ≡ now.header → new.base ≡ now.base → AreCounted now None new →
    Reading first left now mid telling f → IsFollowed first left new telling f
all_followed first now new left mid after telling f all same same_base counted j =
    record {
      entries = j.entries;
      is = λ text were.
          subst (λ (b : Base). IfSome text (λ t. IsHistoryText t b (reverse j.entries)))
          (base_kept first now j.header j.base) (all text (reverse j.entries) (j.read text were));
      follows = j.follows;
      header = same ∙ j.header;
      base = same_base ∙ j.base;
      count = ap (λ p. p.count) counted ∙ j.count;
      calls = ap (λ p. p.calls) counted ∙ j.calls;
      few = j.few;
      summing = j.summing;
    }
