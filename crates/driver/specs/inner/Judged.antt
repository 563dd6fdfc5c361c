-- Judging the entries of a history text as they are read.
use Rattle.std.specs.Prelude.{◌≡◌, ◌↔◌, ℕ, ◌+◌, ◌<◌, ◌≤◌, ◌^◌, nat_lt, if◌then◌else◌, Bool, List, [], ◌∷◌, ◌++◌, length, reverse, take, Option, IfSome, IsTrue, is_some}
use Rattle.std.specs.List.{All}
use Rattle.driver.specs.Below.{HasJudged, IsJudgement, Base, CanFold, Entry, based, calls, IsGood, IsInRange, IsLegal, Start, IsHistoryText}
use Rattle.driver.specs.declared.judged.Following.{Following}
use Rattle.driver.specs.declared.judged.Judged.{Judged}
use Rattle.driver.specs.declared.telling.Telling.{Telling}
use Rattle.driver.specs.HistoryReader.{EntriesHeld, base_held}
use Rattle.driver.specs.inner.HistoryReader.{OfHistory}
use Rattle.driver.specs.inner.Telling.{is_summed}
use Rattle.summing.specs.Summing.{HasSummed, IsSumming}
use Rattle.summing.specs.declared.summing.Summing.{Summing}

-- the sums of legal entries
pub record AreSums (s : Start) (h : List Entry) (z : Summing) : Type 0 where
  pub summed : IsLegal s h → HasSummed s h z
  pub sound : IsSumming z

-- some legal entries were summed up, or some before the first illegal one, and one more may come
pub record CanSumUp (o : Option Summing) (is_legal : Bool) (e : Entry) : Type 0 where
  pub start : Start
  pub entries : List Entry
  pub sums : IfSome o (AreSums start entries)
  pub seat : e.seat < start.header.seats
  pub room : length entries + 1 < 2 ^ 32
  pub legal : IsTrue is_legal ↔ IsLegal start (e ∷ entries)

-- the kept entries with one more, if they are fewer than the most
abbrev pub kept_with : List Entry → Entry → ℕ → List Entry
kept_with kept e most = if nat_lt (length kept) most then kept ++ e ∷ [] else kept

-- these entries after a start were followed
pub record Follows (s : Start) (h : List Entry) (f : Following) : Type 0 where
  pub judged : HasJudged s h f.auditor
  pub front : f.kept.items ≡ take f.most (reverse h)
  pub seated : All (λ e. e.seat < s.header.seats) f.kept.items
  pub sums : IfSome f.summing (AreSums s h)

-- some entries were followed, after which one more of one of the seats may come
pub record CanFollow (f : Following) (e : Entry) : Type 0 where
  pub start : Start
  pub entries : List Entry
  pub follows : Follows start entries f
  pub seat : e.seat < start.header.seats
  pub room : length entries + 1 < 2 ^ 32

-- the text is a history text on the base that was read, and its entries were followed and counted
pub record IsFollowed (first : EntriesHeld) (left : Option (List ℕ)) (now : EntriesHeld) (telling : Telling)
    (f : Following) : Type 0 where
  pub entries : List Entry
  pub is : OfHistory first left (λ text. IsHistoryText text (base_held first) (reverse entries))
  pub follows : Follows (based (base_held first)) entries f
  pub header : now.header ≡ first.header
  pub base : now.base ≡ first.base
  pub count : now.place.count ≡ length entries
  pub calls : now.place.calls ≡ calls (based (base_held first)) entries
  pub few : length entries < 2 ^ 32
  pub summing : is_some f.summing ≡ is_summed telling

-- the entries on a base have this judgement, and the first of them were kept
pub record IsJudged (telling : Telling) (h : List Entry) (j : Judged) : Type 0 where
  pub range : IsInRange j.base.header
  pub good : IsGood j.base
  pub judged : IsJudgement (based j.base) h j.judgement
  pub count : j.count ≡ length h
  pub calls : j.calls ≡ calls (based j.base) h
  pub most : ℕ
  pub front : j.entries.items ≡ take most (reverse h)
  pub seated : All (λ e. e.seat < j.base.header.seats) j.entries.items
  pub few : length h < 2 ^ 32
  pub within : length h ≤ j.base.header.cap
  pub sums : IfSome j.summing IsSumming
  pub summing : is_some j.summing ≡ is_summed telling

pub record IsJudgedFor (telling : Telling) (j : Judged) : Type 0 where
  pub history : List Entry
  pub judged : IsJudged telling history j

-- whatever is told
pub record IsSound (j : Judged) : Type 0 where
  pub telling : Telling
  pub history : List Entry
  pub judged : IsJudged telling history j

-- the entry after these on a base, if there is one, can be explained
pub record CanExplain (b : Base) (before : List Entry) (next : Option Entry) : Type 0 where
  pub range : IsInRange b.header
  pub can : CanFold b (reverse before)
  pub few : length before ≤ b.header.cap
  pub seat : IfSome next (λ e. e.seat < b.header.seats)

-- the text is a history text whose entries were judged
pub record IsJudgedOf (telling : Telling) (left : Option (List ℕ)) (j : Judged) : Type 0 where
  pub history : List Entry
  pub judged : IsJudged telling history j
  pub is : IfSome left (λ text. IsHistoryText text j.base (reverse history))
