-- The rule of the lock, which holds between any two steps, and what the token that makes a step learns from
-- it.
use Rattle.std.specs.Prelude.{◌≡◌, ◌≢◌, ◌⊎◌, ℕ, zero, suc, true, false, List, [], ◌∷◌, ◌++◌, map, length, take, drop, Some}
use Rattle.std.specs.declared.option.Option.{Option as Maybe}
use mathlib.Core.Option.{none, some}
use lib.ListN.{get_elem?}
use Rattle.atomic_table.specs.Table.{State, Me, Step}
use Rattle.history.specs.declared.entry.Entry.{Entry}
use Rattle.history.specs.declared.point.Point.{Point}
use Rattle.word_lock.specs.declared.view.SeatLog.{SeatLog}
use Rattle.word_lock.specs.declared.view.View.{View}
use Rattle.word_lock.specs.Point.{header_of, Before, Agrees, added, blank_point}

-- empty logs of the n seats from k on
abbrev pub empty_logs : ℕ → ℕ → List SeatLog
empty_logs k zero = []
empty_logs k (suc n) = record { seat = k; entries = [] } ∷ empty_logs (suc k) n

-- the view from which the tokens of the n seats from k on are split, one by one; for n = 1 it is a token's
-- first view
abbrev pub dealing_view : ℕ → ℕ → Point → View
dealing_view k n p =
    record { logs = empty_logs k n; split_at = 1; seen = p; joined = []; holds = false; live = true }

-- the view that the table begins with
abbrev pub first_view : Point → ℕ → View
first_view p n = dealing_view 0 n p

-- the view after an exchange that succeeds
abbrev pub view_after_take : View → Point → View
view_after_take v p =
    record { logs = v.logs; split_at = v.split_at; seen = p; joined = v.joined; holds = true; live = v.live }

abbrev pub with_added : List Entry → SeatLog → SeatLog
with_added es l = record { seat = l.seat; entries = es ++ l.entries }

-- the view after the store
abbrev pub view_after_give : View → Point → View
view_after_give v p =
    record {
      logs = map (with_added (added v.seen p)) v.logs;
      split_at = v.split_at;
      seen = p;
      joined = v.joined;
      holds = false;
      live = v.live;
    }

-- the view after a look
abbrev pub view_after_look : View → Point → View
view_after_look v p =
    record { logs = v.logs; split_at = v.split_at; seen = p; joined = []; holds = v.holds; live = v.live }

-- the view that is left after a split
abbrev pub rest_of_view : View → View
rest_of_view v =
    record {
      logs = drop v.split_at v.logs;
      split_at = v.split_at;
      seen = v.seen;
      joined = v.joined;
      holds = v.holds;
      live = v.live;
    }

-- the view of the new token
abbrev pub front_of_view : View → View
front_of_view v =
    record {
      logs = take v.split_at v.logs;
      split_at = v.split_at;
      seen = v.seen;
      joined = v.joined;
      holds = false;
      live = v.live;
    }

-- the joined view; joining the two views of a split gives the first one again
abbrev pub joined_view : View → View → View
joined_view v w =
    record {
      logs = v.logs ++ w.logs;
      split_at = length v.logs;
      seen = v.seen;
      joined = v.joined ++ w.seen ∷ w.joined;
      holds = v.holds;
      live = v.live;
    }

-- the view that is left of a token that was joined to another
abbrev pub spent_view : View
spent_view = record { logs = []; split_at = 0; seen = blank_point; joined = []; holds = false; live = false }

-- each log has its seat's entries in this point
abbrev pub AllAgree : Point → List SeatLog → Type 0
AllAgree p logs = (k : ℕ) (l : SeatLog) → get_elem? logs k ≡ some l → Agrees p l.seat l.entries

-- no seat has two logs
abbrev pub AreDistinct : List SeatLog → Type 0
AreDistinct logs = (j k : ℕ) (l m : SeatLog) → get_elem? logs j ≡ some l → get_elem? logs k ≡ some m →
    l.seat ≡ m.seat → j ≡ k

-- each of these points comes before p
abbrev pub AllBefore : List Point → Point → Type 0
AllBefore ps p = (k : ℕ) (q : Point) → get_elem? ps k ≡ some q → Before q p

-- what the rule says of the view `id`, if the value shows `now`; for each seat `place` has the view that its
-- log is in, and the log's index there
pub record IsKnownBy (place : ℕ → ℕ × ℕ) (now : Point) (id : ℕ) (v : View) : Type 0 where
  pub seen : v.live ≡ true → Before v.seen now
  pub joined : v.live ≡ true → AllBefore v.joined now
  pub placed : (k : ℕ) (l : SeatLog) → get_elem? v.logs k ≡ some l → place l.seat ≡ (id, k)
  pub agrees : AllAgree now v.logs

abbrev pub NoneHolds : List View → Type 0
NoneHolds views = (j : ℕ) (v : View) → get_elem? views j ≡ some v → v.holds ≡ false

-- exactly one view holds, and it has seen what it took
pub record OneHolds (views : List View) (now : Point) : Type 0 where
  pub id : ℕ
  pub view : View
  pub is : get_elem? views id ≡ some view
  pub holds : view.holds ≡ true
  pub took : view.seen ≡ now
  pub alone : (j : ℕ) (v : View) → get_elem? views j ≡ some v → v.holds ≡ true → j ≡ id

-- the word is 0: the value is at home, and its fact holds
pub record IsFree {T : Type 0} (point : T → Point) (fact : T → Type 0) (now : Point)
    (s : State (Maybe T) View) : Type 0 where
  pub word : s.words ≡ 0 ∷ []
  pub value : T
  pub home : s.homes ≡ some (Some value) ∷ []
  pub meets : fact value
  pub shows : point value ≡ now
  pub free : NoneHolds s.views

-- the word is 1: one view has taken the value
pub record IsTaken {T : Type 0} (now : Point) (s : State (Maybe T) View) : Type 0 where
  pub word : s.words ≡ 1 ∷ []
  pub home : s.homes ≡ none ∷ []
  pub held : OneHolds s.views now

-- the rule of a lock that was opened at `start`; `now` is what the value in the slot shows, or showed when it
-- was taken
pub record RuleHolds {T : Type 0} (point : T → Point) (fact : T → Type 0) (sound : Point → Type 0)
    (start : Point) (s : State (Maybe T) View) : Type 0 where
  pub now : Point
  pub place : ℕ → ℕ × ℕ
  pub begun : Before start now
  pub is_sound : sound now
  pub known : (id : ℕ) (v : View) → get_elem? s.views id ≡ some v → IsKnownBy place now id v
  pub word : IsFree point fact now s ⊎ IsTaken now s

-- what a token that had the view v knows of the value x that it has taken
pub record IsFound {T : Type 0} (point : T → Point) (fact : T → Type 0) (v : View) (x : T) : Type 0 where
  pub meets : fact x
  pub header : header_of (point x) ≡ header_of v.seen
  pub seen : Before v.seen (point x)
  pub agrees : AllAgree (point x) v.logs
  pub distinct : AreDistinct v.logs

-- the exchange found 0 and this seat has taken the value, or it found another number and nothing changed
abbrev pub TellsTake : {T : Type 0} → (T → Point) → (T → Type 0) → Step (Maybe T) → Me (Maybe T) View → ℕ →
    Me (Maybe T) View → Type 0
TellsTake {T} point fact st m found m' =
    (found ≡ 0 → (x : T) × (m' ≡ (view_after_take m.0 (point x), (0, Some x) ∷ m.1)) ×
    IsFound point fact m.0 x)
    × (found ≢ 0 → m' ≡ m)

-- the value that this seat had taken is in the slot again
abbrev pub TellsGive : {T : Type 0} → (T → Point) → Step (Maybe T) → Me (Maybe T) View → ℕ →
    Me (Maybe T) View → Type 0
TellsGive {T} point st m found m' =
    (x : T) → m.1 ≡ (0, Some x) ∷ [] → m' ≡ (view_after_give m.0 (point x), [])

-- p is what the value in the slot shows, or showed when it was taken
pub record IsLookedAt (sound : Point → Type 0) (v : View) (p : Point) : Type 0 where
  pub is_sound : sound p
  pub seen : Before v.seen p
  pub joined : AllBefore v.joined p
  pub agrees : AllAgree p v.logs

abbrev pub TellsLook : {T : Type 0} → (Point → Type 0) → Step (Maybe T) → Me (Maybe T) View → ℕ →
    Me (Maybe T) View → Type 0
TellsLook {T} sound st m found m' = (p : Point) × (m' ≡ (view_after_look m.0 p, m.1)) × IsLookedAt sound m.0 p
