-- The bars of a history in the order in which they are drawn: by their last entries, then by seats and kinds.
use Rattle.std.specs.Prelude.{ℕ, ◌+◌, ◌-◌, ◌==◌, nat_lt, if◌then◌else◌, List, [], ◌∷◌, ◌++◌, length}
use Rattle.std.specs.List.{flat_map}
use Rattle.drawing.specs.Below.{Entry, Start}
use Rattle.drawing.specs.declared.bar.Bar.{Bar}
use Rattle.drawing.specs.Levels.{Track, level_of, tracks}

-- For how many entries a track has kept its level, counted back from the newest entry, but not before entry
-- `from`.
abbrev pub lasting : Start → ℕ → List Entry → Track → ℕ → ℕ
lasting s from [] t n = 0
lasting s from (e ∷ h) t n =
    if nat_lt (length h) from then 0
    else if level_of s (e ∷ h) t == n then lasting s from h t n + 1
    else 0

-- the bar of a track that the newest entry belongs to, if the track has a level
abbrev pub bar_at : Start → ℕ → List Entry → Track → List Bar
bar_at s from h t =
    if level_of s h t == 0 then []
    else if nat_lt from (length h) then
    record {
      seat = t.seat;
      kind = t.kind;
      first = length h - lasting s from h t (level_of s h t);
      last = length h - 1;
      holds = level_of s h t;
    } ∷ []
    else []

-- the same bar, if one more entry changes the level and so ends it
abbrev pub ended_by : Start → ℕ → Entry → List Entry → Track → List Bar
ended_by s from e h t = if level_of s (e ∷ h) t == level_of s h t then [] else bar_at s from h t

-- the bars that have ended
abbrev pub ended : Start → ℕ → List Entry → List Bar
ended s from [] = []
ended s from (e ∷ h) = ended s from h ++ flat_map (ended_by s from e h) (tracks s.header)

-- all bars; the last ones reach the newest entry
abbrev pub bars : Start → ℕ → List Entry → List Bar
bars s from h = ended s from h ++ flat_map (bar_at s from h) (tracks s.header)
