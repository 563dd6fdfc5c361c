-- Which entries of a history are drawn.
use Rattle.std.specs.Prelude.{ℕ, ◌+◌, ◌-◌, ◌^◌, Bool, false, min, nat_lt, Option, Some, None}
use Rattle.driver.specs.declared.choice.Choice.{Choice}
use Rattle.driver.specs.declared.limits.TheConstants.{UNCHOSEN, UNSUMMED}

abbrev pub or_zero : Option ℕ → ℕ
or_zero None = 0
or_zero (Some number) = number

-- how many unfolded entries are before the first one to draw
abbrev pub first_of : Choice → ℕ → ℕ
first_of c folded = or_zero c.from - folded

-- how many are before the end of those to draw; if none are chosen, the first UNCHOSEN are drawn
abbrev pub end_between : Option ℕ → Option ℕ → ℕ → ℕ
end_between from (Some number) folded = min (number + 1) (2 ^ 64 - 1) - folded
end_between (Some number) None folded = 2 ^ 64 - 1
end_between None None folded = UNCHOSEN

abbrev pub end_chosen : Choice → ℕ → ℕ
end_chosen c folded = end_between c.from c.to folded

-- some are left out although none were chosen
abbrev pub is_cut_between : Option ℕ → Option ℕ → ℕ → Bool
is_cut_between (Some from) to entries = false
is_cut_between None (Some to) entries = false
is_cut_between None None entries = nat_lt UNCHOSEN entries

abbrev pub is_cut : Choice → ℕ → Bool
is_cut c entries = is_cut_between c.from c.to entries

-- how many are kept until all are read: all if none are chosen
abbrev pub kept_between : Option ℕ → Option ℕ → ℕ → ℕ
kept_between (Some from) to folded = end_between (Some from) to folded
kept_between None (Some to) folded = end_between None (Some to) folded
kept_between None None folded = 2 ^ 64 - 1

abbrev pub kept_of : Choice → ℕ → ℕ
kept_of c folded = kept_between c.from c.to folded

-- the history is summed up if none are chosen and there are more than UNSUMMED
abbrev pub is_summed_between : Option ℕ → Option ℕ → ℕ → Bool
is_summed_between (Some from) to entries = false
is_summed_between None (Some to) entries = false
is_summed_between None None entries = nat_lt UNSUMMED entries

abbrev pub is_summed : Choice → ℕ → Bool
is_summed c entries = is_summed_between c.from c.to entries
