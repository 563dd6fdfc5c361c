-- The audit text: the verdict on a history, and what a legal one adds up to.
use Rattle.std.specs.Prelude.{ℕ, ◌+◌, nat_lt, if◌then◌else◌, List, [], ◌++◌, codes, decimal, length}
use Rattle.std.specs.Fmt.{signed_decimal}
use Rattle.driver.specs.Below.{Totals, Verdict, Legal, NotLegal, totals_of, Entry, Object, Lock, ReadWrite, Semaphore, Latch, Base, based, calls, ended}

abbrev pub holds_line : Totals → List ℕ
holds_line t =
    codes "holds x " ++ signed_decimal t.x ++ codes " s " ++ signed_decimal t.s
    ++ codes " line " ++ signed_decimal t.line ++ codes " sleepers " ++ signed_decimal t.sleepers

abbrev pub permits_line : Totals → List ℕ
permits_line t =
    codes "held " ++ signed_decimal t.held ++ codes " free " ++ signed_decimal t.free
    ++ codes " created " ++ signed_decimal t.created ++ codes " unheld " ++ signed_decimal t.unheld
    ++ codes " line " ++ signed_decimal t.line

abbrev pub count_line : Totals → List ℕ
count_line t = codes "count " ++ signed_decimal t.count ++ codes " line " ++ signed_decimal t.line

-- the numbers of the object's kind
abbrev pub totals_line : Object → Totals → List ℕ
totals_line (Lock policy) t = holds_line t
totals_line (ReadWrite policy) t = holds_line t
totals_line (Semaphore policy permits) t = permits_line t
totals_line (Latch opening) t = count_line t

-- a name and a number
abbrev pub number_line : List ℕ → ℕ → List ℕ
number_line name number = name ++ decimal number

-- how many entries were folded, if any were
abbrev pub base_line : ℕ → List ℕ
base_line folded = if nat_lt 0 folded then ended (number_line (codes "base ") folded) else []

-- for a legal history: how many entries were folded, how many there are, how many end a call, and its totals
abbrev pub legal_text : Object → ℕ → ℕ → ℕ → Totals → List ℕ
legal_text object folded entries calls totals =
    ended (codes "legal")
    ++ base_line folded
    ++ ended (number_line (codes "entries ") entries)
    ++ ended (number_line (codes "calls ") calls)
    ++ ended (totals_line object totals)

-- The audit text of a history on a base, with its entries newest first. The number of an entry counts the
-- folded ones too.
abbrev pub audit_text : Base → List Entry → Verdict → List ℕ
audit_text b entries Legal =
    legal_text b.header.object b.entries (b.entries + length entries) (calls (based b) entries)
    (totals_of (based b) entries)
audit_text b entries (NotLegal number) = ended (number_line (codes "not legal at ") (b.entries + number))

-- how many entries are before the first illegal one, if there is one
abbrev pub before_wrong : Verdict → ℕ
before_wrong Legal = 0
before_wrong (NotLegal number) = number
