-- What tables of the holds of a base say, and their sum.
use Rattle.std.proofs.Common.{◌≡◌, ⊎_elim, ℕ, ◌≤◌, List, length, map, get_or, refl, ap, ◌∙◌, sym, arith}
use Rattle.std.proofs.lemmas.Bool.{cases_lt}
use Rattle.std.proofs.lemmas.List.{get_or_past, length-map}
use Rattle.std.proofs.Math.ListN.{get_or-map}
use Rattle.deciding.specs.Below.{SeatBase, Mode, X, S, Base, holds_of, nothing, seat_of, total, IsGood, most_permits}
use Rattle.history.proofs.SmallBases.{few_shared}
use Rattle.history.proofs.Sums.{total_same}

nothing_of : (m : Mode) → holds_of nothing m ≡ 0
nothing_of X = refl
nothing_of S = refl

-- a table of what each seat holds in a mode
pub tabled : (b : Base) (m : Mode) (table : List ℕ) (seats : List SeatBase) → seats ≡ b.seats →
    table ≡ map (λ has. holds_of has m) seats → (i : ℕ) → get_or table i 0 ≡ holds_of (seat_of b i) m
tabled b m table seats same is i =
    ap (λ (t : List ℕ). get_or t i 0) (is ∙ ap (map (λ (has : SeatBase). holds_of has m)) same)
    ∙ ap (get_or (map (λ (has : SeatBase). holds_of has m) b.seats) i) (sym (nothing_of m))
    ∙ get_or-map (λ (has : SeatBase). holds_of has m) b.seats i nothing

pub table_length : (b : Base) (m : Mode) (table : List ℕ) (seats : List SeatBase) → seats ≡ b.seats →
    IsGood b → table ≡ map (λ has. holds_of has m) seats → length table ≡ b.header.seats
table_length b m table seats same good is =
    ap length is ∙ length-map seats (λ (has : SeatBase). holds_of has m) ∙ ap length same ∙ good.seats

-- nobody holds more than there may be
pub shared_few : (b : Base) → IsGood b → (i : ℕ) → (seat_of b i).shared ≤ most_permits
shared_few b good i =
    ⊎_elim (few_shared b b.header.object refl good.held i)
    (λ above.
    let n = good.seats in
    let none = ap (λ (x : SeatBase). x.shared) (get_or_past b.seats i nothing (omega (arith, n, above))) in
    omega (arith, none))
    (cases_lt i b.header.seats)

pub readers_are : (b : Base) (n : ℕ) (table : List ℕ) → length table ≡ b.header.seats →
    ((i : ℕ) → get_or table i 0 ≡ (seat_of b i).shared) → n ≡ total (length table) (λ i. get_or table i 0) →
    n ≡ total b.header.seats (λ i. (seat_of b i).shared)
readers_are b n table long each is =
    is ∙ ap (λ k. total k (λ i. get_or table i 0)) long
    ∙ total_same b.header.seats (λ i. get_or table i 0) (λ i. (seat_of b i).shared) each
