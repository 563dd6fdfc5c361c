-- Many pairs of an acquire and a give: as many entries as two for each, around 1,024.
use Rattle.std.specs.Prelude.{◌≡◌, ℕ, zero, suc, List, [], ◌∷◌, length, refl}
use Rattle.laws.specs.Below.{Header, NonFair, Step, results, calls, opening}
use Rattle.laws.proofs.Replies.{acquire, give, lock}

abbrev pub pairs : ℕ → List (ℕ × Step)
pairs zero = []
pairs (suc n) = (0, acquire) ∷ (0, give) ∷ pairs n

abbrev one_seat : Header
one_seat = lock NonFair 1 0 4096

abbrev entries_of : ℕ → ℕ
entries_of n = length (results (opening one_seat) [] (pairs n)).1

abbrev calls_of : ℕ → ℕ
calls_of n = calls (opening one_seat) (results (opening one_seat) [] (pairs n)).1

pairs_511 : entries_of 511 ≡ 1022
pairs_511 = refl

pairs_511_calls : calls_of 511 ≡ 1022
pairs_511_calls = refl

pairs_512 : entries_of 512 ≡ 1024
pairs_512 = refl

pairs_512_calls : calls_of 512 ≡ 1024
pairs_512_calls = refl

pairs_513 : entries_of 513 ≡ 1026
pairs_513 = refl

pairs_513_calls : calls_of 513 ≡ 1026
pairs_513_calls = refl
