-- What stands in a window behind a read, and when it moves on.
use Rattle.std.proofs.Common.{◌≡◌, ℕ, ◌+◌, ◌-◌, ◌≤◌, min, List, ◌++◌, length, take, drop, slice_range, arith, append_assoc, take-take, drop-drop, length-take, length-take-le, length-drop, take_all}
use Rattle.std.proofs.Math.Seq.{take-append-add}
use Rattle.std.proofs.lemmas.List.{take-append-le, drop-append-le, drop-take}

ranged : (xs : List ℕ) (at end : ℕ) → at ≤ end → slice_range xs at end ≡ drop at (take end xs)
ranged xs at end ordered = grind (arith, drop-take at (end - at) xs)

pub grown : (xs read post rest : List ℕ) (at end n most : ℕ) → at ≤ end → end ≤ length xs →
    n ≤ length read → end + n ≤ most
    → slice_range (take most ((take end xs ++ (read ++ post)) ++ rest)) at (end + n) ≡ slice_range xs at end
    ++ take n read
grown xs read post rest at end n most ordered within fits room =
    let front = take end xs in
    let behind = (read ++ post) ++ rest in
    grind (
      arith,
      ranged xs at end ordered,
      ranged (take most ((front ++ (read ++ post)) ++ rest)) at (end + n),
      take-take (end + n) most ((front ++ (read ++ post)) ++ rest),
      append_assoc front (read ++ post) rest,
      append_assoc read post rest,
      take-append-add front behind n,
      take-append-le n read (post ++ rest),
      drop-append-le at front (take n read),
      length-take-le end xs,
    )

-- so many bytes are kept
pub kept_last : (xs : List ℕ) (at end left : ℕ) → at ≤ end → end ≤ length xs →
    left ≤ length (slice_range xs at end)
    → slice_range xs (end - left) end ≡ drop (length (slice_range xs at end) - left) (slice_range xs at end)
kept_last xs at end left ordered within few =
    let gone = end - at - left in
    grind (
      arith,
      length-take-le (end - at) (drop at xs),
      length-drop at xs,
      drop-take gone (end - (end - left)) (drop at xs),
      drop-drop gone at xs,
    )

-- so many bytes at the front are kept
pub kept_front : (xs : List ℕ) (at end most kept : ℕ) → kept ≡ min (end - at) most →
    slice_range xs at (at + kept) ≡ take most (slice_range xs at end)
kept_front xs at end most kept is =
    grind (
      arith,
      take_all most (take (end - at) (drop at xs)),
      length-take (end - at) (drop at xs),
      take-take most (end - at) (drop at xs),
    )
