-- A text under way goes on, or ends.
use Rattle.std.proofs.Common.{false, ◌≡◌, ℕ, ◌+◌, ◌-◌, ◌<◌, List, [], ◌∷◌, ◌++◌, length, length-append, append-nil, drop, take, ap, refl, ◌∙◌, arith, inr, eqb}
use Rattle.std.proofs.lemmas.Bool.{eqb-false}
use Rattle.std.proofs.lemmas.List.{nil_from_length, take_rest}
use Rattle.std.proofs.Math.Seq.{drop-append_seam}
use Rattle.history.specs.Text.{ended}
use Rattle.streams.specs.declared.fault.TextFault.TheVariants.{BadLine}
use Rattle.streams.specs.Form.{Form}
use Rattle.streams.specs.UnderWay.{SoFar, AreRead, IsAhead, AllRead, HasFault}
use Rattle.streams.proofs.Growing.{one_more, at_end, broken}

-- ---- the bytes that are left

-- the last bytes, by their number
pub last_bytes : (text front rest : List ℕ) (left : ℕ) → text ≡ front ++ rest → length rest ≡ left →
    drop (length text - left) text ≡ rest
last_bytes text front rest left parts long =
    let start : length text - left ≡ length front =
    omega (arith, long, ap length parts, length-append front rest) in
    ap (λ (i : ℕ). drop i text) start ∙ ap (drop (length front)) parts ∙ drop-append_seam front rest

pub left_over : (text front rest : List ℕ) (left : ℕ) → text ≡ front ++ rest → length rest ≡ left →
    take (length text - (length text - left)) (drop (length text - left) text) ≡ rest
left_over text front rest left parts long = rw take_rest (last_bytes text front rest left parts long)

-- what follows a line is shorter
pub shorter : (text line rest : List ℕ) (left : ℕ) → text ≡ ended line ++ rest → length rest ≡ left →
    left < length text
shorter text line rest left parts long =
    omega (arith, long, ap length parts, length-append (line ++ 10 ∷ []) rest, length-append line (10 ∷ []))

-- ---- one more item

-- one more item is counted, and this is known of all
abbrev pub one_further : {H I : Type 0} → SoFar H I → (List I → Type 0) → SoFar H I
one_further so_far known = record { header = so_far.header; count = so_far.count + 1; known = known }

pub read_on : {H I : Type 0} (form : Form H I) (text : List ℕ) (so_far : SoFar H I)
    (known : List I → Type 0) (items : List I) (rest : List ℕ) (x : I) (after : List ℕ)
    → IsAhead form so_far rest x after → known (items ++ x ∷ []) → AreRead form text so_far items rest →
    AreRead form text (one_further so_far known) (items ++ x ∷ []) after
read_on form text so_far known items rest x after ahead more read =
    let line = form.item_line x in
    record {
      begins = one_more form text so_far.header items rest line after x read.begins (ahead.parts
          ∙ broken line after) (ahead.fits items read.count read.known) refl;
      count = omega (arith, read.count, length-append items (x ∷ []));
      known = more;
    }

-- ---- no more items

-- behind whatever items were read, this is the end line
abbrev pub IsEnd : {H I : Type 0} → Form H I → SoFar H I → List ℕ → List ℕ → Type 0
IsEnd {H} {I} form so_far rest line =
    (text : List ℕ) (items : List I) → AreRead form text so_far items rest → form.MayEnd so_far.header items
    × (line ≡ form.end_line items)

pub all_read : {H I : Type 0} (form : Form H I) (text : List ℕ)
    (so_far : SoFar H I) (rest line after : List ℕ) → rest ≡ line ++ 10 ∷ after →
    IsEnd form so_far rest line → length after ≡ 0
    → AllRead form text so_far rest
all_read form text so_far rest line after parts end none items read =
    let is = end text items read in
    let last : ended (form.end_line items) ++ after ≡ ended (form.end_line items) =
    ap (λ (t : List ℕ). ended (form.end_line items) ++ t) (nil_from_length after none)
    ∙ append-nil (ended (form.end_line items)) in
    record {
      begins = rw last at (at_end form text so_far.header items rest line after read.begins parts
          is.1);
      ends = is.0;
    }

pub more_behind : {H I : Type 0} (form : Form H I) (text : List ℕ)
    (so_far : SoFar H I) (rest line after : List ℕ) → rest ≡ line ++ 10 ∷ after →
    IsEnd form so_far rest line → eqb (length after) 0 ≡ false
    → HasFault form text so_far rest (BadLine (so_far.count + 3))
more_behind form text so_far rest line after parts end some items read =
    let is = end text items read in
    inr (
      so_far.header,
      items,
      after,
      at_end form text so_far.header items rest line after read.begins parts
          is.1,
      is.0,
      (λ e. eqb-false _ _ some (ap length e)),
      omega (arith, read.count),
    )
