-- What is said of the front of a text stays, whatever follows.
use Rattle.std.proofs.Common.{◌≡◌, ◌≢◌, ℕ, ◌+◌, List, [], ◌∷◌, ◌++◌, length, Err, refl, ap, ◌∙◌, append_assoc, inl, inr}
use Rattle.history.specs.Text.{ended}
use Rattle.streams.specs.declared.fault.TextFault.{TextFault}
use Rattle.streams.specs.declared.fault.TextFault.TheVariants.{BadHeader, BadLine, CutShort}
use Rattle.streams.specs.Form.{Form, lines_of}
use Rattle.streams.specs.Reading.{Begins, IsText, HasBadHeader, HasBadLine, IsReading}

pub begins_more : {H I : Type 0} (form : Form H I) (text : List ℕ) (h : H)
    (xs : List I) (rest more : List ℕ) → Begins form text h xs rest →
    Begins form (text ++ more) h xs (rest ++ more)
begins_more form text h xs rest more begun =
    record { header = begun.header; each = begun.each; parts = simp (begun.parts, append_assoc) }

-- a text without what follows some of it
pub without : {H I : Type 0} → Form H I → H → List I → List ℕ → List ℕ
without form h xs rest = ended (form.header_line h) ++ (lines_of form xs ++ rest)

pub begins_without : {H I : Type 0} (form : Form H I) (text : List ℕ) (h : H)
    (xs : List I) (rest more : List ℕ) → Begins form text h xs more →
    Begins form (without form h xs rest) h xs rest
unfolding without
begins_without form text h xs rest more begun =
    record { header = begun.header; each = begun.each; parts = refl }

pub with_rest : {H I : Type 0} (form : Form H I) (text : List ℕ) (h : H)
    (xs : List I) (rest more : List ℕ) → Begins form text h xs (rest ++ more) →
    text ≡ without form h xs rest ++ more
unfolding without
with_rest form text h xs rest more begun =
    begun.parts ∙ simp append_assoc

header_stays : {H I : Type 0} (form : Form H I) (text more : List ℕ) → HasBadHeader form text →
    HasBadHeader form (text ++ more)
header_stays form text more (line, rest, parts, whole, none) = (
  line,
  rest ++ more,
  ap (λ (t : List ℕ). t ++ more) parts ∙ append_assoc line (10 ∷ rest)
      more,
  whole,
  none,
)

line_stays : {H I : Type 0} (form : Form H I) (text more : List ℕ) (number : ℕ) →
    HasBadLine form text number → HasBadLine form (text ++ more) number
line_stays form text more number (inl (h, xs, line, rest, begun, bad, is)) =
    let behind = append_assoc line (10 ∷ rest) more in
    inl (
      h,
      xs,
      line,
      rest ++ more,
      rw (← behind) (begins_more form text h xs (line ++ 10 ∷ rest) more begun),
      bad,
      is,
    )
line_stays form text more number (inr (h, xs, rest, begun, few, some, is)) =
    let behind = append_assoc (ended (form.end_line xs)) rest more in
    inr (
      h,
      xs,
      rest ++ more,
      rw (← behind) (begins_more form text h xs (ended (form.end_line xs) ++ rest) more begun),
      few,
      some_more rest more some,
      is,
    )
  where
    some_more : (rest more : List ℕ) → rest ≢ [] → (rest ++ more) ≢ []
    some_more [] more some = absurd (some refl)
    some_more (b ∷ rest) more some = λ e. cc

-- a fault of whole lines
pub fault_stays : {H I : Type 0} (form : Form H I) (text more : List ℕ) (fault : TextFault) →
    fault ≢ CutShort → IsReading form text (Err fault) → IsReading form (text ++ more) (Err fault)
fault_stays form text more BadHeader whole is = header_stays form text more is
fault_stays form text more (BadLine number) whole is = line_stays form text more number is
fault_stays form text more CutShort whole is = absurd (whole refl)

-- bytes follow a whole text
pub text_goes_on : {H I : Type 0} (form : Form H I) (text : List ℕ) (h : H) (xs : List I) (more : List ℕ) →
    IsText form text h xs → more ≢ [] → HasBadLine form (text ++ more) (length xs + 3)
text_goes_on form text h xs more is some =
    inr (
      h,
      xs,
      more,
      begins_more form text h xs (ended (form.end_line xs)) more is.begins,
      is.ends,
      some,
      refl,
    )
