-- The lines of a steps text can be told apart.
use Rattle.std.proofs.Common.{◌≡◌, ℕ, ◌<◌, ◌^◌, true, List, [], ◌∷◌, ◌++◌, length, refl, sym, ap, ◌∙◌, arith, decimal, codes}
use Rattle.steps.specs.Below.{Header, Step, IsInRange, part_of, words_of, Act, Do, Trim}
use Rattle.history.proofs.Numbers.{digits_alone}
use Rattle.history.proofs.Plain.{ArePlain, words_again, decimal_plain}
use Rattle.history.proofs.Readers.{same_value}
use Rattle.streams.proofs.Lawful.{IsLawful, Lacks}
use Rattle.streams.proofs.Lists.{head_is, same_behind}
use Rattle.streams.proofs.WholeLines.{has_no_break, line_lacks, header_whole, header_one}
use Rattle.steps.specs.declared.header.Format.{Format}
use Rattle.steps.specs.declared.header.Format.TheVariants.{One, Two}
use Rattle.steps.specs.declared.header.StepsHeader.{StepsHeader}
use Rattle.steps.specs.StepLines.{
  step_words,
  step_line,
  act_line,
  end_line,
  header_line,
  name_of,
  IsAct,
  IsStep,
}
use Rattle.steps.specs.StepReading.{line_at}
use Rattle.steps.specs.StepsText.{steps_form}
use Rattle.steps.proofs.StepLemmas.{line_plain, whole_line}

end_words : (k : ℕ) → k < 2 ^ 32 → ArePlain (codes "end" ∷ decimal k ∷ [])
end_words k lt = (refl, (decimal_plain k (omega arith), tt))

same_step : (seats : ℕ) (s r : ℕ × Step) → seats < 2 ^ 32 → IsStep seats s → IsStep seats r →
    step_line s ≡ step_line r → s ≡ r
same_step seats s r small p q e =
    same_value (line_at seats) (step_line s) (step_line r) s r (whole_line seats s small p)
    (whole_line seats r small q) e

step_no_end : (seats : ℕ) (s : ℕ × Step) (k : ℕ) → seats < 2 ^ 32 → IsStep seats s → k < 2 ^ 32 →
    step_line s ≡ end_line k → ⊥
step_no_end seats s k small fits lt e =
    let words = sym (words_again (decimal s.0) (step_words s.1) (line_plain seats s small fits))
    ∙ ap words_of e ∙ words_again (codes "end") (decimal k ∷ []) (end_words k lt) in
    let seat : codes "end" ≡ decimal s.0 = sym (head_is words) in
    omega (arith, digits_alone (codes "end") s.0 0 (omega (arith, fits.0)) (omega arith) seat)

trim_words : ArePlain (codes "trim" ∷ [])
trim_words = (refl, tt)

step_no_trim : (seats : ℕ) (s : ℕ × Step) → seats < 2 ^ 32 → IsStep seats s → step_line s ≡ codes "trim" → ⊥
step_no_trim seats s small fits e =
    let words = sym (words_again (decimal s.0) (step_words s.1) (line_plain seats s small fits))
    ∙ ap words_of e ∙ words_again (codes "trim") [] trim_words in
    let seat : codes "trim" ≡ decimal s.0 = sym (head_is words) in
    omega (arith, digits_alone (codes "trim") s.0 0 (omega (arith, fits.0)) (omega arith) seat)

act_whole : (h : StepsHeader) (a : Act) → IsInRange h.header → IsAct h a → Lacks (act_line a)
act_whole h (Do i step) header fits =
    line_lacks (decimal i ∷ step_words step) (line_plain h.header.seats (i, step)
    (omega (arith, header.seats)) fits)
act_whole h Trim header fits = line_lacks (codes "trim" ∷ []) trim_words

same_act : (h : StepsHeader) (a b : Act) → IsInRange h.header → IsAct h a → IsAct h b →
    act_line a ≡ act_line b → a ≡ b
same_act h (Do i step) (Do j other) header p q e =
    ap (λ (s : ℕ × Step). Do s.0 s.1)
    (same_step h.header.seats (i, step) (j, other) (omega (arith, header.seats)) p q e)
same_act h (Do i step) Trim header p q e =
    absurd (step_no_trim h.header.seats (i, step) (omega (arith, header.seats)) p e)
same_act h Trim (Do i step) header p q e =
    absurd (step_no_trim h.header.seats (i, step) (omega (arith, header.seats)) q (sym e))
same_act h Trim Trim header p q e = refl

trim_no_end : (k : ℕ) → k < 2 ^ 32 → codes "trim" ≡ end_line k → ⊥
trim_no_end k lt e =
    let letter : 116 ≡ 101 = head_is e in
    omega (arith, letter)

act_no_end : (h : StepsHeader) (a : Act) (k : ℕ) → IsInRange h.header → IsAct h a → k < 2 ^ 32 →
    act_line a ≡ end_line k → ⊥
act_no_end h (Do i step) k header fits lt e =
    step_no_end h.header.seats (i, step) k (omega (arith, header.seats)) fits lt e
act_no_end h Trim k header fits lt e = trim_no_end k lt e

-- ---- the first line

pub name_whole : (f : Format) → has_no_break (name_of f) ≡ true
name_whole One = refl
name_whole Two = refl

first_whole : (h : StepsHeader) → IsInRange h.header → Lacks (header_line h)
first_whole h fits = header_whole (name_of h.format) h.header (name_whole h.format) fits

-- the formats have other names
other_names : (a b : List ℕ) → codes "aqs-steps 1 " ++ a ≡ codes "aqs-steps 2 " ++ b → ⊥
other_names a b e =
    let digit : 49 ≡ 50 =
    head_is (same_behind (codes "aqs-steps ") (49 ∷ 32 ∷ a) (50 ∷ 32 ∷ b) e) in
    omega (arith, digit)

first_one_by : (f g : Format) (h k : Header) → IsInRange h → IsInRange k →
    name_of f ++ part_of h ≡ name_of g ++ part_of k → (f ≡ g) × (h ≡ k)
first_one_by One One h k p q e = (refl, header_one (codes "aqs-steps 1 ") h k p q e)
first_one_by Two Two h k p q e = (refl, header_one (codes "aqs-steps 2 ") h k p q e)
first_one_by One Two h k p q e = absurd (other_names (part_of h) (part_of k) e)
first_one_by Two One h k p q e = absurd (other_names (part_of k) (part_of h) (sym e))

first_one : (h k : StepsHeader) → IsInRange h.header → IsInRange k.header → header_line h ≡ header_line k →
    h ≡ k
first_one h k p q e =
    let same = first_one_by h.format k.format h.header k.header p q e in
    ap (λ (f : Format). record { format = f; header = h.header }) same.0
    ∙ ap (λ (x : Header). record { format = k.format; header = x }) same.1

pub lawful : IsLawful steps_form
lawful =
    record {
      header_whole = first_whole;
      header_one = first_one;
      item_whole = λ h before a stand fits. act_whole h a stand.header fits;
      item_one = λ h before a b stand p q e. same_act h a b stand.header p q e;
      end_whole =
          λ h acts stand lt.
          line_lacks (codes "end" ∷ decimal (length acts) ∷ []) (end_words (length acts) lt);
      item_no_end = λ h acts a stand fits lt e. act_no_end h a (length acts) stand.header fits lt e;
    }
