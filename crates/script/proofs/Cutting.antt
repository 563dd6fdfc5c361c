-- A call's text, cut after its first word.
use Rattle.std.proofs.Common.{◌≡◌, ◌≢◌, ℕ, ◌<◌, false, eqb, List, [], ◌∷◌, ◌++◌, Option, Some, None, All, get_or, slice_get, Bor, refl, sym, ap, subst, ◌∙◌, arith, decimal, IsTrue, true≢false, codes, MatchOption}
use Rattle.std.proofs.lemmas.Str.Pattern.{IsSplitOnceResult, split_after}
use Rattle.history.specs.Text.{line_of}
use Rattle.history.proofs.Plain.{lacks_byte}
use Rattle.script.specs.Prelude.{action_words, HasAmounts, Spells, IsName, is_name_byte, Named, Action, Call, On, Interrupt}
use Rattle.script.proofs.CallLemmas.{behind_name}
use Rattle.script.proofs.Firsts.{all_at}

-- the first word of a call, and what stands after it
abbrev pub IsCut : List Named → ℕ → Call → List ℕ → List ℕ → Type 0
IsCut objects threads (On place action) name rest = HasAmounts action
    × ((o : Named) × (slice_get objects place ≡ Some o) × (name ≡ o.0) × (rest ≡ line_of (action_words
    action)))
IsCut objects threads (Interrupt thread) name rest =
    (thread < threads) × (name ≡ codes "interrupt") × (rest ≡ decimal thread)

abbrev Halves : Type 0
Halves = Option (Bor (List ℕ) × Bor (List ℕ))

no_space_in_name : (b : ℕ) → IsTrue (is_name_byte b) → b ≢ 32
no_space_in_name b good is = true≢false (sym (subst (λ (n : ℕ). IsTrue (is_name_byte n)) is good))

name_cut : (objects : List Named) (threads place : ℕ) (action : Action) (text : List ℕ) (o : Named) (r :
    Halves) →
    HasAmounts action → slice_get objects place ≡ Some o →
    MatchOption r ⊥ (λ x. (x.0.now ≡ o.0) × (x.1.now ≡ line_of (action_words action))) →
    MatchOption r ⊥ (λ x. IsCut objects threads (On place action) x.0.now x.1.now)
name_cut objects threads place action text o None fits is parts = parts
name_cut objects threads place action text o (Some x) fits is parts = (fits, (o, is, parts.0, parts.1))

interrupt_cut : (objects : List Named) (threads thread : ℕ) (r : Halves) → thread < threads →
    MatchOption r ⊥ (λ x. (x.0.now ≡ codes "interrupt") × (x.1.now ≡ decimal thread)) →
    MatchOption r ⊥ (λ x. IsCut objects threads (Interrupt thread) x.0.now x.1.now)
interrupt_cut objects threads thread None few parts = parts
interrupt_cut objects threads thread (Some x) few parts = (few, parts.0, parts.1)

no_space : (i : ℕ) → i < 9 → get_or (codes "interrupt") i 0 ≢ 32
no_space i lt is =
    let differs = lacks_byte 32 (omega arith) (codes "interrupt") refl i 0 lt in
    true≢false (subst (λ (b : ℕ). eqb b 32 ≡ false) is differs)

pub cut : (objects : List Named) (threads : ℕ) (c : Call) (text : List ℕ) (r : Halves) →
    All (λ o. IsName o.0) objects → IsSplitOnceResult 32 text r → Spells objects threads c text →
    MatchOption r ⊥ (λ x. IsCut objects threads c x.0.now x.1.now)
cut objects threads (On place action) text r names split says =
    let o = says.1.0 in
    let name : IsName o.0 = all_at (λ o. IsName o.0) objects place o names says.1.1 in
    name_cut objects threads place action text o r says.0 says.1.1
    (split_after 32 text o.0 (line_of (action_words action)) r split (omega arith)
    (says.1.2 ∙ behind_name o.0 action) (λ i lt. no_space_in_name _ (name.bytes i 0 lt)))
cut objects threads (Interrupt thread) text r names split says =
    interrupt_cut objects threads thread r says.0
    (split_after 32 text (codes "interrupt") (decimal thread) r split (omega arith) says.1 no_space)

pub no_interrupt : (objects : List Named) (threads : ℕ) (c : Call) (name rest : List ℕ) →
    All (λ o. IsName o.0) objects → name ≡ codes "interrupt" → ((t : ℕ) → t < threads → rest ≢ decimal t) →
    IsCut objects threads c name rest → ⊥
no_interrupt objects threads (On place action) name rest names is none cut =
    (all_at (λ o. IsName o.0) objects place cut.1.0 names cut.1.1).other (sym cut.1.2 ∙ is)
no_interrupt objects threads (Interrupt thread) name rest names is none cut = none thread cut.0 cut.2

pub no_object : (objects : List Named) (threads : ℕ) (c : Call) (name rest : List ℕ) →
    name ≢ codes "interrupt" →
    All (λ o. o.0 ≢ name) objects → IsCut objects threads c name rest → ⊥
no_object objects threads (On place action) name rest other none cut =
    all_at (λ o. o.0 ≢ name) objects place cut.1.0 none cut.1.1 (sym cut.1.2)
no_object objects threads (Interrupt thread) name rest other none cut = other cut.1

pub no_action : (objects : List Named) (threads : ℕ) (c : Call) (name rest : List ℕ) →
    name ≢ codes "interrupt" →
    ((a : Action) → HasAmounts a → rest ≢ line_of (action_words a)) → IsCut objects threads c name rest → ⊥
no_action objects threads (On place action) name rest other none cut = none action cut.0 cut.1.3
no_action objects threads (Interrupt thread) name rest other none cut = other cut.1

pub interrupt_joined : (text name rest : List ℕ) (thread : ℕ) → text ≡ name ++ 32 ∷ rest →
    name ≡ codes "interrupt" →
    rest ≡ decimal thread → text ≡ line_of (codes "interrupt" ∷ decimal thread ∷ [])
interrupt_joined text name rest thread parts is number = parts ∙ ap (λ (n : List ℕ). n ++ 32 ∷ rest) is
    ∙ ap (λ (r : List ℕ). codes "interrupt" ++ 32 ∷ r) number

pub name_joined : (text name rest : List ℕ) (a : Action) → text ≡ name ++ 32 ∷ rest →
    rest ≡ line_of (action_words a) → text ≡ line_of (name ∷ action_words a)
name_joined text name rest a parts is = parts ∙ ap (λ (r : List ℕ). name ++ 32 ∷ r) is
    ∙ sym (behind_name name a)
