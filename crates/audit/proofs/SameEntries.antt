-- Entries that `==` calls the same are the same, and the converse.
use Rattle.std.proofs.Common.{◌≡◌, inl, inr, ℕ, Bool, true, false, List, [], ◌∷◌, eqb-true, refl, ap, ◌∙◌, sym}
use Rattle.std.proofs.lemmas.Bool.{and_parts, false≢true}
use denote.Enum.Bare.{same_true}
use denote.Enum.Compared.{Each, by}
use denote.Enum.Declared.{Choice}
use denote.Struct.Field.{Field}
use denote.Struct.Values.{Values}
use Rattle.audit.specs.Below.{Entry, End, Mode, Word, Fault}
use Rattle.history.specs.contracts.entry.End as end
use Rattle.history.specs.contracts.entry.Mode as mode
use Rattle.history.specs.contracts.entry.Word as word
use Rattle.history.specs.contracts.fault.Fault as fault
use Rattle.history.specs.contracts.fault.FaultPartialEq.TheImpl as faults
use Rattle.history.specs.contracts.entry.EntryPartialEq.TheImpl as entries
use Rattle.history.specs.contracts.entry.WordPartialEq.TheImpl as words
use Rattle.history.specs.contracts.entry.EntryEq.TheImpl.Laws as laws

-- variants with fields, each of which is the same where its test says so
abbrev AreTold : (parts : List (List Field)) → Each Bool parts → Type 0
AreTold [] tests = Unit {0}
AreTold ([] ∷ parts) tests = AreTold parts tests.1
AreTold ((field ∷ fields) ∷ parts) tests =
    ((x y : Values (field ∷ fields)) → tests.0 x y ≡ true → x ≡ y) × AreTold parts tests.1

same_choice : (parts : List (List Field)) (tests : Each Bool parts) → AreTold parts tests →
    (c d : Choice parts) → by false false parts tests c d ≡ true → c ≡ d
same_choice [] tests told c d t = absurd c
same_choice (fields ∷ parts) tests told (inl x) (inr d) t = absurd (false≢true t)
same_choice (fields ∷ parts) tests told (inr c) (inl y) t = absurd (false≢true t)
same_choice ([] ∷ parts) tests told (inl x) (inl y) t = refl
same_choice ([] ∷ parts) tests told (inr c) (inr d) t = ap inr (same_choice parts tests.1 told c d t)
same_choice ((field ∷ fields) ∷ parts) tests told (inl x) (inl y) t = ap inl (told.0 x y t)
same_choice ((field ∷ fields) ∷ parts) tests told (inr c) (inr d) t =
    ap inr (same_choice parts tests.1 told.1 c d t)

refused : (f g : Fault × Unit {0}) → faults.ghosts.eq f.0 g.0 ≡ true → f ≡ g
refused f g t = ap (λ (x : Fault). (x, tt)) (same_true fault.the_type tt f.0 g.0 t)

same_word : (v w : Word) → words.ghosts.eq v w ≡ true → v ≡ w
same_word v w t =
    sym (word.the_eta v)
    ∙ ap word.the_make
    (same_choice word.the_parts _ (refused, tt) (word.as_values v) (word.as_values w) t)
    ∙ word.the_eta w

abbrev entry_by : ℕ → ℕ → Word → Mode → ℕ → End → Entry
entry_by n i w m c how = record { n = n; seat = i; word = w; mode = m; at = c; end = how }

pub same_entries : (a b : Entry) → entries.ghosts.eq a b ≡ true → a ≡ b
same_entries a b t =
    let p = and_parts _ _ t in
    let q = and_parts _ _ p.1 in
    let r = and_parts _ _ q.1 in
    let s = and_parts _ _ r.1 in
    let u = and_parts _ _ s.1 in
    ap (λ x. entry_by x a.seat a.word a.mode a.at a.end) (eqb-true a.n b.n p.0)
    ∙ ap (λ x. entry_by b.n x a.word a.mode a.at a.end) (eqb-true a.seat b.seat q.0)
    ∙ ap (λ x. entry_by b.n b.seat x a.mode a.at a.end) (same_word a.word b.word r.0)
    ∙ ap (λ x. entry_by b.n b.seat b.word x a.at a.end) (same_true mode.the_type tt a.mode b.mode s.0)
    ∙ ap (λ x. entry_by b.n b.seat b.word b.mode x a.end) (eqb-true a.at b.at u.0)
    ∙ ap (λ x. entry_by b.n b.seat b.word b.mode b.at x) (same_true end.the_type tt a.end b.end u.1)

pub itself : (a : Entry) → entries.ghosts.eq a a ≡ true
itself = laws.lawful.laws.refl
