-- A name and a header as a value, and a map that gains them.
use Rattle.std.proofs.Common.{◌≡◌, ◌≢◌, ℕ, Bool, true, false, cond, List, [], ◌∷◌, ◌++◌, All, length, map, get_or, String, string_bytes, string_eq, refl, sym, ap, ◌∙◌, arith}
use Rattle.std.specs.declared.alloc.Global.{Global}
use Rattle.std.specs.List.{AllByRecursion}
use Rattle.std.proofs.lemmas.List.Elements.{recursion_from_All}
use Rattle.std.proofs.lemmas.Slice.Eq.{bytes_eq-Decides}
use Rattle.indexmap.specs.IndexMap.{insert_entry}
use Rattle.history.specs.declared.header.Header.{Header}
use Rattle.history.specs.Spelling.{part_of}
use Rattle.serde_json.specs.Data.{Data, string, array}
use Rattle.serde_json.specs.View.{view, items_of}
use Rattle.serde_json.specs.declared.value.Value.{Value}
use Rattle.script.specs.Prelude.{object_value, Named, named}
use Rattle.script.proofs.Firsts.{Entry}

pub two_items : (vs : List Value) (a b : Value) → length vs ≡ 2 → a ≡ get_or vs 0 a → b ≡ get_or vs 1 b →
    vs ≡ a ∷ b ∷ []
two_items [] a b two first second = absurd cc
two_items (x ∷ []) a b two first second = absurd (omega (arith, two))
two_items (x ∷ y ∷ []) a b two first second = cc
two_items (x ∷ y ∷ z ∷ vs) a b two first second = absurd (omega (arith, two))

parts : (a b c d : Data) → array (items_of (a ∷ b ∷ [])) ≡ array (items_of (c ∷ d ∷ [])) → (a ≡ c) × (b ≡ d)
parts a b c d e = (cc, cc)

same_text : (m n : List ℕ) → string m ≡ string n → m ≡ n
same_text m n e = cc

-- the two texts that a value has are those of the object that it is
pub two_texts : (d : Data) (vs : List Value) (a b : Value) (name part : List ℕ) (o : Named) →
    vs ≡ a ∷ b ∷ [] →
    d ≡ array (items_of (map view vs)) → d ≡ object_value o → view a ≡ string name → view b ≡ string part →
    (name ≡ o.0) × (part ≡ part_of o.1)
two_texts d vs a b name part o two is spelt first second =
    let both = parts (view a) (view b) (string o.0) (string (part_of o.1))
    (ap (λ (ws : List Value). array (items_of (map view ws))) (sym two) ∙ sym is ∙ spelt) in
    (same_text name o.0 (sym first ∙ both.0), same_text part (part_of o.1) (sym second ∙ both.1))

appended : (es : List Entry) (k : String Global) (h : Header) (name : List ℕ) → string_bytes k ≡ name →
    AllByRecursion (λ b. b.0 ≢ name) (named es) → named (insert_entry string_eq es k h) ≡ named es ++ (
      name,
      h,
    ) ∷ []
appended [] k h name is new = ap (λ (n : List ℕ). (n, h) ∷ []) is
appended (e ∷ es) k h name is new = by (string_eq k e.0) refl (appended es k h name is new.1)
  where
    by : (b : Bool) → string_eq k e.0 ≡ b → named (insert_entry string_eq es k h) ≡ named es ++ (name, h)
        ∷ [] →
        named (cond b ((e.0, h) ∷ es) (e ∷ insert_entry string_eq es k h)) ≡ named (e ∷ es) ++ (name, h) ∷ []
    by true same rest = absurd (new.0 (sym ((bytes_eq-Decides (string_bytes k) (string_bytes e.0)).0 same) ∙
        is))
    by false same rest = ap (λ (os : List Named). (string_bytes e.0, e.1) ∷ os) rest

pub inserted : (es : List Entry) (k : String Global) (h : Header) (name : List ℕ) → string_bytes k ≡ name →
    All (λ b. b.0 ≢ name) (named es) → named (insert_entry string_eq es k h) ≡ named es ++ (name, h) ∷ []
inserted es k h name is new = appended es k h name is (recursion_from_All (λ b. b.0 ≢ name) (named es) new)
