-- Lines of words that hold neither spaces nor breaks hold no break.
use Rattle.std.proofs.Common.{◌≡◌, ℕ, Bool, true, not, eqb, List, [], ◌∷◌, ◌++◌, arith}
use Rattle.std.specs.List.{list_all}
use Rattle.std.proofs.lemmas.Bool.Decides.{nat_tests}
use Rattle.history.specs.declared.header.Header.{Header}
use Rattle.history.specs.Header.{IsInRange}
use Rattle.history.specs.Spelling.{part_words, part_of}
use Rattle.history.specs.inner.HeaderReading.{header_at}
use Rattle.history.specs.Text.{line_of}
use Rattle.history.proofs.Plain.{is_plain, ArePlain}
use Rattle.history.proofs.PartLemmas.{part_again, plain_part}
use Rattle.history.proofs.Readers.{same_value}
use Rattle.streams.proofs.Lawful.{Lacks}
use Rattle.streams.proofs.Lists.{same_behind}

pub lacks_append : (a b : List ℕ) → Lacks a → Lacks b → Lacks (a ++ b)
lacks_append [] b p q = q
lacks_append (x ∷ a) b p q = (p.0, lacks_append a b p.1 q)

plain_lacks : (w : List ℕ) → is_plain w ≡ true → Lacks w
plain_lacks [] e = tt
plain_lacks (b ∷ bs) e = grind (arith, nat_tests, plain_lacks bs)

pub line_lacks : (ws : List (List ℕ)) → ArePlain ws → Lacks (line_of ws)
line_lacks [] h = tt
line_lacks (w ∷ []) h = plain_lacks w h.0
line_lacks (w ∷ v ∷ ws) h =
    lacks_append w (32 ∷ line_of (v ∷ ws)) (plain_lacks w h.0) (
      (λ same. omega (arith, same)),
      line_lacks (v ∷ ws) h.1,
    )

-- a literal, whose bytes can be looked through
abbrev pub has_no_break : List ℕ → Bool
has_no_break w = list_all (λ b. not (eqb b 10)) w

pub literal_lacks : (w : List ℕ) → has_no_break w ≡ true → Lacks w
literal_lacks [] e = tt
literal_lacks (b ∷ bs) e = grind (arith, nat_tests, literal_lacks bs)

-- ---- header lines

pub header_whole : (name : List ℕ) (h : Header) → has_no_break name ≡ true → IsInRange h →
    Lacks (name ++ part_of h)
header_whole name h whole fits =
    lacks_append name (part_of h) (literal_lacks name whole) (line_lacks (part_words h) (plain_part h fits))

-- a header has one spelling
pub same_part : (h g : Header) → IsInRange h → IsInRange g → part_of h ≡ part_of g → h ≡ g
same_part h g p q e =
    same_value header_at (part_of h) (part_of g) h g (part_again h p) (part_again g q) e

pub header_one : (name : List ℕ) (h g : Header) → IsInRange h → IsInRange g →
    name ++ part_of h ≡ name ++ part_of g → h ≡ g
header_one name h g p q e = same_part h g p q (same_behind name (part_of h) (part_of g) e)
