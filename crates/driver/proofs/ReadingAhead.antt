-- The items of a text ahead of a reader's window.
use Rattle.std.proofs.Common.{Bool, true, false, inr, ◌≡◌, ◌≢◌, ℕ, ◌+◌, ◌-◌, ◌<◌, ◌≤◌, List, [], ◌∷◌, ◌++◌, length, drop, Option, None, Some, Result, Ok, Err, IfSome, refl, sym, ap, ◌∙◌, arith, append_assoc, append-nil, subst, length-append}
use Rattle.std.proofs.KnownBytes.{Keeps-refl, Keeps-trans}
use Rattle.std.specs.Result.{IsErr}
use Rattle.std.specs.Io.KnownBytes.{Keeps, IsAtEnd, prepend_known}
use Rattle.driver.specs.Below.{ended, LINE_BYTES, TextFault, BadHeader, BadLine, CutShort, Form, lines_of, Begins, IsText, IsReading, HasShortLines, SoFar, AreRead, IsAhead, IsLineBehind, StreamFault, Text, ReadFailed, WriteFailed, Memory, IsReadNoFurther, IsOfReading, IsTooLong, Grows, StaysAhead, room}
use Rattle.streams.proofs.Growing.{broken}
use Rattle.streams.proofs.Lawful.{IsLawful}
use Rattle.streams.proofs.LongLines.{header_cut, line_cut, uncut}
use Rattle.streams.proofs.Following.{begins_more, without, begins_without, with_rest, fault_stays, text_goes_on}
use Rattle.streams.proofs.UnderWay.{last_bytes, one_further, read_on, shorter}
use Rattle.driver.specs.TextReader.{Progress, reader_at, WereRead, IsFaultOf, IsNext, IsPartLeft, KeepsPlace}
use Rattle.driver.specs.inner.TextReader.{IsAfterEnd}

-- ---- the source

pub more_left : (old new : List ℕ) (left after : Option (List ℕ)) (n : ℕ) → Grows old new left after n →
    0 < n → IfSome left (λ more. more ≢ [])
more_left old new left after n g lt =
    grind (arith, g.consumed, g.count, length-append {A = ℕ})

-- what was read more stands in the window
pub grown_keeps : (old new : List ℕ) (left after : Option (List ℕ)) (n : ℕ) → Grows old new left after n →
    Keeps (prepend_known old left) (prepend_known new after)
grown_keeps old new left after n g =
    grind (arith, g.consumed, g.behind, append_assoc {A = ℕ})

-- the window stays, and so does what is left
pub same_keeps : (old new : List ℕ) (left after : Option (List ℕ)) → new ≡ old → Keeps left after →
    Keeps (prepend_known old left) (prepend_known new after)
same_keeps old new left after same keeps = grind arith

-- nothing was let go of
pub keeps_stays : (old new : List ℕ) (left after : Option (List ℕ)) →
    Keeps (prepend_known old left) (prepend_known new after) → StaysAhead old left new after
keeps_stays old new None after keeps = tt
keeps_stays old new (Some xs) None keeps = absurd keeps
keeps_stays old new (Some xs) (Some ys) keeps =
    record {
      line = [];
      rest = new;
      parts = sym keeps;
      one_line = λ i d lt. absurd (omega (arith, lt));
      seen = refl;
    }

-- what stands in the window begins with a good line: nothing of it was let go of
pub all_kept : (old window good rest : List ℕ) (left after : Option (List ℕ)) →
    StaysAhead old left window after → window ≡ good ++ 10 ∷ rest → length good < LINE_BYTES →
    Keeps (prepend_known old left) (prepend_known window after)
all_kept old window good rest None after s is lt = tt
all_kept old window good rest (Some xs) None s is lt = absurd s
all_kept old window good rest (Some xs) (Some ys) s is lt =
    let line = uncut LINE_BYTES s.line s.rest good rest s.one_line lt (sym s.seen ∙ is) in
    ap (λ (t : List ℕ). t ++ ys) (s.seen ∙ ap (λ (t : List ℕ). t ++ s.rest) line)
    ∙ append_assoc s.line s.rest ys ∙ sym s.parts

-- ---- what was read

pub kept : {H I : Type 0} (form : Form H I) (text : Option (List ℕ)) (so_far : SoFar H I)
    (a b : Option (List ℕ)) (items : List I) → Keeps a b
    → WereRead form text (record { so_far = so_far; ahead = a }) items →
    WereRead form text (record { so_far = so_far; ahead = b }) items
kept form text so_far a b items keeps were = grind arith

further : {H I : Type 0} (form : Form H I) (text : Option (List ℕ)) (so_far : SoFar H I)
    (known : List I → Type 0) (window after : List ℕ) (left : Option (List ℕ)) (items : List I) (x : I)
    → IsAhead form so_far window x after → (so_far.known items → known (items ++ x ∷ []))
    → WereRead form text (reader_at so_far window left) items →
    WereRead form text (reader_at (one_further so_far known) after left) (items ++ x ∷ [])
further form None so_far known window after left items x ahead next were = tt
further form (Some t) so_far known window after None items x ahead next were = absurd were
further form (Some t) so_far known window after (Some more) items x ahead next were =
    let parts = ap (λ (b : List ℕ). b ++ more) ahead.parts
    ∙ append_assoc (ended (form.item_line x)) after more in
    read_on form t so_far known items (window ++ more) x (after ++ more)
    (record { fits = ahead.fits; parts = parts }) (next were.known) were

-- the next line was found, which is short
pub item_kept : {H I : Type 0} (form : Form H I) (so_far : SoFar H I) (old window : List ℕ)
    (left after : Option (List ℕ)) (x : I) (n : ℕ) → length (form.item_line x) < LINE_BYTES →
    StaysAhead old left window after → IsLineBehind form so_far window (Ok (Some (x, n)))
    → Keeps (prepend_known old left) (prepend_known window after)
item_kept form so_far old window left after x n few s is =
    let found = is [] in
    all_kept old window (form.item_line x) found.0 left after s
    (found.1.parts ∙ broken (form.item_line x) found.0) few

-- the end line was found
pub end_kept : (old window good : List ℕ) (left after : Option (List ℕ)) → StaysAhead old left window after →
    window ≡ ended good → length good < LINE_BYTES →
    Keeps (prepend_known old left) (prepend_known window after)
end_kept old window good left after s is lt =
    all_kept old window good [] left after s is lt

-- ---- what is left of a text

part_left : {H I : Type 0} (form : Form H I) (t : List ℕ) (h : H) (items : List I) (rest : List ℕ) →
    Begins form t h items rest → length rest ≤ length t
part_left form t h items rest begun =
    omega (
      arith,
      ap length begun.parts,
      length-append (ended (form.header_line h)) (lines_of form items ++ rest),
      length-append (lines_of form items) rest,
    )

pub left_of : {H I : Type 0} (form : Form H I) (text : Option (List ℕ)) (so_far : SoFar H I)
    (window : List ℕ) (left : Option (List ℕ)) (items : List I) →
    WereRead form text (reader_at so_far window left) items → IsPartLeft text left
left_of form None so_far window left items were = tt
left_of form (Some t) so_far window None items were = absurd were
left_of form (Some t) so_far window (Some xs) items were =
    omega (arith, part_left form t so_far.header items (window ++ xs) were.begins, length-append window xs)

-- no line was read but those of these items, and what stands in the window
pub no_further : {H I : Type 0} (form : Form H I) (text : Option (List ℕ)) (so_far : SoFar H I)
    (window : List ℕ) (left : Option (List ℕ)) (items : List I) → length window ≤ room →
    WereRead form text (reader_at so_far window left) items → IsReadNoFurther form text left
no_further form None so_far window left items few were = tt
no_further form (Some t) so_far window None items few were = absurd were
no_further form (Some t) so_far window (Some xs) items few were =
    inr (inr (record {
      header = so_far.header;
      items = items;
      window = window;
      begins = were.begins;
      few = few;
    }))

pub unread_yet : {H I : Type 0} (form : Form H I) (text : Option (List ℕ)) → IsReadNoFurther form text text
unread_yet form text = grind arith

-- its reads can't be counted
pub too_long : {H I : Type 0} (form : Form H I) (text left after : Option (List ℕ)) →
    IfSome left IsTooLong → IsPartLeft text left → IsReadNoFurther form text after
too_long form text left after long part = grind arith

pub whole_left : (text : Option (List ℕ)) → IsPartLeft text text
whole_left text = grind arith

-- the faults of reading
pub reading_fault : {H I : Type 0} (form : Form H I) (text left after : Option (List ℕ))
    (fault : StreamFault) →
    IsOfReading fault → (fault ≡ Memory → IfSome left IsTooLong) → IsPartLeft text left →
    IsFaultOf form text after fault
reading_fault form text left after fault of long part = grind (arith, too_long form text left after)

-- the next line is in the window, and this many bytes after it
pub item_ahead : {H I : Type 0} (form : Form H I) (text : Option (List ℕ)) (so_far : SoFar H I)
    (known : List I → Type 0) (window : List ℕ) (left : Option (List ℕ)) (items : List I) (x : I) (n : ℕ)
    → IsLineBehind form so_far window (Ok (Some (x, n))) → (so_far.known items → known (items ++ x ∷ []))
    → WereRead form text (reader_at so_far window left) items →
    WereRead form text (reader_at (one_further so_far known) (drop (length window - n) window) left)
    (items ++ x ∷ [])
item_ahead form text so_far known window left items x n is next were =
    let found = is [] in
    rw (last_bytes window (ended (form.item_line x)) found.0 n found.1.parts found.2)
    (further form text so_far known window found.0 left items x found.1 next were)

pub line_within : {H I : Type 0} (form : Form H I) (so_far : SoFar H I) (window : List ℕ) (x : I) (n : ℕ) →
    IsLineBehind form so_far window (Ok (Some (x, n))) → n ≤ length window
line_within form so_far window x n is =
    let found = is [] in
    omega (arith, shorter window (form.item_line x) found.0 n found.1.parts found.2)

stays : {H I : Type 0} (form : Form H I) (front more : List ℕ) (fault : TextFault) →
    (fault ≡ CutShort → more ≡ []) → IsReading form front (Err fault) →
    IsReading form (front ++ more) (Err fault)
stays form front more CutShort end is = rw (end refl, append-nil front) is
stays form front more BadHeader end is = fault_stays form front more BadHeader (λ e. cc) is
stays form front more (BadLine number) end is = fault_stays form front more (BadLine number) (λ e. cc) is

-- the front of a text that ends with a window: the same items were read of it
front_read : {H I : Type 0} (form : Form H I) (t : List ℕ) (so_far : SoFar H I) (window more : List ℕ)
    (items : List I) → AreRead form t so_far items (window ++ more)
    → AreRead form (without form so_far.header items window) so_far items window
front_read form t so_far window more items were =
    record {
      begins = begins_without form t so_far.header items window (window ++ more) were.begins;
      count = were.count;
      known = were.known;
    }

-- the fault of the next line, of which bytes may have been let go of
pub fault_ahead : {H I : Type 0} (form : Form H I) (text : Option (List ℕ)) (so_far : SoFar H I)
    (old window : List ℕ) (left after : Option (List ℕ)) (items : List I) (fault : TextFault)
    → IsLawful form → HasShortLines form LINE_BYTES → StaysAhead old left window after →
    IsLineBehind form so_far window (Err fault) → (fault ≡ CutShort → IsAtEnd after) →
    WereRead form text (reader_at so_far old left) items → IsFaultOf form text after (Text fault)
fault_ahead form None so_far old window left after items fault lawful short s is end were = (tt, tt)
fault_ahead form (Some t) so_far old window None after items fault lawful short s is end were = absurd were
fault_ahead form (Some t) so_far old window (Some xs) None items fault lawful short s is end were = absurd s
fault_ahead form (Some t) so_far old window (Some xs) (Some ys) items fault lawful short s is end were =
    let h = so_far.header in
    let begun : Begins form t h items ((s.line ++ s.rest) ++ ys) =
    subst (Begins form t h items) (s.parts ∙ sym (append_assoc s.line s.rest ys)) were.begins in
    let all = without form h items (s.line ++ s.rest) in
    let cut = without form h items window in
    let begun_all = begins_without form t h items (s.line ++ s.rest) ((s.line ++ s.rest) ++ ys) begun in
    let begun_cut = begins_without form t h items window ((s.line ++ s.rest) ++ ys) begun in
    let there =
    is cut items (record { begins = begun_cut; count = were.count; known = were.known }) in
    let here =
    line_cut form LINE_BYTES lawful short all cut h items s.line s.rest fault s.one_line begun_all
    (subst (Begins form cut h items) s.seen begun_cut) there in (
      subst (λ (b : List ℕ). IsReading form b (Err fault))
          (sym (with_rest form t h items (s.line ++ s.rest) ys begun)) (stays form all ys fault end here),
      omega (
        arith,
        part_left form t h items ((s.line ++ s.rest) ++ ys) begun,
        length-append (s.line ++ s.rest) ys,
      ),
    )

front_whole : {H I : Type 0} (form : Form H I) (t : List ℕ) (so_far : SoFar H I) (window more : List ℕ)
    (items : List I) → IsLineBehind form so_far window (Ok None) →
    AreRead form t so_far items (window ++ more)
    → IsText form (without form so_far.header items window) so_far.header items
front_whole form t so_far window more items is were =
    is (without form so_far.header items window) items (front_read form t so_far window more items were)

all_ahead : {H I : Type 0} (form : Form H I) (text : Option (List ℕ)) (so_far : SoFar H I) (window : List ℕ)
    (left : Option (List ℕ)) (items : List I)
    → IsLineBehind form so_far window (Ok None) → IsAtEnd left →
    WereRead form text (reader_at so_far window left) items →
    IfSome text (λ t. IsText form t so_far.header items)
all_ahead form None so_far window left items is end were = tt
all_ahead form (Some t) so_far window None items is end were = absurd were
all_ahead form (Some t) so_far window (Some more) items is end were =
    rw (
      with_rest form t so_far.header items window more were.begins,
      end,
      append-nil (without form so_far.header items window),
    )
    (front_whole form t so_far window more items is were)

pub more_ahead : {H I : Type 0} (form : Form H I) (text : Option (List ℕ)) (so_far : SoFar H I)
    (window : List ℕ) (left : Option (List ℕ)) (items : List I)
    → IsLineBehind form so_far window (Ok None) → IfSome left (λ more. more ≢ []) →
    WereRead form text (reader_at so_far window left) items →
    IfSome text (λ t. IsReading form t (Err (BadLine (so_far.count + 3))))
more_ahead form None so_far window left items is some were = tt
more_ahead form (Some t) so_far window None items is some were = absurd were
more_ahead form (Some t) so_far window (Some more) items is some were =
    rw (were.count, with_rest form t so_far.header items window more were.begins)
    (text_goes_on form (without form so_far.header items window) so_far.header items more
    (front_whole form t so_far window more items is were) some)

-- ---- the header

header_read : {H I : Type 0} (form : Form H I) (text : Option (List ℕ))
    (so_far : SoFar H I) (window after : List ℕ) (left : Option (List ℕ)) →
    AreRead form window so_far [] after
    → Keeps (prepend_known [] text) (prepend_known window left) →
    WereRead form text (reader_at so_far after left) []
header_read form None so_far window after left read keeps = tt
header_read form (Some t) so_far window after None read keeps = absurd keeps
header_read form (Some t) so_far window after (Some more) read keeps =
    rw (sym keeps) (record {
      begins = begins_more form window so_far.header [] after more read.begins;
      count = read.count;
      known = read.known;
    })

-- the header's line is in the window, and this many bytes after it
pub header_ahead : {H I : Type 0} (form : Form H I) (text : Option (List ℕ))
    (so_far : SoFar H I) (window after : List ℕ) (left : Option (List ℕ)) →
    AreRead form window so_far [] after
    → Keeps (prepend_known [] text) (prepend_known window left) →
    WereRead form text (reader_at so_far (drop (length window - length after) window) left) []
header_ahead form text so_far window after left read keeps =
    rw (last_bytes window (ended (form.header_line so_far.header)) after (length after) read.begins.parts
    refl) (header_read form text so_far window after left read keeps)

-- the header's line was found
pub header_kept : {H I : Type 0} (form : Form H I) (h : H) (window rest : List ℕ)
    (text after : Option (List ℕ)) → HasShortLines form LINE_BYTES → Begins form window h [] rest →
    StaysAhead [] text window after → Keeps (prepend_known [] text) (prepend_known window after)
header_kept form h window rest text after short begun s =
    all_kept [] window (form.header_line h) rest text after s (begun.parts ∙ broken (form.header_line h) rest)
    (short.header h begun.header)

pub header_fault : {H I : Type 0} (form : Form H I) (text : Option (List ℕ)) (window : List ℕ)
    (after : Option (List ℕ)) (fault : TextFault) → IsLawful form → HasShortLines form LINE_BYTES →
    IsReading form window (Err fault) → (fault ≡ CutShort → IsAtEnd after) →
    StaysAhead [] text window after → IsFaultOf form text after (Text fault)
header_fault form None window after fault lawful short is end s = (tt, tt)
header_fault form (Some t) window None fault lawful short is end s = absurd s
header_fault form (Some t) window (Some ys) fault lawful short is end s =
    let whole : t ≡ (s.line ++ s.rest) ++ ys = s.parts ∙ sym (append_assoc s.line s.rest ys) in
    let there = subst (λ (b : List ℕ). IsReading form b (Err fault)) s.seen is in
    let here = header_cut form LINE_BYTES lawful short s.line s.rest fault s.one_line there in (
      subst (λ (b : List ℕ). IsReading form b (Err fault)) (sym whole)
          (stays form (s.line ++ s.rest) ys fault end here),
      omega (arith, ap length whole, length-append (s.line ++ s.rest) ys),
    )

-- ---- what a call answers

-- a fault of reading
pub read_failed : {H I : Type 0} (form : Form H I) (so_far : SoFar H I) (old : List ℕ)
    (left after : Option (List ℕ)) (new : Progress H I) (fault : StreamFault)
    → IsOfReading fault → (fault ≡ Memory → IfSome left IsTooLong) →
    IsNext form (reader_at so_far old left) (Err fault) new after
read_failed form so_far old left after new fault of long = λ text items were.
    reading_fault form text left after fault of long (left_of form text so_far old left items were)

-- no further item can be counted
pub not_counted : {H I : Type 0} (form : Form H I) (so_far : SoFar H I) (old window : List ℕ)
    (left after : Option (List ℕ)) (new : Progress H I) → length window ≤ room →
    Keeps (prepend_known old left) (prepend_known window after) →
    IsNext form (reader_at so_far old left) (Err Memory) new after
not_counted form so_far old window left after new few keeps = λ text items were.
    no_further form text so_far window after items few
    (kept form text so_far (prepend_known old left) (prepend_known window after) items keeps were)

-- after the end line
pub ended_here : {H I : Type 0} (form : Form H I) (so_far : SoFar H I) (window grown : List ℕ)
    (left after : Option (List ℕ)) (r : Result (Option I) StreamFault) (new : Progress H I)
    → IsLineBehind form so_far window (Ok None) → IsAfterEnd so_far.count left r →
    Keeps (prepend_known window left) (prepend_known grown after) →
    IsNext form (reader_at so_far window left) r new after
ended_here form so_far window grown left after (Ok (Some item)) new is end keeps = absurd end
ended_here form so_far window grown left after (Ok None) new is end keeps =
    λ text items were. all_ahead form text so_far window left items is end were
ended_here form so_far window grown left after (Err (Text fault)) new is end keeps =
    λ text items were. subst (λ (f : TextFault). IsFaultOf form text after (Text f)) (sym end.0) (
      more_ahead form text so_far window left items is end.1 were,
      left_of form text so_far grown after items
          (kept form text so_far (prepend_known window left) (prepend_known grown after) items keeps were),
    )
ended_here form so_far window grown left after (Err ReadFailed) new is end keeps = λ text items were. tt
ended_here form so_far window grown left after (Err Memory) new is end keeps = absurd end
ended_here form so_far window grown left after (Err WriteFailed) new is end keeps = absurd end

-- what the source gave before changes nothing
pub next_kept : {H I : Type 0} (form : Form H I) (so_far : SoFar H I) (a b : Option (List ℕ))
    (r : Result (Option I) StreamFault) (new : Progress H I) (after : Option (List ℕ)) → Keeps a b
    → IsNext form (record { so_far = so_far; ahead = b }) r new after →
    IsNext form (record { so_far = so_far; ahead = a }) r new after
next_kept form so_far a b (Ok (Some item)) new after keeps next =
    λ text items were. next text items (kept form text so_far a b items keeps were)
next_kept form so_far a b (Ok None) new after keeps next =
    λ text items were. next text items (kept form text so_far a b items keeps were)
next_kept form so_far a b (Err fault) new after keeps next =
    λ text items were. next text items (kept form text so_far a b items keeps were)

-- ---- where a reader stands

pub stands_failed : {I : Type 0} (old new : List ℕ) (left after : Option (List ℕ))
    (r : Result (Option I) StreamFault) → IsErr r → StaysAhead old left new after →
    KeepsPlace old left r new after
stands_failed old new left after r failed s = grind arith

pub stands_still : {I : Type 0} (old new : List ℕ) (left after : Option (List ℕ))
    (r : Result (Option I) StreamFault) → Keeps (prepend_known old left) (prepend_known new after) →
    KeepsPlace old left r new after
stands_still old new left after r keeps = grind (arith, keeps_stays old new left after keeps)

pub stands_after : {I : Type 0} (old window new : List ℕ) (left mid after : Option (List ℕ))
    (r : Result (Option I) StreamFault) → Keeps (prepend_known old left) (prepend_known window mid) →
    Keeps (prepend_known window mid) (prepend_known new after) → KeepsPlace old left r new after
stands_after old window new left mid after r p q =
    stands_still old new left after r (Keeps-trans (prepend_known old left) (prepend_known window mid)
    (prepend_known new after) p q)

-- nothing has changed
pub stands_here : {I : Type 0} (old : List ℕ) (left : Option (List ℕ)) (r : Result (Option I) StreamFault) →
    KeepsPlace old left r old left
stands_here old left r = stands_still old old left left r (Keeps-refl (prepend_known old left))

abbrev sure : {T : Type 0} → T → Result T StreamFault
sure x = Ok x

-- a source goes on after an answer
pub goes_on : {T : Type 0} (x : T) (failed : Bool) → (failed ≡ true →
    sure x ≡ Err ReadFailed) → failed ≡ false
goes_on x failed failing = grind arith
