-- The lines of a history, and which lines may come next.
use Rattle.std.proofs.Common.{◌≡◌, ◌⊎◌, ⊎_elim, inl, inr, ℕ, zero, suc, ◌+◌, ◌<◌, ◌≤◌, Bool, true, ltb, List, [], ◌∷◌, ◌++◌, length, map, refl, sym, ap, subst, ◌∙◌, arith, append_assoc, append-nil, lt-ltb, ltb-true, length-append}
use Rattle.std.specs.List.{AllByRecursion}
use Rattle.std.proofs.lemmas.List.{length-map, map-append}
use Rattle.history_text.specs.Below.{SeatBase, Sleeper, LinePlace, Entry, Header, Object, Base, opening_base, ended_calls, MOST_FOLDED, IsBaseOf, IsGood, AreItems}
use Rattle.history_text.specs.Prelude.{BaseLine, Stands, Sleeps, Head, base_lines, first_line, seat_lines, sleeper_lines, calls_sum, HasLine, counts_line, head_of, lines_told, Based, Entered, IsHistoryOf, Line, SomeBeginsSo, calls_told, end_of, entries_told, lines_on, numbered, sum_of, history_form, GoodBeginsSo, GoodHas, IsToldBase}
use Rattle.history_text.proofs.Lists.{each_at, each_front}
use Rattle.history.proofs.Times.{each-append}

-- ---- one line more

pub numbered-push : (n : ℕ) (es : List Entry) (e : Entry) →
    numbered n (es ++ e ∷ []) ≡ numbered n es ++ Entered (n + length es) e ∷ []
numbered-push n [] e = grind arith
numbered-push n (x ∷ es) e = grind (arith, numbered-push (n + 1) es e)

pub on_push : (b : Base) (es : List Entry) (e : Entry) →
    lines_on b (es ++ e ∷ []) ≡ lines_on b es ++ Entered (b.entries + length es) e ∷ []
on_push b es e =
    ap (λ (l : List Line). map Based (lines_told b) ++ l) (numbered-push b.entries es e)
    ∙ sym (append_assoc (map Based (lines_told b)) (numbered b.entries es)
    (Entered (b.entries + length es) e ∷ []))

-- ---- a base and its lines

pub some_entries : (n : ℕ) → 1 ≤ n → ltb 0 n ≡ true
some_entries n some = lt-ltb 0 n (omega (arith, some))

-- of a base of some entries its lines are told, of an opening none is
pub told_some : (b : Base) → 1 ≤ b.entries → lines_told b ≡ base_lines b
told_some b some = rw (some_entries b.entries some) refl

pub told_none : (b : Base) → b.entries ≡ 0 → lines_told b ≡ []
told_none b none = rw none refl

pub base_few : (k : Header) (b : Base) → IsBaseOf k b → b.entries ≤ MOST_FOLDED
base_few k b of =
    ⊎_elim (λ (e : b ≡ opening_base k). omega (arith, ap (λ (a : Base). a.entries) e))
    (λ (g : (1 ≤ b.entries) × IsGood b). g.1.entries) of.1

-- ---- what lines count

pub sum-append : (f : Line → ℕ) (xs ys : List Line) → sum_of f (xs ++ ys) ≡ sum_of f xs + sum_of f ys
sum-append f [] ys = omega arith
sum-append f (x ∷ xs) ys = omega (arith, sum-append f xs ys)

based-append : (f : Line → ℕ) (xs ys : List BaseLine) →
    sum_of f (map Based (xs ++ ys)) ≡ sum_of f (map Based xs) + sum_of f (map Based ys)
based-append f [] ys = omega arith
based-append f (x ∷ xs) ys = omega (arith, based-append f xs ys)

entries_numbered : (n : ℕ) (es : List Entry) → sum_of entries_told (numbered n es) ≡ length es
entries_numbered n [] = refl
entries_numbered n (e ∷ es) = omega (arith, entries_numbered (n + 1) es)

calls_numbered : (n : ℕ) (es : List Entry) → sum_of calls_told (numbered n es) ≡ ended_calls es
calls_numbered n [] = refl
calls_numbered n (e ∷ es) = omega (arith, calls_numbered (n + 1) es)

seat_entries : (i : ℕ) (xs : List SeatBase) → sum_of entries_told (map Based (seat_lines i xs)) ≡ 0
seat_entries i [] = refl
seat_entries i (x ∷ xs) = omega (arith, seat_entries (i + 1) xs)

seat_calls : (i : ℕ) (xs : List SeatBase) → sum_of calls_told (map Based (seat_lines i xs)) ≡ calls_sum xs
seat_calls i [] = refl
seat_calls i (x ∷ xs) = omega (arith, seat_calls (i + 1) xs)

module _ (f : Line → ℕ) (stands : (p : LinePlace) → f (Based (Stands p)) ≡ 0)
    (sleeps : (c : ℕ) (x : Sleeper) → f (Based (Sleeps c x)) ≡ 0) where
  no_standings : (ps : List LinePlace) → sum_of f (map Based (map Stands ps)) ≡ 0
  no_standings [] = refl
  no_standings (p ∷ ps) = omega (arith, stands p, no_standings ps)

  no_sleepers : (c : ℕ) (xs : List Sleeper) → sum_of f (map Based (map (Sleeps c) xs)) ≡ 0
  no_sleepers c [] = refl
  no_sleepers c (x ∷ xs) = omega (arith, sleeps c x, no_sleepers c xs)

  no_lists : (c : ℕ) (lists : List (List Sleeper)) → sum_of f (map Based (sleeper_lines c lists)) ≡ 0
  no_lists c [] = refl
  no_lists c (xs ∷ lists) =
      let parts = based-append f (map (Sleeps c) xs) (sleeper_lines (c + 1) lists) in
      omega (arith, parts, no_sleepers c xs, no_lists (c + 1) lists)

  -- the first line and those of the seats count
  counted : (b : Base) → sum_of f (map Based (base_lines b))
      ≡ f (Based (first_line b.header.object b)) + sum_of f (map Based (seat_lines 0 b.seats))
  counted b = omega (arith, based-append f, no_standings, no_lists)

first_entries : (o : Object) (b : Base) → entries_told (Based (first_line o b)) ≡ b.entries
first_entries o b = grind arith

first_calls : (o : Object) (b : Base) → calls_told (Based (first_line o b)) ≡ 0
first_calls o b = grind arith

zero_or_some : (n : ℕ) → (n ≡ 0) ⊎ (1 ≤ n)
zero_or_some zero = inl refl
zero_or_some (suc n) = inr (omega arith)

entries_base : (b : Base) → sum_of entries_told (map Based (lines_told b)) ≡ b.entries
entries_base b =
    let told = counted entries_told (λ p. refl) (λ c x. refl) b in
    grind (arith, told_none b, told_some b, told, first_entries, seat_entries)

calls_base : (b : Base) → (b.entries ≡ 0 → calls_sum b.seats ≡ 0) →
    sum_of calls_told (map Based (lines_told b)) ≡ calls_sum b.seats
calls_base b early =
    let told = counted calls_told (λ p. refl) (λ c x. refl) b in
    grind (arith, told_none b, told_some b, told, first_calls, seat_calls)

pub entries_on : (b : Base) (es : List Entry) → sum_of entries_told (lines_on b es) ≡ b.entries + length es
entries_on b es = omega (arith, sum-append entries_told, entries_base, entries_numbered)

pub calls_on : (b : Base) (es : List Entry) → (b.entries ≡ 0 → calls_sum b.seats ≡ 0) →
    sum_of calls_told (lines_on b es) ≡ calls_sum b.seats + ended_calls es
calls_on b es early = omega (arith, sum-append calls_told, calls_base b early, calls_numbered)

-- the end line behind a history
pub ends_on : (b : Base) (es : List Entry) (n c : ℕ) → n ≡ b.entries + length es →
    c ≡ sum_of calls_told (lines_on b es) → counts_line n c ≡ end_of (lines_on b es)
ends_on b es n c p q =
    ap (λ (m : ℕ). counts_line m c) (p ∙ sym (entries_on b es))
    ∙ ap (counts_line (sum_of entries_told (lines_on b es))) q

-- ---- entries and lines of a base are known by the lines

abbrev pub entry_of : Line → List Entry
entry_of (Based x) = []
entry_of (Entered n e) = e ∷ []

abbrev pub entries_of : List Line → List Entry
entries_of [] = []
entries_of (x ∷ xs) = entry_of x ++ entries_of xs

abbrev pub base_line_in : Line → List BaseLine
base_line_in (Based x) = x ∷ []
base_line_in (Entered n e) = []

abbrev pub base_lines_in : List Line → List BaseLine
base_lines_in [] = []
base_lines_in (x ∷ xs) = base_line_in x ++ base_lines_in xs

of_base : (xs : List BaseLine) (ys : List Line) → entries_of (map Based xs ++ ys) ≡ entries_of ys
of_base [] ys = refl
of_base (x ∷ xs) ys = of_base xs ys

of_numbered : (n : ℕ) (es : List Entry) → entries_of (numbered n es) ≡ es
of_numbered n [] = refl
of_numbered n (e ∷ es) = ap (λ (l : List Entry). e ∷ l) (of_numbered (n + 1) es)

pub entries_again : (b : Base) (es : List Entry) → entries_of (lines_on b es) ≡ es
entries_again b es = of_base (lines_told b) (numbered b.entries es) ∙ of_numbered b.entries es

none_numbered : (n : ℕ) (es : List Entry) → base_lines_in (numbered n es) ≡ []
none_numbered n [] = refl
none_numbered n (e ∷ es) = none_numbered (n + 1) es

in_based : (xs : List BaseLine) (ys : List Line) →
    base_lines_in (map Based xs ++ ys) ≡ xs ++ base_lines_in ys
in_based [] ys = refl
in_based (x ∷ xs) ys = ap (λ (l : List BaseLine). x ∷ l) (in_based xs ys)

pub base_lines_again : (b : Base) (es : List Entry) → base_lines_in (lines_on b es) ≡ lines_told b
base_lines_again b es =
    in_based (lines_told b) (numbered b.entries es)
    ∙ ap (λ (l : List BaseLine). lines_told b ++ l) (none_numbered b.entries es) ∙ append-nil (lines_told b)

pub based_again : (xs : List BaseLine) → base_lines_in (map Based xs) ≡ xs
based_again [] = refl
based_again (x ∷ xs) = ap (λ (l : List BaseLine). x ∷ l) (based_again xs)

pub same_based : (xs ys : List BaseLine) → map Based xs ≡ map Based ys → xs ≡ ys
same_based xs ys e = sym (based_again xs) ∙ ap base_lines_in e ∙ based_again ys

no_entries : (xs : List BaseLine) → entries_of (map Based xs) ≡ []
no_entries [] = refl
no_entries (x ∷ xs) = no_entries xs

-- lines of a base alone are followed by no entry
pub none_behind : (b : Base) (es : List Entry) (xs : List BaseLine) → lines_on b es ≡ map Based xs → es ≡ []
none_behind b es xs e = sym (entries_again b es) ∙ ap entries_of e ∙ no_entries xs

length-numbered : (n : ℕ) (es : List Entry) → length (numbered n es) ≡ length es
length-numbered n [] = refl
length-numbered n (e ∷ es) = ap suc (length-numbered (n + 1) es)

pub length-on : (b : Base) (es : List Entry) → length (lines_on b es) ≡ length (lines_told b) + length es
length-on b es =
    omega (
      arith,
      length-append (map Based (lines_told b)) (numbered b.entries es),
      length-map (lines_told b) Based,
      length-numbered b.entries es,
    )

-- ---- lines before one of a history

no_based : (n : ℕ) (es : List Entry) (before more : List Line) (x : BaseLine) →
    numbered n es ≡ before ++ Based x ∷ more → ⊥
no_based n [] [] more x e = cc
no_based n [] (y ∷ before) more x e = cc
no_based n (f ∷ es) [] more x e = cc
no_based n (f ∷ es) (y ∷ before) more x e = no_based (n + 1) es before more x cc

based_split : (ls : List BaseLine) (n : ℕ) (es : List Entry) (before more : List Line) (x : BaseLine) →
    map Based ls ++ numbered n es ≡ before ++ Based x ∷ more →
    (xs : List BaseLine) × (rest : List BaseLine) × (before ≡ map Based xs) × (ls ≡ xs ++ x ∷ rest)
based_split [] n es before more x e = absurd (no_based n es before more x e)
based_split (l ∷ ls) n es [] more x e = ([], ls, refl, cc)
based_split (l ∷ ls) n es (y ∷ before) more x e =
    let s = based_split ls n es before more x cc in (l ∷ s.0, s.1, cc s.2, cc s.3)

-- the entries before one, behind the lines of a base
record Split (ls : List BaseLine) (n : ℕ) (es : List Entry) (before : List Line) (m : ℕ) (e : Entry) :
    Type 0 where
  fs : List Entry
  gs : List Entry
  lines : before ≡ map Based ls ++ numbered n fs
  number : m ≡ n + length fs
  all : es ≡ fs ++ e ∷ gs

entry_split : (ls : List BaseLine) (n : ℕ) (es : List Entry) (before more : List Line) (m : ℕ) (e : Entry) →
    map Based ls ++ numbered n es ≡ before ++ Entered m e ∷ more → Split ls n es before m e
entry_split [] n [] [] more m e q = absurd cc
entry_split [] n [] (y ∷ before) more m e q = absurd cc
entry_split [] n (f ∷ es) [] more m e q =
    let same : n ≡ m = cc in
    record { fs = []; gs = es; lines = refl; number = omega (arith, same); all = cc }
entry_split [] n (f ∷ es) (y ∷ before) more m e q =
    let s = entry_split [] (n + 1) es before more m e cc in
    record { fs = f ∷ s.fs; gs = s.gs; lines = cc s.lines; number = omega (arith, s.number); all = cc s.all }
entry_split (l ∷ ls) n es [] more m e q = absurd cc
entry_split (l ∷ ls) n es (y ∷ before) more m e q =
    let s = entry_split ls n es before more m e cc in
    record { fs = s.fs; gs = s.gs; lines = cc s.lines; number = s.number; all = s.all }

-- ---- which lines may come next

at_next : (before more : List Line) (x : Line) (all : List Line) → all ≡ (before ++ x ∷ []) ++ more →
    all ≡ before ++ x ∷ more
at_next before more x all e = e ∙ append_assoc before (x ∷ []) more

module _ (h : Head) where
  -- a good base is told
  pub good_of : (b : Base) (es : List Entry) → IsHistoryOf h b es → 1 ≤ b.entries → IsToldBase h.header b
  good_of b es of some =
      record {
        header = of.base.0;
        some = some;
        good = ⊎_elim
            (λ (e : b ≡ opening_base h.header). absurd (omega (arith, ap (λ (a : Base). a.entries) e, some)))
            (λ (g : (1 ≤ b.entries) × IsGood b). g.1) of.base.1;
      }

  is_told : (b : Base) (xs rest : List BaseLine) (x : BaseLine) → lines_told b ≡ xs ++ x ∷ rest →
      1 ≤ b.entries
  is_told b xs rest x e = ⊎_elim (λ z. absurd (nothing xs (sym (told_none b z) ∙ e))) (λ l. l)
      (zero_or_some b.entries)
    where
      nothing : (ys : List BaseLine) → [] ≡ ys ++ x ∷ rest → ⊥
      nothing [] q = cc
      nothing (y ∷ ys) q = cc

  pub based_head : (b : Base) → head_of b ≡ h → 1 ≤ b.entries → h.is_based ≡ true
  based_head b e some = ap (λ (g : Head). g.is_based) (sym e) ∙ some_entries b.entries some

  -- A line of a base may come next where some good base begins so.
  pub record IsNextBased (before : List Line) (x : BaseLine) : Type 0 where
    pub based : h.is_based ≡ true
    pub xs : List BaseLine
    pub lines : before ≡ map Based xs
    pub good : GoodBeginsSo h.header (xs ++ x ∷ [])

  pub next_based : (before : List Line) (x : BaseLine) → SomeBeginsSo h (before ++ Based x ∷ []) →
      IsNextBased before x
  next_based before x (b, es, more, of, e) =
      let s = based_split (lines_told b) b.entries es before more x (at_next before more (Based x) _ e) in
      let some = is_told b s.0 s.1 x s.3 in
      record {
        based = based_head b of.head some;
        xs = s.0;
        lines = s.2;
        good = (
          b,
          s.1,
          good_of b es of some,
          sym (told_some b some) ∙ s.3 ∙ sym (append_assoc s.0 (x ∷ []) s.1),
        );
      }

  head_based : (b : Base) → b.header ≡ h.header → h.is_based ≡ true → 1 ≤ b.entries → head_of b ≡ h
  head_based b header based some =
      ap (λ (z : Bool). record { is_based = z; header = b.header }) (some_entries b.entries some ∙ sym based)
      ∙ ap (λ (k : Header). record { is_based = h.is_based; header = k }) header

  -- a good base alone is a history
  pub base_alone : (b : Base) → h.is_based ≡ true → IsToldBase h.header b → IsHistoryOf h b []
  base_alone b based is =
      record {
        base = (is.header, inr (is.some, is.good));
        head = head_based b is.header based is.some;
        few = omega arith;
        each = tt;
      }

  pub alone_lines : (b : Base) → 1 ≤ b.entries → lines_on b [] ≡ map Based (base_lines b)
  alone_lines b some =
      append-nil (map Based (lines_told b)) ∙ ap (λ (l : List BaseLine). map Based l) (told_some b some)

  pub based_item : (xs : List BaseLine) (x : BaseLine) → h.is_based ≡ true →
      GoodBeginsSo h.header (xs ++ x ∷ []) → SomeBeginsSo h (map Based xs ++ Based x ∷ [])
  based_item xs x based (b, more, is, e) = (
    b,
    [],
    map Based more,
    base_alone b based is,
    alone_lines b is.some ∙ ap (λ (l : List BaseLine). map Based l) e ∙ map-append Based (xs ++ x ∷ []) more
        ∙ ap (λ (l : List Line). l ++ map Based more) (map-append Based xs (x ∷ [])),
  )

  -- lines of a history that are those of a base alone are those of a good one
  pub good_whole : (b : Base) (es : List Entry) (xs : List BaseLine) → h.is_based ≡ true → IsHistoryOf h
      b es →
      lines_on b es ≡ map Based xs → GoodHas h.header xs
  good_whole b es xs based of e =
      let some : 1 ≤ b.entries = ltb-true 0 b.entries (ap (λ (g : Head). g.is_based) of.head ∙ based) in (
        b,
        good_of b es of some,
        sym (told_some b some) ∙ sym (base_lines_again b es) ∙ ap base_lines_in e ∙ based_again xs,
      )

  -- An entry may come next behind the lines of a history that ends before its cap.
  pub record IsNextEntry (before : List Line) (m : ℕ) (e : Entry) : Type 0 where
    pub base : Base
    pub entries : List Entry
    pub of : IsHistoryOf h base entries
    pub lines : before ≡ lines_on base entries
    pub number : m ≡ base.entries + length entries
    pub room : length entries < h.header.cap
    pub line : HasLine h.header e

  pub next_entry : (before : List Line) (m : ℕ) (e : Entry) → SomeBeginsSo h (before ++ Entered m e ∷ []) →
      IsNextEntry before m e
  next_entry before m e (b, es, more, of, q) =
      let s = entry_split (lines_told b) b.entries es before more m e
      (at_next before more (Entered m e) _ q) in
      let all = subst (AllByRecursion (HasLine h.header)) s.all of.each in
      let few : length s.fs < h.header.cap =
      omega (arith, ap length s.all, length-append s.fs (e ∷ s.gs), of.few) in
      record {
        base = b;
        entries = s.fs;
        of = record {
          base = of.base;
          head = of.head;
          few = omega (arith, few);
          each = each_front (HasLine h.header) s.fs (e ∷ s.gs) all;
        };
        lines = s.lines;
        number = s.number;
        room = few;
        line = each_at (HasLine h.header) s.fs e s.gs all;
      }

  pub one_entry : (b : Base) (es : List Entry) (e : Entry) → IsHistoryOf h b es → length es < h.header.cap →
      HasLine h.header e → IsHistoryOf h b (es ++ e ∷ [])
  one_entry b es e of room fits =
      record {
        base = of.base;
        head = of.head;
        few = omega (arith, length-append es (e ∷ []), room);
        each = each-append (HasLine h.header) es (e ∷ []) of.each (fits, tt);
      }

  pub entry_item : (b : Base) (es : List Entry) (e : Entry) → IsHistoryOf h b es → length es < h.header.cap →
      HasLine h.header e → SomeBeginsSo h (lines_on b es ++ Entered (b.entries + length es) e ∷ [])
  entry_item b es e of room fits = (
    b,
    es ++ e ∷ [],
    [],
    one_entry b es e of room fits,
    on_push b es e ∙ sym (append-nil (lines_on b es ++ Entered (b.entries + length es) e ∷ [])),
  )

  -- the lines of a history are those of a text
  items_from : (b : Base) (es : List Entry) (before xs : List Line) → IsHistoryOf h b es →
      lines_on b es ≡ before ++ xs → AreItems history_form h before xs
  items_from b es before [] of e = tt
  items_from b es before (x ∷ xs) of e =
      let next : lines_on b es ≡ (before ++ x ∷ []) ++ xs = e ∙ sym (append_assoc before (x ∷ []) xs) in
      ((b, es, xs, of, next), items_from b es (before ++ x ∷ []) xs of next)

  pub items_of : (b : Base) (es : List Entry) → IsHistoryOf h b es →
      AreItems history_form h [] (lines_on b es)
  items_of b es of = items_from b es [] (lines_on b es) of refl
