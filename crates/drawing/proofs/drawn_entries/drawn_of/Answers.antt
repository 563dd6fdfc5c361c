use Rattle.std.proofs.Common.{◌≡◌, ◌+◌, ◌<◌, ℕ, List, [], ◌∷◌, ◌++◌, length, get_or, reverse, take, drop, ap, ◌∙◌, sym, subst, arith, length-take-le, take_all, take-append-drop}
use Rattle.std.proofs.lemmas.List.{length-reverse, reverse-append, take_more}
use Rattle.std.proofs.lemmas.Result.{IfOk-weaker}
use Rattle.history.proofs.Lists.{reverse_push}
use Rattle.history.specs.Legal.{AreSeated}
use Rattle.drawing.specs.Below.{Entry, IsLegal, Start, based}
use Rattle.drawing.specs.Drawing.{HasDrawn}
use Rattle.drawing.proofs.drawn_entries.drawn_of.Goals as goal

-- the entries up to the next, the newest first
one_more : (xs : List Entry) (i : ℕ) (d : Entry) → i < length xs →
    reverse (take (i + 1) xs) ≡ get_or xs i d ∷ reverse (take i xs)
one_more xs i d l = ap reverse (take_more xs i d l) ∙ reverse_push (take i xs) (get_or xs i d)

-- they are legal, and of seats of the object
abbrev IsFine : Start → List Entry → Type 0
IsFine s h = IsLegal s h × AreSeated s h

behind : (s : Start) (g h : List Entry) → IsFine s (g ++ h) → IsFine s h
behind s [] h fine = fine
behind s (e ∷ g) h fine = behind s g h (fine.0.1, fine.1.1)

next_fine : (s : Start) (xs : List Entry) (i : ℕ) (d : Entry) → i < length xs → IsFine s (reverse xs) →
    IsFine s (get_or xs i d ∷ reverse (take i xs))
next_fine s xs i d l fine =
    let rest = reverse (drop (i + 1) xs) in
    let whole : reverse xs ≡ rest ++ get_or xs i d ∷ reverse (take i xs) =
    ap reverse (sym (take-append-drop (i + 1) xs)) ∙ reverse-append (take (i + 1) xs) (drop (i + 1) xs)
    ∙ ap (λ ys. rest ++ ys) (one_more xs i d l) in
    behind s rest (get_or xs i d ∷ reverse (take i xs)) (subst (IsFine s) whole fine)

pub follow-requires : goal.follow-requires
follow-requires c =
    let xs = c.args.entries.now in
    let i = c.loop-entry.entry-index in
    let within : i < length xs = c.loop-entry-test.true in
    let fine : IsFine (based c.args.base.now) (reverse xs) = (c.requires.can.legal, c.requires.can.seated) in
    let long = length-reverse (take i xs) in
    let some = length-take-le i xs (omega (arith, within)) in
    record {
      start = based c.args.base.now;
      from = c.args.from;
      entries = reverse (take i xs);
      drawn = c.loop-entry.invariant;
      seat = (next_fine (based c.args.base.now) xs i _ within fine).1.0;
      next = (next_fine (based c.args.base.now) xs i _ within fine).0.0;
      room = omega (arith, long, some, within, c.requires.few);
    }

pub loop-entry-preserved : goal.loop-entry-preserved
loop-entry-preserved c =
    let xs = c.args.entries.now in
    let i = c.loop-entry.entry-index in
    let within : i < length xs = c.loop-entry-test.true in
    let fine : IsFine (based c.args.base.now) (reverse xs) = (c.requires.can.legal, c.requires.can.seated) in
    subst (λ h. HasDrawn (based c.args.base.now) c.args.from h c.follow.new.self)
    (sym (one_more xs i _ within))
    (c.in_ok-follow.ensures (based c.args.base.now) c.args.from (reverse (take i xs)) c.loop-entry.invariant
    (next_fine (based c.args.base.now) xs i _ within fine).1.0
    (next_fine (based c.args.base.now) xs i _ within fine).0.0)

-- all entries were followed
all_drawn : (c : goal.After-finish) → HasDrawn (based c.args.base.now) c.args.from
    (reverse c.args.entries.now)
    c.loop-entry.drawing
all_drawn c =
    let xs = c.args.entries.now in
    let i = c.loop-entry.entry-index in
    subst (λ h. HasDrawn (based c.args.base.now) c.args.from (reverse h) c.loop-entry.drawing)
    (take_all i xs (omega (arith, c.loop-entry-test.false))) c.loop-entry.invariant

pub returns-clause-bars : goal.returns-clause-bars
returns-clause-bars c =
    IfOk-weaker c.finish.result _ _ (λ drawn is. is (based c.args.base.now) c.args.from
    (reverse c.args.entries.now) (all_drawn c))
    c.finish.ensures.bars

pub returns-clause-marks : goal.returns-clause-marks
returns-clause-marks c =
    IfOk-weaker c.finish.result _ _ (λ drawn is. is (based c.args.base.now) c.args.from
    (reverse c.args.entries.now) (all_drawn c))
    c.finish.ensures.marks

pub returns-clause-curve : goal.returns-clause-curve
returns-clause-curve c =
    IfOk-weaker c.finish.result _ _ (λ drawn is. is (based c.args.base.now) c.args.from
    (reverse c.args.entries.now) (all_drawn c))
    c.finish.ensures.curve
