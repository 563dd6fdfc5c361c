use Rattle.std.proofs.Common.{arith, ℕ, List, [], ◌≡◌, ◌+◌, ◌*◌, ◌<◌, ◌++◌, suc, length, set, ap, subst, sym, ◌∙◌, vec_capacity}
use Rattle.history.specs.declared.entry.Entry.{Entry}
use Rattle.history.specs.inner.Paged.{AreKept, in_pages, used}
use Rattle.history.proofs.Paging.{at_hand, entries_turn, hand_small, kept_full, kept_turn, length-used, next_empty, next_within, used_next}
use Rattle.history.proofs.pages.find_place.Goals as goal

-- the room of the pages, by those that count
fits : (n : ℕ) (others : List (List Entry)) (hand : List Entry) (room : ℕ) →
    length (in_pages (used n others) ++ hand) < 1024 * length others + room →
    length (in_pages (used n others) ++ hand) < 1024 * length (used n others) + room
fits n others hand room l = let same = length-used n others in omega (arith, l, same)

-- the pages once the full one is put back
turned : (n : ℕ) (others : List (List Entry)) (hand : List Entry) → n < length (used n others) →
    used (n + 1) (set others n hand) ≡ set (used n others) n hand
turned n others hand l =
    let same = length-used n others in
    let more : n + 1 ≡ suc n = omega arith in
    ap (λ m. used m (set others n hand)) more ∙ used_next n others hand (omega (arith, l, same))

pub returns-then-len-lt-PLACES-clause-place : goal.returns-then-len-lt-PLACES-clause-place
returns-then-len-lt-PLACES-clause-place c =
    let n = c.args.full.now in
    let ps = c.args.others.now.items in
    let h = c.args.hand.now in
    let page = at_hand (used n ps) n h.items (vec_capacity h) c.requires.kept
    (fits n ps h.items (vec_capacity h) c.requires.place) in
    let short = c.if-len-lt-PLACES.true in
    omega (arith, page, short, c.len.ensures, h.ok.0)

pub turn_page-requires-clause-next : goal.turn_page-requires-clause-next
turn_page-requires-clause-next c =
    let n = c.args.full.now in
    let ps = c.args.others.now.items in
    let h = c.args.hand.now in
    let small = hand_small (used n ps) n h.items (vec_capacity h) c.requires.kept in
    let past = c.if-len-lt-PLACES.false in
    let same = length-used n ps in
    let within = next_within (used n ps) n h.items (vec_capacity h) c.requires.kept
    (omega (arith, small, past, c.len.ensures, h.ok.0)) (fits n ps h.items (vec_capacity h) c.requires.place) in
    omega (arith, within, same)

pub turn_page-requires-clause-capacity : goal.turn_page-requires-clause-capacity
turn_page-requires-clause-capacity c =
    let n = c.args.full.now in
    let ps = c.args.others.now.items in
    let h = c.args.hand.now in
    at_hand (used n ps) n h.items (vec_capacity h) c.requires.kept
    (fits n ps h.items (vec_capacity h) c.requires.place)

pub overflow_add-full : goal.overflow_add-full
overflow_add-full c =
    let n = c.args.full.now in
    let ps = c.args.others.now.items in
    let k = c.requires.kept in
    let few = k.few in
    let h = c.args.hand.now in
    let full = kept_full (used n ps) n h.items (vec_capacity h) k in
    omega (arith, few, full)

pub returns-clause-kept : goal.returns-clause-kept
returns-clause-kept c =
    let n = c.args.full.now in
    let ps = c.args.others.now.items in
    let h = c.args.hand.now in
    let k = c.requires.kept in
    let small = hand_small (used n ps) n h.items (vec_capacity h) k in
    let past = c.if-len-lt-PLACES.false in
    let all : length h.items ≡ 1024 = omega (arith, small, past, c.len.ensures, h.ok.0) in
    let room = fits n ps h.items (vec_capacity h) c.requires.place in
    let page = at_hand (used n ps) n h.items (vec_capacity h) k room in
    let within = next_within (used n ps) n h.items (vec_capacity h) k all room in
    let now = ap (used (n + 1)) c.turn_page.ensures.others ∙ turned n ps h.items within in
    subst (λ qs. AreKept qs (n + 1) c.turn_page.new.hand.items (vec_capacity c.turn_page.new.hand)) (sym now)
    (subst (AreKept (set (used n ps) n h.items) (n + 1) c.turn_page.new.hand.items)
    (sym c.turn_page.ensures.capacity)
    (kept_turn (used n ps) n h.items (vec_capacity h) k c.turn_page.new.hand.items all within page
    (c.turn_page.ensures.hand ∙ sym (next_empty n (used n ps) k.full_first))))

pub returns-clause-entries : goal.returns-clause-entries
returns-clause-entries c =
    let n = c.args.full.now in
    let ps = c.args.others.now.items in
    let h = c.args.hand.now in
    let k = c.requires.kept in
    let small = hand_small (used n ps) n h.items (vec_capacity h) k in
    let past = c.if-len-lt-PLACES.false in
    let all : length h.items ≡ 1024 = omega (arith, small, past, c.len.ensures, h.ok.0) in
    let room = fits n ps h.items (vec_capacity h) c.requires.place in
    let within = next_within (used n ps) n h.items (vec_capacity h) k all room in
    let now = ap (used (n + 1)) c.turn_page.ensures.others ∙ turned n ps h.items within in
    ap (λ qs. in_pages qs ++ c.turn_page.new.hand.items) now
    ∙ entries_turn (used n ps) n h.items (vec_capacity h) k c.turn_page.new.hand.items within
    (c.turn_page.ensures.hand ∙ sym (next_empty n (used n ps) k.full_first))

pub returns-clause-place : goal.returns-clause-place
returns-clause-place c =
    let none = ap length c.turn_page.ensures.hand in
    omega (arith, none, c.turn_page.ensures.capacity)
