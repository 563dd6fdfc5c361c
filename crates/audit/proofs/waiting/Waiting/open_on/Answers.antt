use Rattle.std.proofs.Common.{◌∙◌, ap, length, map, arith}
use Rattle.audit.specs.Below.{LinePlace, Header, Base, sleep_below, sleep_of}
use Rattle.audit.specs.inner.Waiting.{or_kept}
use Rattle.audit.proofs.WaitingOnBase.{all_seated, are_sleepers, kept_behind, line_once, line_seated, line_short, stands_on}
use Rattle.audit.proofs.waiting.Waiting.open_on.Goals as goal

pub stand_in-requires-clause-joined : goal.stand_in-requires-clause-joined
stand_in-requires-clause-joined c = c.in_ok-line.ensures.nobody.joined

pub stand_in-requires-clause-seats : goal.stand_in-requires-clause-seats
stand_in-requires-clause-seats c =
    let header = ap (λ (x : Base). x.header) c.base.view_is in
    line_seated c.args.base.now c.requires.good _
    (c.deref.ensures.value ∙ ap (λ (x : Base). x.line) c.base.view_is) _
    (c.in_ok-line.ensures.nobody.places ∙ ap (λ (k : Header). k.seats) header)

pub stand_in-requires-clause-once : goal.stand_in-requires-clause-once
stand_in-requires-clause-once c =
    line_once c.args.base.now c.requires.good _
    (c.deref.ensures.value ∙ ap (λ (x : Base). x.line) c.base.view_is)

pub stand_in-requires-clause-few : goal.stand_in-requires-clause-few
stand_in-requires-clause-few c =
    let short = line_short c.args.base.now c.requires.good _
    (c.deref.ensures.value ∙ ap (λ (x : Base). x.line) c.base.view_is) c.requires.range in
    omega (arith, short)

pub lay_down-requires-clause-sleepers : goal.lay_down-requires-clause-sleepers
lay_down-requires-clause-sleepers c =
    let header = ap (λ (x : Base). x.header) c.base.view_is in
    are_sleepers c.args.base.now c.requires.good _
    (c.in_ok-line.ensures.nobody.beds ∙ ap (λ (k : Header). k.seats) header)

pub save_sleepers-requires : goal.save_sleepers-requires
save_sleepers-requires c =
    let header = ap (λ (x : Base). x.header) c.base.view_is in
    all_seated c.args.base.now c.requires.good _
    (c.in_ok-line.ensures.nobody.seats ∙ ap (λ (k : Header). k.seats) header)

pub save_returning-requires : goal.save_returning-requires
save_returning-requires c =
    let header = ap (λ (x : Base). x.header) c.base.view_is in
    line_seated c.args.base.now c.requires.good _
    (c.deref-2.ensures.value ∙ ap (λ (x : Base). x.line) c.base.view_is) _
    (c.save_sleepers.ensures.seats ∙ c.in_ok-line.ensures.nobody.seats ∙ ap (λ (k : Header). k.seats) header)

pub returns-clause-stand : goal.returns-clause-stand
returns-clause-stand c =
    let b = c.args.base.now in
    let none = c.in_ok-line.ensures.nobody in
    let header = ap (λ (x : Base). x.header) c.base.view_is in
    let seats = ap (λ (k : Header). k.seats) header in
    let conditions = ap (λ (k : Header). k.conditions) header in
    let line = c.deref.ensures.value ∙ ap (λ (x : Base). x.line) c.base.view_is in
    let again = c.deref-2.ensures.value ∙ ap (λ (x : Base). x.line) c.base.view_is in
    let laid = c.lay_down.ensures in
    stands_on b c.requires.good c.requires.range _
    (c.stand_in.ensures.line ∙ ap (map (λ (p : LinePlace). p.who)) line)
    (c.stand_in.ensures.joined ∙ ap length line)
    (c.stand_in.ensures.seats ∙ none.places ∙ seats)
    laid.lists laid.above
    (laid.conditions ∙ none.conditions ∙ conditions) (laid.seats ∙ none.beds ∙ seats)
    (c.save_returning.ensures.seats ∙ c.save_sleepers.ensures.seats ∙ none.seats ∙ seats)
    (λ i. c.save_returning.ensures.slept i ∙ kept_behind i _ b.line _ _ again
    (c.save_sleepers.ensures.slept i
    ∙ ap (or_kept (sleep_below b.header.conditions b i)) (ap sleep_of (none.slept i))))
