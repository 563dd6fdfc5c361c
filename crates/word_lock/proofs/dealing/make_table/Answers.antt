use Rattle.std.proofs.Common.{rules, ◌≡◌, ap, sym, subst, List, [], ◌∷◌, Some}
use Rattle.std.specs.declared.option.Option.{Option as Maybe}
use Rattle.atomic_table.specs.Table.{opening}
use Rattle.history.specs.declared.point.Point.{Point}
use Rattle.word_lock.specs.Prelude.{Agrees, RuleHolds, first_view}
use Rattle.word_lock.proofs.Opening.{opens}
use Rattle.word_lock.proofs.dealing.make_table.Goals as goal

pub new-requires : goal.new-requires
new-requires g c = let t = g.T.Chronicle in
    let start : Point = t.point c.of.result.value in
    let shows : start ≡ t.point c.args.value = ap t.point c.of.ensures in
    let items : c.push_reserved.new.self.items ≡ Some c.args.value ∷ [] = search rules in
    subst (λ (l : List (Maybe g.row.T.Denot)). RuleHolds t.point t.fact t.sound start
    (opening (0 ∷ []) l (first_view start c.args.seats))) (sym items)
    (opens t.point t.fact t.sound t.is_sound start c.args.value c.args.seats c.requires.fact shows
    (λ seat. subst (λ (p : Point). Agrees p seat []) (sym shows) (c.requires.empty seat)))
