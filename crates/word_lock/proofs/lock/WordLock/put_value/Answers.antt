use Rattle.std.proofs.Common.{rules, ◌≡◌, ℕ, sym, ap, ◌∙◌, subst, refl, List, ◌∷◌, [], Some}
use mathlib.Core.Option.{none}
use Rattle.std.specs.declared.option.Option.{Option as Maybe}
use Rattle.atomic_table.specs.Table.{Me, step, Allows, rest}
use Rattle.word_lock.specs.Prelude.{View, RuleHolds, TellsGive}
use Rattle.word_lock.proofs.PointLaws.{before_header, follows_before}
use Rattle.word_lock.proofs.Storing.{gives_back}
use Rattle.word_lock.proofs.Tokens.{one_log}
use Rattle.word_lock.proofs.lock.WordLock.put_value.Goals as goal

pub store-requires : goal.store-requires
store-requires g c =
    let t = g.T.Chronicle in let table = c.self.inside.table.shared in let seat = c.exchange.new.seat in
    let old = c.args.seat.now in
    let M : Type 0 = Me (Maybe g.row.T.Denot) View in
    let holds = c.requires.holds in
    let is : seat.me ≡ (old.me.0, (0, Some c.args.value) ∷ []) =
    c.exchange.ensures.3
    ∙ ap (λ (l : List (ℕ × Maybe g.row.T.Denot)). (old.me.0, (0, Some c.args.value) ∷ rest l)) holds.0 in (
      search rules,
      search rules,
      subst (λ (z : M). Allows (RuleHolds t.point t.fact t.sound (t.point table.key.value.value))
          table.table_id.slots seat.id z 0 (λ _. 0)
          (λ _. TellsGive t.point (step table.table_id.slots 0 0 0 none) z 0)) (sym is)
          (gives_back t.point t.fact t.sound t.is_sound _ _ _ (old.me.0, (0, Some c.args.value) ∷ []) _
          c.args.value holds.2 holds.1
          (one_log old.me.0.logs c.requires.one) refl c.requires.fact c.requires.follows),
    )

pub returns-clause-header : goal.returns-clause-header
returns-clause-header g c = sym (before_header _ _ (follows_before _ _ _ c.requires.follows))
