use Rattle.std.proofs.Common.{rules, ℕ, ap, sym, ◌∙◌, List, ◌∷◌, Some}
use Rattle.std.specs.declared.option.Option.{Option as Maybe}
use Rattle.atomic_table.specs.Table.{Me, rest}
use Rattle.word_lock.specs.declared.view.View.{View}
use Rattle.word_lock.proofs.Exchanging.{exchanges}
use Rattle.word_lock.proofs.lock.WordLock.take_value.Goals as goal

pub compare_exchange-found-requires : goal.compare_exchange-found-requires
compare_exchange-found-requires g c = let t = g.T.Chronicle in (
  search rules,
  search rules,
  exchanges t.point t.fact t.sound _ _ _ _ c.requires.idle.1.1,
)

pub exchange-requires : goal.exchange-requires
exchange-requires g c = let won = c.compare_exchange-found.ensures.2.0 c.if-is_taken.false in
    let M : Type 0 = Me (Maybe g.row.T.Denot) View in
    let carries = ap (λ (m : M). m.1) won.1 in (
      search rules,
      (
        Some won.0,
        carries
            ∙ ap (λ (l : List (ℕ × Maybe g.row.T.Denot)). (0, Some won.0) ∷ l) (sym (ap rest carries)),
      ),
    )
