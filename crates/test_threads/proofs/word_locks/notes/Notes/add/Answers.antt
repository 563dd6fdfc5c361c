use Rattle.std.proofs.Common.{ap, sym, ◌∙◌, subst, refl, List, [], ◌∷◌, reverse}
use Rattle.std.proofs.lemmas.List.{reverse-append}
use Rattle.history.specs.declared.entry.Entry.{Entry}
use Rattle.history.specs.declared.point.Point.{Point}
use Rattle.word_lock.specs.Point.{Follows}
use Rattle.history.specs.Base.{opening_base}
use Rattle.word_lock.proofs.PointLaws.{follows_same, follows_push}
use Rattle.test_threads.proofs.word_locks.notes.Notes.add.Goals as goal

pub returns : goal.returns
returns c =
    follows_push c.args.entry.seat _ _ c.args.entry refl refl (ap reverse c.in_ok-push.ensures.items
    ∙ reverse-append c.args.self.now.list.items (c.args.entry ∷ []))

pub returns-in_err-push : goal.returns-in_err-push
returns-in_err-push c = let old = c.args.self.now in
    let p : Point = record { base = opening_base old.header; entries = reverse old.list.items } in
    subst (λ (l : List Entry). Follows c.args.entry.seat p (record { base = p.base; entries = reverse l }))
    (sym c.in_err-push.ensures.items) (follows_same c.args.entry.seat p)
