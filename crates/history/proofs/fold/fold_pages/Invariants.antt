use Rattle.std.proofs.Common.{◌≡◌, reverse, take}
use Rattle.history.specs.Base.{folded}
use Rattle.history.specs.inner.Paged.{in_pages}
use Rattle.history.proofs.fold.fold_pages.Given as goal

abbrev pub invariant-loop-page : goal.invariant-loop-page
invariant-loop-page l = l.base ≡ folded l.initial.base (reverse (in_pages (take l.page-index l.pages)))
