use Rattle.std.proofs.Common.{◌≡◌, ℕ, ◌+◌, ◌<◌, List, Option, Some, reverse, get_or, refl, subst, ◌∙◌, arith, below_more, rules}
use Rattle.std.specs.List.{slice_get}
use Rattle.std.proofs.lemmas.List.{length-reverse}
use Rattle.std.proofs.lemmas.Option.{same_Some, slice_get-get_or}
use Rattle.history_text.specs.Below.{Entry, Header, Base, or_opening}
use Rattle.history_text.specs.Prelude.{HasLine, HasBaseText}
use Rattle.history_text.proofs.fitting.fits.Goals as goal

one_more : (h : Header) (xs : List Entry) (n : ℕ) (x : Entry) →
    ((k : ℕ) (e : Entry) → k < n → slice_get xs k ≡ Some e → HasLine h e) → Some x ≡ slice_get xs n →
    HasLine h x
    → (k : ℕ) (e : Entry) → k < n + 1 → slice_get xs k ≡ Some e → HasLine h e
one_more h xs n x before at fits k e lt q =
    let P : ℕ → Type 0 = λ k. (e : Entry) → slice_get xs k ≡ Some e → HasLine h e in
    below_more P n (λ k lt e q. before k e lt q) (λ e q. subst (HasLine h) (same_Some x e (at ∙ q)) fits) k lt
    e q

pub loop-number-preserved : goal.loop-number-preserved
loop-number-preserved c = one_more c.args.header.now (reverse c.args.history.now.entries)
    c.loop-number.number c.in-Some.entry c.loop-number.invariant c.in-Some.ensures
    (c.if-not-has_line.ensures.0 refl)

pub returns : goal.returns
returns c =
    let xs = reverse c.args.history.now.entries in (
      (λ t. record {
        cap = omega (arith, c.cap.ensures, c.if-cap-header.false);
        base = subst (λ (o : Option Base). HasBaseText c.args.header.now (or_opening c.args.header.now o))
            c.base.ensures (c.if-not-has_base_text.ensures.0 refl);
        each = λ k d lt. c.loop-number.invariant k (get_or xs k d)
            (omega (
              arith,
              lt,
              c.loop-number-test.false,
              c.len-number-end.ensures.value,
              length-reverse c.args.history.now.entries,
            )) (slice_get-get_or xs k d lt);
      }),
      (λ f. refl),
    )

pub loop-number-init : goal.loop-number-init
loop-number-init c = search rules
