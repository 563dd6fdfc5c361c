use Rattle.std.proofs.Common.{◌≡◌, ◌∙◌, List, [], ◌∷◌, length, true, Ok, Err, arith, inl, inr, refl, sym, ap, subst}
use Rattle.guarded.specs.Prelude.{CallReturns, gives_back}
use Rattle.guarded.proofs.Shelving.{in_one}
use Rattle.guarded.proofs.pool.Pool.release_one.Goals as goal

pub returns-in-Err-clause-called : goal.returns-in-Err-clause-called
returns-in-Err-clause-called g c = inr refl

pub returns-in-Ok-release-clause-called : goal.returns-in-Ok-release-clause-called
returns-in-Ok-release-clause-called g c = inl c.release.ensures.called

pub returns-in-Err-release-clause-called : goal.returns-in-Err-release-clause-called
returns-in-Err-release-clause-called g c = inl c.release.ensures.called

pub returns-in-Err-clause-returned : goal.returns-in-Err-clause-returned
returns-in-Err-clause-returned g c = inr (refl, refl)

pub release-requires-clause-few : goal.release-requires-clause-few
release-requires-clause-few g c =
    let one : length c.in-Ok.items ≡ 1 = ap length c.in-Ok.ensures.ok in omega (arith, one)

pub release-requires-clause-kept : goal.release-requires-clause-kept
release-requires-clause-kept g c =
    in_one g.I.Keeps.invariant c.in-Ok.items c.args.item c.in-Ok.ensures.ok c.requires.kept

pub returns-in-Ok-release-clause-returned : goal.returns-in-Ok-release-clause-returned
returns-in-Ok-release-clause-returned g c =
    inl (subst (λ (l : List _). CallReturns c.args.self.now.when_full
    (gives_back (g.P.Parking.did c.args.parking.now) (length l)) c.args.pass.now c.release.new.pass (Ok true))
    c.in-Ok.ensures.ok c.in-Ok-release.ensures.returned)

pub only-requires-clause-one : goal.only-requires-clause-one
only-requires-clause-one g c = ap length (c.in-Err-release.ensures.back ∙ c.in-Ok.ensures.ok)

pub only-requires-clause-kept : goal.only-requires-clause-kept
only-requires-clause-kept g c =
    in_one g.I.Keeps.invariant c.in-Err-release.items c.args.item
    (c.in-Err-release.ensures.back ∙ c.in-Ok.ensures.ok) c.requires.kept

pub returns-in-Err-release-clause-back : goal.returns-in-Err-release-clause-back
returns-in-Err-release-clause-back g c =
    let q : c.only.result ∷ [] ≡ c.args.item ∷ [] =
    sym c.only.ensures.is ∙ (c.in-Err-release.ensures.back ∙ c.in-Ok.ensures.ok) in
    cc

pub returns-in-Err-release-clause-returned : goal.returns-in-Err-release-clause-returned
returns-in-Err-release-clause-returned g c =
    inl (subst (λ (l : List _). CallReturns c.args.self.now.when_full
    (gives_back (g.P.Parking.did c.args.parking.now) (length l)) c.args.pass.now c.release.new.pass
    (Err c.in-Err-release.fault)) c.in-Ok.ensures.ok c.in-Err-release.ensures.returned)
