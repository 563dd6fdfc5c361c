use Rattle.std.proofs.Common.{◌≡◌, length, rules, sym, ap, ◌∙◌}
use Rattle.aqs_c.proofs.Placing.{opened_count}
use Rattle.aqs_c.proofs.opening.open_places.Goals as goal

pub swap_with_slice-requires : goal.swap_with_slice-requires
swap_with_slice-requires c =
    let places : length c.args.places.now ≡ c.in-Some.header.seats = search rules in
    let passes : length c.in-Ok.passes.items ≡ c.in-Some.header.seats =
    opened_count c.in-Some.header c.in-Ok.passes.items c.in-Ok.ensures.opened in
    places ∙ (sym passes ∙ ap length (sym c.deref_mut.ensures.value))
