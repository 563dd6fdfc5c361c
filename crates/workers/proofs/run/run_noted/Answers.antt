use Rattle.std.proofs.Common.{rules, ◌≡◌, [], length, ap, replicate, sym, subst, arith, ◌∙◌, Err, IfErr}
use Rattle.std.proofs.lemmas.List.{length-replicate}
use Rattle.workers.specs.Prelude.{IsFaultOfRun, AreParts, IsSound, dealt_all, opening_rows}
use Rattle.workers.specs.inner.Homes.{HaveColumns}
use Rattle.workers.specs.inner.Results.{passes_left}
use Rattle.workers.proofs.Columns.{all_columns, each_part, part_sound, rows_count, rows_fit}
use Rattle.workers.proofs.Keeping.{listed_is}
use Rattle.workers.proofs.AllWorkers.{all_own, all_places, all_seats, ran}
use Rattle.workers.proofs.Working.{AllWorked, all_let, all_made, fault_of_run}
use Rattle.workers.proofs.run.run_noted.Goals as goal

pub run_all-requires-clause-own : goal.run_all-requires-clause-own
run_all-requires-clause-own g c κs within =
    all_own c.in_ok-objects.objects.items c.in_ok-objects.rows.items (length c.args.script.now.workers)
    c.in_ok-objects.ensures.rows

pub run_all-requires-clause-places : goal.run_all-requires-clause-places
run_all-requires-clause-places g c κs within =
    let as_many : c.in-Ok.parking ≡ length c.args.script.now.workers = search rules in
    all_places c.args.script.now c.in_ok-objects.objects.items c.in-Ok.parking as_many
    c.in_ok-objects.ensures.headers c.workers-workers.ensures.limits

pub run_all-requires-clause-all : goal.run_all-requires-clause-all
run_all-requires-clause-all g c =
    let fits = c.in_ok-objects.rows.ok.0 in
    let opened = ap length c.in_ok-objects.ensures.rows in
    let count = rows_count c.in_ok-objects.objects.items 0 (length c.args.script.now.workers) in
    let same = ap length c.workers-workers.ensures.value in
    omega (arith, fits, opened, count, same)

pub settle-requires-clause-rows : goal.settle-requires-clause-rows
settle-requires-clause-rows g c =
    let answers = g.G.Gate.answers c.args.gate.now in
    let s = c.args.script.now in
    let objects = c.in_ok-objects.objects.items in
    let dones = c.in_ok-worked.worked.items in
    let all = c.in_ok-worked.ensures.worked.0 in
    let fits = c.in_ok-worked.worked.ok.0 in
    let worked = ran answers s c.workers-workers.result.now objects c.in_ok-objects.rows.items dones
    c.workers-workers.ensures.value c.in_ok-objects.ensures.rows (omega (arith, all, fits))
    c.in_ok-worked.ensures.worked.1 in
    let made = ap length c.in_ok-columns.ensures ∙ length-replicate c.len.result [] in
    let len = c.len.ensures in
    let many = c.in_ok-objects.objects.ok.0 in
    rows_fit answers s.workers objects 0 (length s.workers) (length c.in_ok-columns.columns.items) dones
    (omega (arith, made, len, many)) worked

pub returns-in_err-kept-clause-fault : goal.returns-in_err-kept-clause-fault
returns-in_err-kept-clause-fault g c =
    let answers = g.G.Gate.answers c.args.gate.now in
    let s = c.args.script.now in
    let objects = c.in_ok-objects.objects.items in
    let dones = c.in_ok-worked.worked.items in
    let all = c.in_ok-worked.ensures.worked.0 in
    let fits = c.in_ok-worked.worked.ok.0 in
    let worked = ran answers s c.workers-workers.result.now objects c.in_ok-objects.rows.items dones
    c.workers-workers.ensures.value c.in_ok-objects.ensures.rows (omega (arith, all, fits))
    c.in_ok-worked.ensures.worked.1 in
    let fault = fault_of_run answers s.workers (opening_rows objects 0 (length s.workers)) dones
    c.in_err-kept.field-0.0 worked c.in_err-kept.ensures.fault in
    let same : c.from_residual-in_err-kept.result ≡ Err c.in_err-kept.field-0.0 = search rules in
    subst (λ z. IfErr z (IsFaultOfRun answers s.workers)) (sym same) fault

pub close_all-requires : goal.close_all-requires
close_all-requires g c =
    let answers = g.G.Gate.answers c.args.gate.now in
    let s = c.args.script.now in
    let objects = c.in_ok-objects.objects.items in
    let dones = c.in_ok-worked.worked.items in
    let all = c.in_ok-worked.ensures.worked.0 in
    let fits = c.in_ok-worked.worked.ok.0 in
    let worked = ran answers s c.workers-workers.result.now objects c.in_ok-objects.rows.items dones
    c.workers-workers.ensures.value c.in_ok-objects.ensures.rows (omega (arith, all, fits))
    c.in_ok-worked.ensures.worked.1 in
    let len = c.len.ensures in
    let many = c.in_ok-objects.objects.ok.0 in
    let len_is : c.len.result ≡ length objects = omega (arith, len, many) in
    let left = c.in_ok-kept.ensures.columns
    ∙ ap (dealt_all (passes_left dones)) (c.in_ok-columns.ensures ∙ ap (λ n. replicate n []) len_is) in
    subst (HaveColumns objects) (sym left)
    (all_columns answers s.workers objects (length s.workers) dones
    (all_seats s objects c.in_ok-objects.ensures.headers c.workers-workers.ensures.limits) worked)

-- all workers, as they were opened
worked : (g : _) (c : goal.After-drop-shared-4 g) →
    AllWorked (g.G.Gate.answers c.args.gate.now) 0 c.args.script.now.workers
    (opening_rows c.in_ok-objects.objects.items 0 (length c.args.script.now.workers))
    c.in_ok-worked.worked.items
worked g c =
    let all = c.in_ok-worked.ensures.worked.0 in
    let fits = c.in_ok-worked.worked.ok.0 in
    ran (g.G.Gate.answers c.args.gate.now) c.args.script.now c.workers-workers.result.now
    c.in_ok-objects.objects.items c.in_ok-objects.rows.items c.in_ok-worked.worked.items
    c.workers-workers.ensures.value c.in_ok-objects.ensures.rows (omega (arith, all, fits))
    c.in_ok-worked.ensures.worked.1

pub returns-clause-report : goal.returns-clause-report
returns-clause-report g c =
    let s = c.args.script.now in
    let objects = c.in_ok-objects.objects.items in
    let dones = c.in_ok-worked.worked.items in
    let len = c.len.ensures in
    let many = c.in_ok-objects.objects.ok.0 in
    let len_is : c.len.result ≡ length objects = omega (arith, len, many) in
    let left = c.in_ok-kept.ensures.columns
    ∙ ap (dealt_all (passes_left dones)) (c.in_ok-columns.ensures ∙ ap (λ n. replicate n []) len_is) in
    let all = all_made (g.G.Gate.answers c.args.gate.now) 0 s.workers
    (opening_rows objects 0 (length s.workers)) dones (worked g c) c.in_ok-kept.ensures.ended in
    let kept = c.in_ok-kept.ensures.kept all.0 all.1.0 in
    record {
      locks = objects;
      headers = c.in_ok-objects.ensures.headers;
      rows = passes_left dones;
      answers = all.0;
      made = all.1.1;
      unrecorded = kept.0;
      listed = listed_is _ _ c.in_ok-listed.listed kept.1 c.in_ok-listed.ensures.list;
      parts =
          subst (λ z. AreParts objects z c.in_ok-objects-2.objects.items) left
          c.in_ok-objects-2.ensures.parts;
    }

pub returns-clause-sound : goal.returns-clause-sound
returns-clause-sound g c =
    each_part IsSound part_sound c.in_ok-objects.objects.items c.settle.new.columns.items
    c.in_ok-objects-2.objects.items c.in_ok-objects-2.ensures.parts

pub returns-clause-asked : goal.returns-clause-asked
returns-clause-asked g c =
    let s = c.args.script.now in
    all_let (g.G.Gate.answers c.args.gate.now) 0 s.workers
    (opening_rows c.in_ok-objects.objects.items 0 (length s.workers)) c.in_ok-worked.worked.items
    (worked g c) c.in_ok-kept.ensures.ended
