use Rattle.std.proofs.Common.{◌≡◌, ℕ, List, [], map, length, sym, subst, ap, ◌∙◌, rules}
use Rattle.std.proofs.lemmas.List.{length-map}
use Rattle.serde_json.specs.View.{view}
use Rattle.script.specs.Prelude.{IsName, Says, Say, SaysObject, SaysWorker, named, ScriptView}
use Rattle.script.proofs.SayingLemmas.{said_all}
use Rattle.script.proofs.Scripts.{is_script}
use Rattle.script.proofs.reading.read_script.Goals as goal

pub workers_of-requires-clause-names : goal.workers_of-requires-clause-names
workers_of-requires-clause-names c =
    said_all (SaysObject _) (λ o. IsName o.0) (λ before v o says. says.good.name) _ (named
    c.in_ok-objects.objects.entries)
    c.in_ok-objects.ensures.ok

pub of_good-requires : goal.of_good-requires
of_good-requires c =
    let threads = c.in-Some.top.threads.now in
    let objects = named c.in_ok-objects.objects.entries in
    let workers = c.in_ok-workers.workers.items in
    let same : length threads ≡ length (map view threads) = sym (length-map threads view) in
    is_script (view c.in_ok-value.value) (record { objects = objects; workers = workers })
    (record {
      objects = map view c.in-Some.top.objects.now;
      threads = map view threads;
      top = c.in-Some.ensures.found;
      each_object = subst (λ (n : ℕ). Say (SaysObject n) [] (map view c.in-Some.top.objects.now) objects) same
          c.in_ok-objects.ensures.ok;
      each_worker = subst (λ (n : ℕ). Say (SaysWorker objects n) [] (map view threads) workers) same
          c.in_ok-workers.ensures.ok;
    })
