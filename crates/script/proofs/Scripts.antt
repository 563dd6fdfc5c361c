-- What a value says meets the limits of a script, and a fault of a thread is one of its list.
use Rattle.std.proofs.Common.{◌≡◌, ℕ, List, [], Some, All, length, map, take, slice_get, sym, subst, arith, Result, Ok, Err}
use Rattle.std.proofs.lemmas.Bool.{false≢true}
use Rattle.std.proofs.lemmas.Option.{slice_get_within}
use Rattle.std.specs.Result.{IsErr, IsErrAnd, IfErr}
use Rattle.serde_json.specs.Data.{Data}
use Rattle.serde_json.specs.View.{view}
use Rattle.serde_json.specs.declared.value.Value.{Value}
use Rattle.script.specs.inner.ThreadFaults.{IsThreadFault}
use Rattle.script.specs.Prelude.{Says, HasNoRounds, HasBadCall, IsThreadsFault, Say, SaysObject, SaysCall, SaysWorker, Named, WorkerView, ScriptView, IsObject, IsCall, IsWorker, IsScript, Call, On, Interrupt, ScriptFault, NotJson, BadTop, BadObject, BadThread, BadCall, OutOfMemory}
use Rattle.script.proofs.SayingLemmas.{said_all, said_length, stops_here}

is_call : (objects : List Named) (threads : ℕ) (before : List Call) (value : Data) (c : Call) →
    SaysCall objects threads before value c → IsCall (length objects) threads c
is_call objects threads before value (On place action) says =
    slice_get_within objects place says.2.1.0 says.2.1.1
is_call objects threads before value (Interrupt thread) says = says.2.0

is_worker : (objects : List Named) (threads : ℕ) (before : List WorkerView) (value : Data) (w : WorkerView) →
    SaysWorker objects threads before value w → IsWorker (length objects) threads w
is_worker objects threads before value w says = record {
  some_round = says.rounds.some_round;
  rounds = says.rounds.few_rounds;
  few_calls = omega (
    arith,
    says.rounds.call_list.few,
    said_length (SaysCall objects threads) [] says.values w.calls says.each,
  );
  calls = said_all (SaysCall objects threads) (IsCall (length objects) threads) (is_call objects threads)
      says.values w.calls says.each;
}

pub is_script : (value : Data) (s : ScriptView) → Says value s → IsScript s
is_script value s says =
    let threads = length says.threads in
    let objects = said_length (SaysObject threads) [] says.objects s.objects says.each_object in
    let workers = said_length (SaysWorker s.objects threads) [] says.threads s.workers says.each_worker in
    record {
      some_object = omega (arith, objects, says.top.object_list.enough);
      few_objects = omega (arith, objects, says.top.object_list.few);
      some_worker = omega (arith, workers, says.top.thread_list.enough);
      few_workers = omega (arith, workers, says.top.thread_list.few);
      objects = subst (λ (n : ℕ). All (IsObject n) s.objects) workers
          (said_all (SaysObject threads) (IsObject threads) (λ before v o object. object.good)
          says.objects s.objects says.each_object);
      workers = subst (λ (n : ℕ). All (IsWorker (length s.objects) n) s.workers) workers
          (said_all (SaysWorker s.objects threads) (IsWorker (length s.objects) threads)
          (is_worker s.objects threads) says.threads s.workers says.each_worker);
    }

-- a fault of the thread at a place, after good ones
threads_fault : (objects : List Named) (threads : ℕ) (values : List Value) (i : ℕ) (v : Value)
    (ws : List WorkerView) (f : ScriptFault) → slice_get values i ≡ Some v →
    Say (SaysWorker objects threads) [] (take i (map view values)) ws →
    IsThreadFault objects threads i (view v) f →
    IsThreadsFault objects threads (map view values) f
threads_fault objects threads values i v ws NotJson here say fault = absurd fault
threads_fault objects threads values i v ws BadTop here say fault = absurd fault
threads_fault objects threads values i v ws (BadObject place) here say fault = absurd fault
threads_fault objects threads values i v ws OutOfMemory here say fault = tt
threads_fault objects threads values i v ws (BadThread t) here say fault =
    subst (λ (n : ℕ). IsThreadsFault objects threads (map view values) (BadThread n)) (sym fault.0)
    (stops_here (SaysWorker objects threads) (λ before value. HasNoRounds value) values i v ws here say
    fault.1)
threads_fault objects threads values i v ws (BadCall t place) here say fault =
    subst (λ (n : ℕ). IsThreadsFault objects threads (map view values) (BadCall n place)) (sym fault.0)
    (stops_here (SaysWorker objects threads) (λ before value. HasBadCall objects threads place value)
    values i v ws here say fault.1)

pub fault_passed : {T : Type 0} (objects : List Named) (threads : ℕ) (values : List Value) (i : ℕ) (v : Value)
    (ws : List WorkerView) (r : Result T ScriptFault) (f : ScriptFault) → IsErr r × IsErrAnd r (λ e. e ≡ f) →
    slice_get values i ≡ Some v → Say (SaysWorker objects threads) [] (take i (map view values)) ws →
    IsThreadFault objects threads i (view v) f → IfErr r (IsThreadsFault objects threads (map view values))
fault_passed objects threads values i v ws (Ok x) f passed here say fault = absurd (false≢true passed.0)
fault_passed objects threads values i v ws (Err e) f passed here say fault =
    threads_fault objects threads values i v ws e here say
    (subst (λ (g : ScriptFault). IsThreadFault objects threads i (view v) g) (sym passed.1) fault)
