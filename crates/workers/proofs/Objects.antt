-- The objects of a script.
use Rattle.std.proofs.Common.{◌≡◌, ℕ, List, length, Some, ap, sym, ◌∙◌}
use Rattle.std.specs.List.{slice_get}
use Rattle.std.specs.Option.{option_map}
use Rattle.std.proofs.lemmas.Option.{slice_get-map}
use Rattle.script.specs.Script.{IsObject, IsScript, Named, ScriptView, named}
use Rattle.script.proofs.Firsts.{Entry, all_at, object_at, shown_as}
use Rattle.workers.specs.Reports.{headers_of}

object_of : (s : ScriptView) (es : List Entry) (k : ℕ) (e : Entry) → named es ≡ s.objects →
    Some e ≡ slice_get es k → slice_get s.objects k ≡ Some (shown_as e)
object_of s es k e same at = ap (λ z. slice_get z k) (sym same) ∙ object_at es k e at

pub header_there : (s : ScriptView) (es : List Entry) (k : ℕ) (e : Entry) → named es ≡ s.objects →
    Some e ≡ slice_get es k → slice_get (headers_of s) k ≡ Some e.1
header_there s es k e same at =
    slice_get-map (λ (o : Named). o.1) s.objects k ∙ ap (option_map (λ (o : Named). o.1))
    (object_of s es k e same at)

pub object_there : (s : ScriptView) (es : List Entry) (k : ℕ) (e : Entry) → named es ≡ s.objects →
    IsScript s → Some e ≡ slice_get es k → IsObject (length s.workers) (shown_as e)
object_there s es k e same is at =
    all_at (IsObject (length s.workers)) s.objects k (shown_as e) is.objects (object_of s es k e same at)
