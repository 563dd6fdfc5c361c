-- What a value is whose parts are known.
use Rattle.std.proofs.Common.{◌≡◌, suc, List, [], ◌∷◌, Some, length, option_map, String, refl, sym, ap, ◌∙◌}
use Rattle.std.specs.declared.alloc.Global.{Global}
use Rattle.serde_json.specs.Data.{Data, null, boolean, number, string, array, object, Items}
use Rattle.serde_json.specs.Events.{items_len, members_len}
use Rattle.serde_json.specs.Find.{as_array, as_object}
use Rattle.serde_json.specs.View.{items_of, members_view}
use Rattle.serde_json.specs.declared.value.Value.{Value}
use Rattle.serde_json.proofs.Views.{members_len-members_view}

pub members_count : (d : Data) (es : List (String Global × Value)) → Some (members_view es) ≡ as_object d →
    option_map members_len (as_object d) ≡ Some (length es)
members_count d es e = ap (option_map members_len) (sym e) ∙ ap Some (members_len-members_view es)

pub is_array : (d : Data) (items : Items) → Some items ≡ as_array d → d ≡ array items
is_array null items e = absurd cc
is_array (boolean b) items e = absurd cc
is_array (number n) items e = absurd cc
is_array (string s) items e = absurd cc
is_array (array items') items e = cc
is_array (object ms) items e = absurd cc

pub items_count : (ds : List Data) → items_len (items_of ds) ≡ length ds
items_count [] = refl
items_count (d ∷ ds) = ap suc (items_count ds)

-- lists of values with the same items have the same length
pub same_length : (ds es : List Data) → array (items_of ds) ≡ array (items_of es) → length ds ≡ length es
same_length ds es e =
    sym (items_count ds) ∙ ap items_len (inside (items_of ds) (items_of es) e) ∙ items_count es
  where
    inside : (a b : Items) → array a ≡ array b → a ≡ b
    inside a b e = cc
