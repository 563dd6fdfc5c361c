-- The word and the slot under a change of views: they are as before where the views that hold are.
use Rattle.std.proofs.Common.{◌≡◌, ◌⊎◌, ℕ, true, List, inl, inr}
use Rattle.std.specs.declared.option.Option.{Option as Maybe}
use mathlib.Core.Option.{some}
use lib.ListN.{get_elem?}
use Rattle.atomic_table.specs.Table.{State}
use Rattle.std.proofs.lemmas.Bool.{false_from_ne_true}
use Rattle.history.specs.declared.point.Point.{Point}
use Rattle.word_lock.specs.Prelude.{View, IsFree, IsTaken}

-- each view of the first list that holds stands in the second one
abbrev pub HoldersIn : List View → List View → Type 0
HoldersIn vs ws = (j : ℕ) (u : View) → get_elem? vs j ≡ some u → u.holds ≡ true → get_elem? ws j ≡ some u

module _ {T : Type 0} (point : T → Point) (fact : T → Type 0) (now : Point) where
  abbrev pub IsWord : State (Maybe T) View → Type 0
  IsWord s = IsFree point fact now s ⊎ IsTaken now s

  pub word_stays : (s : State (Maybe T) View) (views : List View) → HoldersIn views s.views →
      HoldersIn s.views views → IsWord s
      → IsWord record { words = s.words; homes = s.homes; views = views }
  word_stays s views back on (inl h) = inl record {
    word = h.word;
    value = h.value;
    home = h.home;
    meets = h.meets;
    shows = h.shows;
    free = λ j u e. false_from_ne_true u.holds (λ t. let f = h.free j u (back j u e t) in absurd cc);
  }
  word_stays s views back on (inr o) = let h = o.held in inr record {
    word = o.word;
    home = o.home;
    held = record {
      id = h.id;
      view = h.view;
      is = on h.id h.view h.is h.holds;
      holds = h.holds;
      took = h.took;
      alone = λ j u e t. h.alone j u (back j u e t) t;
    };
  }
