-- That the tallies of conditions follow each entry.
use Rattle.std.proofs.Common.{◌≡◌, ℕ, zero, suc, ◌<◌, ◌≤◌, List, ◌∷◌, length, get_or, take, refl, ◌∙◌, sym, subst, arith, length-set, take_all}
use Rattle.std.specs.List.{All}
use Rattle.std.proofs.lemmas.Bool.Decides.{nat_tests}
use Rattle.std.proofs.lemmas.List.{get_or_default, take_more}
use Rattle.deciding.proofs.HoldsFollow.{at_set}
use Rattle.history.specs.declared.entry.Entry.{Entry}
use Rattle.summing.specs.Prelude.{ConditionTally, is_await, is_signal, moves_nobody, on_condition, conditions_below, condition_after, condition_tally, no_condition_tally}
use Rattle.summing.specs.inner.Tables.{IsFewCondition, condition_noted}
use Rattle.summing.proofs.SeatsFollow.{count_few}

-- the table follows each entry
pub conditions_follow : (e : Entry) (h : List Entry) (table : List ConditionTally) (n : ℕ) → length table ≡ n →
    ((c : ℕ) → c < n → get_or table c no_condition_tally ≡ condition_tally h c) → (c : ℕ) → c < n →
    get_or (condition_noted e table) c no_condition_tally ≡ condition_tally (e ∷ h) c
conditions_follow e h table n long is c lt =
    let now = condition_after e (get_or table e.at no_condition_tally) in
    grind (arith, nat_tests, at_set table e.at c now no_condition_tally, is c)

-- the table stays as long
pub noted_long : (e : Entry) (table : List ConditionTally) → length (condition_noted e table) ≡ length table
noted_long e table =
    grind (arith, length-set table e.at (condition_after e (get_or table e.at no_condition_tally)))

-- each tally may have one more
pub few_conditions : (h : List Entry) (table : List ConditionTally) (n : ℕ) → length table ≡ n →
    length h < 4294967296 →
    ((c : ℕ) → c < n → get_or table c no_condition_tally ≡ condition_tally h c) → All IsFewCondition table
few_conditions h table n long few is c d lt =
    subst IsFewCondition
    (sym (get_or_default table c d no_condition_tally lt ∙ is c (omega (arith, lt, long))))
    (record {
      awaits = omega (arith, few, count_few (on_condition c (λ e. is_await e.word)) h);
      signals = omega (arith, few, count_few (on_condition c (λ e. is_signal e.word)) h);
      empty = omega (arith, few, count_few (on_condition c moves_nobody) h);
    })

below_by : (h : List Entry) (table : List ConditionTally) (n m : ℕ) → length table ≡ n → m ≤ n →
    ((c : ℕ) → c < n → get_or table c no_condition_tally ≡ condition_tally h c) →
    take m table ≡ conditions_below h m
below_by h table n zero long le is = refl
below_by h table n (suc m) long le is =
    grind (
      arith,
      take_more table m no_condition_tally,
      is m,
      below_by h table n m long (omega (arith, le)) is,
    )

-- the whole table
pub all_conditions : (h : List Entry) (table : List ConditionTally) (n : ℕ) → length table ≡ n →
    ((c : ℕ) → c < n → get_or table c no_condition_tally ≡ condition_tally h c) →
    table ≡ conditions_below h n
all_conditions h table n long is =
    sym (take_all n table (omega (arith, long))) ∙ below_by h table n n long (omega arith) is
