-- Names of objects.
use Rattle.std.specs.Prelude.{◌≢◌, ℕ, ◌≤◌, List, length, Bool, ◌&&◌, ◌||◌, ◌==◌, nat_le, codes, All, IsTrue}
use Rattle.script.specs.declared.limits.TheConstants.{MOST_NAME_BYTES}

-- `a` to `z`, `0` to `9` and `-`
abbrev pub is_name_byte : ℕ → Bool
is_name_byte b = (nat_le 97 b && nat_le b 122) || ((nat_le 48 b && nat_le b 57) || (b == 45))

-- at least 1 such character, other than `interrupt`
pub record IsName (name : List ℕ) : Type 0 where
  pub some_byte : 1 ≤ length name
  pub few_bytes : length name ≤ MOST_NAME_BYTES
  pub bytes : All (λ b. IsTrue (is_name_byte b)) name
  pub other : name ≢ codes "interrupt"
