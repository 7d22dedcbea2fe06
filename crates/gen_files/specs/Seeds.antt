-- What a generated plan is made from.
use Rattle.std.specs.Prelude.{ℕ, nat_le, Bool, ◌&&◌, List, length}
use Rattle.plan_files.specs.Spelling.{is_name}
use Rattle.gen_files.specs.declared.seed.TheConstants.{MAX_ROUNDS, MAX_BASE_NAME}

-- how many rounds of four commands each I/O queue has, and what the names of the files begin with
pub record Base : Type 0 where
  pub rounds : ℕ
  pub name : List ℕ

-- a name that the endings of the files fit behind
unfoldable pub is_base_name : List ℕ → Bool
is_base_name name = is_name name && nat_le (length name) MAX_BASE_NAME

-- at least one round and at most 4,096, and such a name
abbrev pub is_base : ℕ → List ℕ → Bool
is_base rounds name = nat_le 1 rounds && nat_le rounds MAX_ROUNDS && is_base_name name
