-- A map of files in memory after a write.
use Rattle.std.specs.Prelude.{ℕ, ◌+◌, List, Option, Result, Ok, Err, Vec, String, true, if◌then◌else◌}
use Rattle.std.specs.declared.alloc.Global.{Global}
use Rattle.std.specs.BTreeMap.{BTreeMap, btree_map_len, get_by_text}
use Rattle.std.specs.Option.{is_some, option_map}
use Rattle.run_outside.specs.declared.outside.WriteError.{WriteError}
use Rattle.run_outside.specs.Outside.{WriteGives}

abbrev pub holds : BTreeMap (String Global) (Vec ℕ Global) → List ℕ → Option (List ℕ)
holds files name = option_map (λ v. v.items) (get_by_text files name)

abbrev pub StoredAt : BTreeMap (String Global) (Vec ℕ Global)
    → BTreeMap (String Global) (Vec ℕ Global) → List ℕ → List ℕ → Result (Unit {0}) WriteError
    → Type 0
StoredAt old new name bytes result = WriteGives true (holds old) (holds new) name bytes result

-- how many names hold something after a write of this answer: one more where the name held nothing
abbrev pub names_after : BTreeMap (String Global) (Vec ℕ Global) → List ℕ
    → Result (Unit {0}) WriteError → ℕ
names_after files name (Ok u) =
    btree_map_len files + (if is_some (holds files name) then 0 else 1)
names_after files name (Err e) = btree_map_len files
