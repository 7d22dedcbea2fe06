-- The last call of files, as it is kept in an array.
use Rattle.std.specs.Prelude.{◌≡◌, ℕ, Bool, List, take}
use Rattle.run_outside.specs.Outside.{LastCall}
use Rattle.run_outside.specs.declared.faults.KeptCall.{KeptCall}

abbrev pub kept_call : KeptCall → LastCall
kept_call k = record { wrote = k.wrote; name = take k.len k.name; rose = k.rose }

pub record IsKept (k : KeptCall) (wrote : Bool) (name : List ℕ) (rose : Bool) : Type 0 where
  pub is : kept_call k ≡ record { wrote = wrote; name = take 255 name; rose = rose }
