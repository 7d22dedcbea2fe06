-- Names in the fields of Connect data: 256 bytes each.
use Rattle.std.specs.Prelude.{ℕ, ◌==◌, Bool, false, List, [], Option, Some, None, take, position}
use Rattle.std.specs.Option.{option_map, unwrap_or}
use Rattle.std.specs.Str.{bytes_eq}
use Rattle.sqe_cqe.specs.Ready.{filled}

-- the bytes before the first zero byte; a field without a zero byte names nothing
abbrev pub name_in : List ℕ → Option (List ℕ)
name_in field = option_map (λ (at : ℕ). take at field) (position (λ b. b == 0) field)

-- no bytes where nothing is named: no bytes are no NQN, so this is the name of no folder either
abbrev pub name_or_none : List ℕ → List ℕ
name_or_none field = unwrap_or (name_in field) []

abbrev pub are_same : Option (List ℕ) → Option (List ℕ) → Bool
are_same None y = false
are_same (Some x) None = false
are_same (Some x) (Some y) = bytes_eq x y

-- both fields name something, and the same
abbrev pub same_name : List ℕ → List ℕ → Bool
same_name x y = are_same (name_in x) (name_in y)

abbrev pub kept_by : List ℕ → Option (List ℕ) → List ℕ
kept_by field None = field
kept_by field (Some name) = filled 256 0 name

-- a field as a controller keeps it: zeros after the name
abbrev pub kept_name : List ℕ → List ℕ
kept_name field = kept_by field (name_in field)
