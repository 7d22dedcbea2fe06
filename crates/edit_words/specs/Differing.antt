-- The words of a patch that aren't as rows have them.
use Rattle.std.specs.Prelude.{◌<◌, ◌==◌, ℕ, if◌then◌else◌, List, [], ◌∷◌, slice_index}
use Rattle.ns_table.specs.declared.layout.TheConstants.{WORDS}

-- those that the words don't have at their positions, in their order
abbrev pub differing : List ℕ → List (ℕ × ℕ) → List (ℕ × ℕ)
differing ws [] = []
differing ws (x ∷ xs) = if slice_index ws x.0 == x.1 then differing ws xs else x ∷ differing ws xs

-- each has a position of the table
abbrev pub AreBelow : List (ℕ × ℕ) → Type 0
AreBelow [] = Unit {0}
AreBelow (x ∷ xs) = (x.0 < WORDS) × AreBelow xs
