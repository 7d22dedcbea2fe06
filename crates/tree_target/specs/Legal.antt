-- Histories of the sequential target.
use Rattle.std.specs.Prelude.{◌≡◌, IsTrue, List, [], ◌∷◌}
use Rattle.tree_target.specs.Model.{Call, Entry, Target}
use Rattle.tree_target.specs.Steps.{is_lawful, entry_of, target_after}

-- from the start, each entry is lawful at its point and is the one that the target makes there
abbrev pub IsLegal : Target → List Entry → Type 0
IsLegal start [] = Unit {0}
IsLegal start (e ∷ entries) = IsTrue (is_lawful start e.call) × (e ≡ entry_of start e.call)
    × IsLegal (target_after start e.call) entries

-- the target after these calls
abbrev pub after : Target → List Call → Target
after t [] = t
after t (c ∷ calls) = after (target_after t c) calls

-- the history that calls make, one after another
abbrev pub entries_of : Target → List Call → List Entry
entries_of t [] = []
entries_of t (c ∷ calls) = entry_of t c ∷ entries_of (target_after t c) calls

-- each call is lawful at its point
abbrev pub AreLawful : Target → List Call → Type 0
AreLawful t [] = Unit {0}
AreLawful t (c ∷ calls) = IsTrue (is_lawful t c) × AreLawful (target_after t c) calls

-- the history that lawful calls make is legal
abbrev pub LawfulCallsAreLegal : Type 0
LawfulCallsAreLegal = (start : Target) (calls : List Call) → AreLawful start calls
    → IsLegal start (entries_of start calls)
