-- The states of ANA groups: their numbers in the log page, and their texts in configfs.
use Rattle.std.specs.Prelude.{◌≡◌, ◌↔◌, ℕ, List, [], ◌∷◌, Option, Some, codes}
use Rattle.std.specs.List.{find}
use Rattle.std.specs.Str.{bytes_eq}
use Rattle.sqe_cqe.specs.declared.rows.Ana.{Ana}
use Rattle.sqe_cqe.specs.declared.rows.Ana.TheVariants.{Optimized, NonOptimized, Inaccessible, PersistentLoss, Changing}

-- the number of a state in the ANA log page
abbrev pub ana_number : Ana → ℕ
ana_number Optimized = 1
ana_number NonOptimized = 2
ana_number Inaccessible = 3
ana_number PersistentLoss = 4
ana_number Changing = 15

-- the text of a state
abbrev pub ana_text : Ana → List ℕ
ana_text Optimized = codes "optimized"
ana_text NonOptimized = codes "non-optimized"
ana_text Inaccessible = codes "inaccessible"
ana_text PersistentLoss = codes "persistent-loss"
ana_text Changing = codes "change"

abbrev pub ana_states : List Ana
ana_states = Optimized ∷ NonOptimized ∷ Inaccessible ∷ PersistentLoss ∷ Changing ∷ []

-- the state whose text it is
abbrev pub ana_named : List ℕ → Option Ana
ana_named value = find (λ a. bytes_eq value (ana_text a)) ana_states

-- a text names a state exactly where it is the state's own
abbrev pub AnaNamesAgain : List ℕ → Ana → Type 0
AnaNamesAgain value a = (ana_named value ≡ Some a) ↔ (value ≡ ana_text a)
