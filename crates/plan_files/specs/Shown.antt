-- The words of a line as the code has them.
use Rattle.std.specs.Prelude.{◌≡◌, ℕ, List, [], ◌∷◌, None}
use Rattle.plan_files.specs.Spelling.{said_by}
use Rattle.plan_files.specs.declared.line_items.LineWords.{LineWords}
use Rattle.plan_files.specs.declared.line_items.LineWords.TheVariants.{One, Two, Four, Other}

abbrev pub AreWords : List (List ℕ) → LineWords → Type 0
AreWords words (One kind) = words ≡ kind.now ∷ []
AreWords words (Two kind name) = words ≡ kind.now ∷ name.now ∷ []
AreWords words (Four kind first second third) = words ≡ kind.now ∷ first.now ∷ second.now
    ∷ third.now ∷ []
AreWords words Other = said_by words ≡ None
