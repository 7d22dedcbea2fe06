-- The words of a journal's line as the code has them.
use Rattle.std.specs.Prelude.{◌≡◌, ℕ, List, [], ◌∷◌, None}
use Rattle.response_files.specs.JournalReading.{call_said, places_said}
use Rattle.response_files.specs.declared.journal_lines.LineWords.{LineWords}
use Rattle.response_files.specs.declared.journal_lines.LineWords.TheVariants.{Two, Three, Four, Other}

abbrev pub AreWords : List (List ℕ) → LineWords → Type 0
AreWords words (Two kind number) = words ≡ kind.now ∷ number.now ∷ []
AreWords words (Three kind place line) = words ≡ kind.now ∷ place.now ∷ line.now ∷ []
AreWords words (Four kind place line answer) = words ≡ kind.now ∷ place.now ∷ line.now
    ∷ answer.now ∷ []
AreWords words Other = (call_said words ≡ None) × (places_said words ≡ None)
