-- The journal of a finished run: what its lines say, and its first bad line. Lines count from 1 in
-- an error, from 0 here.
use Rattle.std.specs.Prelude.{◌≡◌, ◌≤◌, ◌<◌, ◌⊎◌, ℕ, zero, suc, ◌+◌, ◌^◌, List, [], ◌∷◌, ◌++◌, codes, Option, Some, None}
use Rattle.std.specs.Fmt.{decimal}
use Rattle.std.specs.List.{AllByRecursion, slice_get}
use Rattle.text_lines.specs.Lines.{lines_of}
use Rattle.journal_text.specs.Text.{journal_text, line_text}
use Rattle.journal_text.specs.declared.lines.JournalLine.{JournalLine}
use Rattle.journal_text.specs.declared.lines.JournalLine.TheVariants.{Edit, Done}
use Rattle.response_files.specs.declared.journal.Journal.{Journal}

-- the numbers of a line are below 2 ^ 32
abbrev pub IsNumbered : JournalLine → Type 0
IsNumbered (Edit place line answer) = (place < 2 ^ 32) × (line < 2 ^ 32)
IsNumbered (Done place line) = (place < 2 ^ 32) × (line < 2 ^ 32)

-- the bytes are a text, or a text without its last byte, which is 0Ah
abbrev pub IsText : List ℕ → List ℕ → Type 0
IsText bytes text = (bytes ≡ text) ⊎ (bytes ++ 10 ∷ [] ≡ text)

-- the bytes are the journal's text, of which the last line may lack its end
pub record IsJournal (bytes : List ℕ) (j : Journal) : Type 0 where
  pub spelled : IsText bytes (journal_text j.places j.lines)
  pub places : j.places < 2 ^ 32
  pub lines : AllByRecursion IsNumbered j.lines

-- ---- bad lines

-- what the line k may be: the first is the head, the second says how many places the run has, each
-- other one is a call of the editor
abbrev pub IsRow : ℕ → List ℕ → Type 0
IsRow zero line = line ≡ codes "nvmet-journal 1"
IsRow (suc zero) line = (places : ℕ) × (places < 2 ^ 32)
    × (line ≡ codes "places" ++ (32 ∷ decimal places))
IsRow (suc (suc k)) line = (l : JournalLine) × IsNumbered l × (line ++ 10 ∷ [] ≡ line_text l)

-- a line that is there is what it may be, and the first two are there
abbrev pub IsWell : ℕ → Option (List ℕ) → Type 0
IsWell k (Some line) = IsRow k line
IsWell k None = 2 ≤ k

-- the line of this number, counted from 1, is the first that isn't well
pub record IsFirstBad (bytes : List ℕ) (number : ℕ) : Type 0 where
  pub at : ℕ
  pub number_is : number ≡ at + 1
  pub before : (k : ℕ) → k < at → IsWell k (slice_get (lines_of bytes) k)
  pub bad : IsWell at (slice_get (lines_of bytes) at) → ⊥
