-- The files that a generated plan is written to.
use Rattle.std.specs.Prelude.{◌≡◌, ◌≢◌, ℕ, ◌==◌, if◌then◌else◌, IsTrue, List, [], ◌∷◌, map, Some, None}
use Rattle.std.specs.List.{AllByRecursion}
use Rattle.gen_files.specs.Seeds.{Base}
use Rattle.gen_files.specs.Contents.{Content, contents, content_of}
use Rattle.gen_files.specs.declared.made.MadeFile.{MadeFile}
use Rattle.run_outcomes.specs.Outsides.{Told}
use Rattle.run_outcomes.specs.Written.{ToWrite}

abbrev pub written_as : Content → ToWrite
written_as c = record { file = record { 0 = c.number }; name = c.name; bytes = c.bytes }

-- the seven files, in the order in which they are written
abbrev pub generated : Base → List ToWrite
generated b = map written_as (contents b)

-- the same of files that the program has in hand
abbrev pub in_hand : List MadeFile → List ToWrite
in_hand files = map (λ f. written_as (content_of f)) files

-- the name of the file with this number, or another where none has it
abbrev pub name_or : List ToWrite → ℕ → List ℕ → List ℕ
name_or [] number name = name
name_or (w ∷ files) number name =
    if w.file.0 == number then w.name else name_or files number name

-- files that hold just these and nothing else, and tell so
pub record HoldsJust (files : List ToWrite) (told : Told) : Type 0 where
  pub tells : IsTrue told.tells
  pub held : AllByRecursion (λ w. told.holds w.name ≡ Some w.bytes) files
  pub nothing_else : (name : List ℕ) → AllByRecursion (λ w. name ≢ w.name) files
      → told.holds name ≡ None
