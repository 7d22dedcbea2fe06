-- How commands are spelled.
use Rattle.std.specs.Prelude.{◌≡◌, ◌↔◌, ℕ, true, List, [], ◌∷◌, map, codes, Some, string_bytes, String}
use Rattle.std.specs.Fmt.{decimal}
use Rattle.std.specs.declared.alloc.Global.{Global}
use Rattle.command_words.specs.Commands.{are_said, said_by}
use Rattle.command_words.specs.declared.words.Words.{Words}
use Rattle.command_words.specs.declared.words.Words.TheVariants as words

abbrev pub spelled : Words → List (List ℕ)
spelled (words.Run plan) = codes "run" ∷ plan ∷ []
spelled (words.Check plan) = codes "check" ∷ plan ∷ []
spelled (words.Show plan) = codes "show" ∷ plan ∷ []
spelled (words.Gen n name) = codes "gen" ∷ decimal n ∷ name ∷ []

-- the words of a line are those of this command, and its values are such as it may have
pub record IsSpelled (line : List (String Global)) (w : Words) : Type 0 where
  pub spelled : map string_bytes line ≡ spelled w
  pub values : are_said w ≡ true

-- words say a command exactly where they spell it
abbrev pub WordsAreSpelled : Type 0
WordsAreSpelled = (line : List (String Global)) (w : Words)
    → (said_by line ≡ Some w) ↔ IsSpelled line w
