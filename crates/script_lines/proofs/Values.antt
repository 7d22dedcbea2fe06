-- The words of a line that sets a value.
use Rattle.std.proofs.Common.{◌≡◌, ℕ, true, List, [], ◌∷◌, refl}
use Rattle.std.specs.Prelude.{codes}
use Rattle.std.specs.Str.{bytes_eq}
use Rattle.std.proofs.lemmas.List.Splits.{join_with_byte-slice_split}
use Rattle.text_lines.specs.Lines.{words_of}
use Rattle.script_lines.specs.Script.{script_words}

-- what follows the attribute is one word
pub set_words : (line after_kind after_folder kind folder attribute value : List ℕ)
    → bytes_eq kind (codes "set") ≡ true
    → words_of line ≡ kind ∷ words_of after_kind
    → words_of after_kind ≡ folder ∷ words_of after_folder
    → words_of after_folder ≡ attribute ∷ words_of value
    → script_words line ≡ kind ∷ folder ∷ attribute ∷ value ∷ []
set_words line after_kind after_folder kind folder attribute value set first second third =
    rw (first, second, third, set, join_with_byte-slice_split 32 value) refl
