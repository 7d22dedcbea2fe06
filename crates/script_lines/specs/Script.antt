-- The lines of an edit script.
use Rattle.std.specs.Prelude.{ℕ, nat_le, Bool, not, ◌&&◌, if◌then◌else◌, List, [], ◌∷◌, length, codes}
use Rattle.std.specs.List.{list_all, join_with_byte}
use Rattle.std.specs.Str.{bytes_eq}
use Rattle.text_lines.specs.Lines.{is_passed_over, words_of}

-- ---- words

-- The words of a line stand between its spaces; but the value of a `set` is one word, all that follows the space after the
-- attribute, spaces and all, and the empty word where nothing follows.
abbrev pub with_value : List (List ℕ) → List (List ℕ)
with_value [] = []
with_value (kind ∷ []) = kind ∷ []
with_value (kind ∷ folder ∷ []) = kind ∷ folder ∷ []
with_value (kind ∷ folder ∷ attribute ∷ value) =
    if bytes_eq kind (codes "set") then kind ∷ folder ∷ attribute ∷ join_with_byte 32 value
    ∷ [] else kind ∷ folder ∷ attribute ∷ value

abbrev pub script_words : List ℕ → List (List ℕ)
script_words line = with_value (words_of line)

-- ---- lines

-- a byte from 20h to 7Eh
abbrev pub is_printable : ℕ → Bool
is_printable b = nat_le 32 b && nat_le b 126

-- a line of at most 1,024 printable bytes
unfoldable pub is_text : List ℕ → Bool
is_text line = nat_le (length line) 1024 && list_all is_printable line

-- a line that is not passed over and is no text
abbrev pub is_bad : List ℕ → Bool
is_bad line = not (is_passed_over line) && not (is_text line)
