-- Words cut from a line of a journal.
use Rattle.std.proofs.Common.{◌≡◌, ℕ, true, false, cond, eqb, List, [], ◌∷◌, None, refl}
use Rattle.std.specs.List.{onto_first}
use Rattle.text_lines.specs.Lines.{words_of}
use Rattle.response_files.specs.JournalReading.{call_said, places_said}

-- a line has a word
some_word : (bytes : List ℕ) → (w : List ℕ) × (ws : List (List ℕ)) × (words_of bytes ≡ w ∷ ws)
some_word [] = ([], [], refl)
some_word (b ∷ bytes) =
    elim (eqb b 32) as (λ t. (w : List ℕ) × (ws : List (List ℕ))
    × (cond t ([] ∷ words_of bytes) (onto_first b (words_of bytes)) ≡ w ∷ ws)) [
      | true ↦ ([], words_of bytes, refl)
      | false ↦ let s = some_word bytes in (b ∷ s.0, s.1, rw s.2 refl)
    ]

-- five words or more say nothing
pub too_many : (line r s t u a b c d : List ℕ) → words_of line ≡ a ∷ words_of r
    → words_of r ≡ b ∷ words_of s → words_of s ≡ c ∷ words_of t → words_of t ≡ d ∷ words_of u
    → (call_said (words_of line) ≡ None) × (places_said (words_of line) ≡ None)
too_many line r s t u a b c d first second third fourth =
    let last = some_word u in rw (first, second, third, fourth, last.2) (refl, refl)
