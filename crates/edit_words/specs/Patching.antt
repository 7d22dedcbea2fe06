-- The words that were turned, put in place.
use Rattle.std.specs.Prelude.{◌≡◌, ℕ, List, length}
use Rattle.ref_state.specs.State.{overlaid}
use Rattle.ns_table.specs.declared.layout.TheConstants.{WORDS}
use Rattle.edit_words.specs.Exact.{AreTurned}

-- the words before with those that were turned put in place are the words after
abbrev pub TurnedWordsPatch : Type 0
TurnedWordsPatch = (before after : List ℕ) (words : List (ℕ × ℕ)) → length before ≡ WORDS
    → length after ≡ WORDS → AreTurned before after words → overlaid before words ≡ after
