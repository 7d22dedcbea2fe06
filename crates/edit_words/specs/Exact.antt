-- What the words of a change are to the words before and after it.
use Rattle.std.specs.Prelude.{◌≡◌, ◌<◌, ◌⊎◌, ℕ, List, Some, slice_index}
use Rattle.std.specs.List.{slice_get}
use Rattle.ns_table.specs.declared.layout.TheConstants.{WORDS}

-- the word at a position isn't as before, and this is the new one
pub record IsTurned (before after : List ℕ) (at word : ℕ) : Type 0 where
  pub below : at < WORDS
  pub new : word ≡ slice_index after at
  pub differs : slice_index before at ≡ word → ⊥

-- a word with its position is among these
pub record IsAmong (words : List (ℕ × ℕ)) (at word : ℕ) : Type 0 where
  pub place : ℕ
  pub is : slice_get words place ≡ Some (at, word)

-- the words that differ, each with its position and its new value, each once, and no others
pub record AreTurned (before after : List ℕ) (words : List (ℕ × ℕ)) : Type 0 where
  pub whole : (at : ℕ) → at < WORDS → (slice_index after at ≡ slice_index before at)
      ⊎ IsAmong words at (slice_index after at)
  pub exact : (place at word : ℕ) → slice_get words place ≡ Some (at, word)
      → IsTurned before after at word
  pub once : (i j at v w : ℕ) → slice_get words i ≡ Some (at, v)
      → slice_get words j ≡ Some (at, w) → i ≡ j
