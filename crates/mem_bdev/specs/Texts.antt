-- Bytes that grow within room that was found before.
use Rattle.std.specs.Prelude.{ℕ, ◌+◌, ◌≤◌, List, ◌++◌, length, take, drop}

-- the bytes, and how many there is room for in all
pub record Text : Type 0 where
  pub bytes : List ℕ
  pub room : ℕ

-- there is room for so many bytes more
abbrev pub HasRoom : Text → ℕ → Type 0
HasRoom t more = length t.bytes + more ≤ t.room

-- the text with other bytes in the same room
abbrev pub with_bytes : Text → List ℕ → Text
with_bytes t bytes = record { bytes = bytes; room = t.room }

-- the text with these bytes after its own
abbrev pub appended : Text → List ℕ → Text
appended t bytes = with_bytes t (t.bytes ++ bytes)

-- bytes of which those from `at` on were written over
abbrev pub overwritten : List ℕ → ℕ → List ℕ → List ℕ
overwritten old at bytes = take at old ++ (bytes ++ drop (length bytes) (drop at old))
