-- Fields of entries: little-endian numbers at offsets. Offsets and sizes are in bytes, offsets counted from 0.
use Rattle.std.specs.Prelude.{◌≡◌, ℕ, ◌+◌, List, [], ◌∷◌, drop}
use Rattle.std.specs.List.{flat_map, AllByRecursion}
use Rattle.std.specs.Int.{bytes_low_first}
use Rattle.byteorder.specs.Endian.{little_number}

-- the number in `size` bytes from the offset `at`
abbrev pub field : ℕ → ℕ → List ℕ → ℕ
field at size bytes = little_number size (drop at bytes)

-- a number in `size` bytes
abbrev pub spelled : ℕ → ℕ → List ℕ
spelled size value = bytes_low_first 0 size value

-- a row of a table of fields: where the field stands, how long it is, and its value
pub record Field : Type 0 where
  pub offset : ℕ
  pub size : ℕ
  pub value : ℕ

abbrev pub row : ℕ → ℕ → ℕ → Field
row offset size value = record { offset = offset; size = size; value = value }

-- the fields, one after another
abbrev pub spelled_fields : List Field → List ℕ
spelled_fields fields = flat_map (λ f. spelled f.size f.value) fields

-- each field is the number that stands at its offset
abbrev pub StandIn : List ℕ → List Field → Type 0
StandIn bytes fields = AllByRecursion (λ f. f.value ≡ field f.offset f.size bytes) fields

-- the fields lie one after another, from the offset `at` to the offset `end`
abbrev pub IsGapless : ℕ → ℕ → List Field → Type 0
IsGapless at end [] = at ≡ end
IsGapless at end (f ∷ fields) = (f.offset ≡ at) × IsGapless (at + f.size) end fields
