-- Pages of fixed size as tables of fields over zeros.
use Rattle.std.specs.Prelude.{◌≡◌, ℕ, ◌+◌, ◌<◌, ◌≤◌, ◌⊎◌, List, [], ◌∷◌, length, slice_index}
use Rattle.std.specs.List.{AllByRecursion}
use Rattle.sqe_cqe.specs.Fields.{spelled}
use Rattle.look_pages.specs.Pages.{put_at, zeros}

-- a row of a table: where the field stands, how many bytes it has, and its bytes
pub record Field : Type 0 where
  pub offset : ℕ
  pub size : ℕ
  pub bytes : List ℕ

-- a field that is a little-endian number
abbrev pub number : ℕ → ℕ → ℕ → Field
number offset size value = record { offset = offset; size = size; bytes = spelled size value }

-- a field that is a text, or an identifier
abbrev pub text : ℕ → ℕ → List ℕ → Field
text offset size bytes = record { offset = offset; size = size; bytes = bytes }

-- a page with the fields put at their offsets
abbrev pub with_fields : List Field → List ℕ → List ℕ
with_fields [] page = page
with_fields (f ∷ fields) page = with_fields fields (put_at f.offset f.bytes page)

-- zeros with the fields put at their offsets
abbrev pub page_of : ℕ → List Field → List ℕ
page_of size fields = with_fields fields (zeros size)

-- the fields stand in rising order from the offset `at` on, each has its size, none overlaps the
-- one before it, and the last ends within the page
abbrev pub IsApart : ℕ → ℕ → List Field → Type 0
IsApart at size [] = at ≤ size
IsApart at size (f ∷ fields) =
    (at ≤ f.offset) × (length f.bytes ≡ f.size) × IsApart (f.offset + f.size) size fields

-- a field's bytes stand at its offset
abbrev pub StandsIn : List ℕ → Field → Type 0
StandsIn page f = (i : ℕ) → i < f.size → slice_index page (f.offset + i) ≡ slice_index f.bytes i

-- a byte that this field doesn't cover
abbrev pub IsOutside : ℕ → Field → Type 0
IsOutside k f = (k < f.offset) ⊎ (f.offset + f.size ≤ k)

-- in the page of such a table each field stands at its offset
abbrev pub FieldsStand : Type 0
FieldsStand = (size : ℕ) (fields : List Field) → IsApart 0 size fields
    → AllByRecursion (StandsIn (page_of size fields)) fields

-- a byte that no field covers is zero
abbrev pub RestIsZero : Type 0
RestIsZero = (size : ℕ) (fields : List Field) (k : ℕ) → IsApart 0 size fields
    → AllByRecursion (IsOutside k) fields → slice_index (page_of size fields) k ≡ 0

-- and the page has its size
abbrev pub PageKeepsItsSize : Type 0
PageKeepsItsSize = (size : ℕ) (fields : List Field) → IsApart 0 size fields
    → length (page_of size fields) ≡ size
