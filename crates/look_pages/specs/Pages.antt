-- Pages of bytes, offsets and sizes in bytes.
use Rattle.std.specs.Prelude.{◌≡◌, ℕ, zero, suc, ◌+◌, ◌-◌, ◌<◌, ◌≤◌, nat_lt, Bool, true, false, if◌then◌else◌, List, [], ◌∷◌, ◌++◌, length, take, drop, replicate, slice_index, map}
use Rattle.std.specs.List.{flat_map, range_with_len}
use Rattle.sqe_cqe.specs.Fields.{spelled}
use Rattle.look_pages.specs.declared.walk.TheConstants.{MOST_LISTED, PAGE}

-- zero bytes: not unfolded, else a whole page of them stands in each goal
unfoldable pub zeros : ℕ → List ℕ
zeros size = replicate size 0

-- the page with these bytes from an offset on
unfoldable pub put_at : ℕ → List ℕ → List ℕ → List ℕ
put_at at bytes page = take at page ++ (bytes ++ drop (at + length bytes) page)

-- those of 1 to n with p, rising
abbrev pub those : (ℕ → Bool) → ℕ → List ℕ
those p zero = []
those p (suc n) = those p n ++ (if p (suc n) then suc n ∷ [] else [])

-- one number, where it is with p
abbrev pub if_one : (ℕ → Bool) → ℕ → List ℕ
if_one p n = if p n then n ∷ [] else []

-- a list of NSIDs, four bytes each
unfoldable pub words : List ℕ → List ℕ
words list = flat_map (λ n. spelled 4 n) list

-- bytes and then zeros, up to a size
unfoldable pub filled : ℕ → List ℕ → List ℕ
filled size bytes = bytes ++ zeros (size - length bytes)

-- the page of a list of NSIDs: at most 1,024 of them and zeros, or of more FFFFFFFFh and zeros
unfoldable pub list_bytes : List ℕ → List ℕ
list_bytes list =
    if nat_lt MOST_LISTED (length list) then filled PAGE (spelled 4 0xffffffff)
    else filled PAGE (words list)

-- each byte of `to` is the one of `bytes` from an offset on, zero past their end
pub record Shows (offset : ℕ) (to bytes : List ℕ) : Type 0 where
  pub here : (k : ℕ) → k < length to → slice_index to k ≡ slice_index bytes (offset + k)

-- the part of a page from an offset on: past the end of the page it is zeros
unfoldable pub window : ℕ → ℕ → List ℕ → List ℕ
window offset size page = map (λ i. slice_index page i) (range_with_len offset size)

-- whatever the first `at` bytes of a page were: if `old` shows them from an offset on, `new` shows
-- them with these bytes after them
pub record Emits (offset at : ℕ) (old new : List ℕ) (bytes : List ℕ) : Type 0 where
  pub shows : (done : List ℕ) → length done ≡ at → Shows offset old done
      → Shows offset new (done ++ bytes)
