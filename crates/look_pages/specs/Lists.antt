-- Lists of NSIDs in the library's words.
use Rattle.std.specs.Prelude.{◌≡◌, ℕ, Bool, List, length}
use Rattle.std.specs.List.{filter, range_with_len}
use Rattle.look_pages.specs.declared.walk.TheConstants.{PAGE}
use Rattle.look_pages.specs.Pages.{those, list_bytes}

-- those of 1 to n with p are what a filter leaves of 1, 2 .. n
abbrev pub AreThoseOfRange : Type 0
AreThoseOfRange = (p : ℕ → Bool) (n : ℕ) → those p n ≡ filter p (range_with_len 1 n)

-- the page of a list has 4,096 bytes, however long the list is
abbrev pub PageHasItsSize : Type 0
PageHasItsSize = (list : List ℕ) → length (list_bytes list) ≡ PAGE
