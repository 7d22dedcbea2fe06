-- Positions: the lowest from `from` on that is not taken, among so many more.
use Rattle.std.specs.Prelude.{◌≡◌, ◌<◌, ℕ, zero, suc, ◌+◌, Bool, true, false, Some, if◌then◌else◌}
use Rattle.std.specs.declared.cmp.Ordering.{Ordering}
use Rattle.std.specs.FinMap as map
use Rattle.std.specs.FinMap.{FinMap}

unfoldable pub lowest_free : ℕ → ℕ → (ℕ → Bool) → ℕ
lowest_free zero from taken = from
lowest_free (suc more) from taken = if taken from then lowest_free more (from + 1) taken else from

-- all lower positions are taken, and it is free where it is one of so many
abbrev pub LowestIsFree : Type 0
LowestIsFree = (most : ℕ) (taken : ℕ → Bool) → ((j : ℕ) → j < lowest_free most 0 taken → taken j
    ≡ true)
    × (lowest_free most 0 taken < most → taken (lowest_free most 0 taken) ≡ false)

-- the rows of a map have their keys, and their positions are in range and distinct
pub record HasPlaces {K X : Type 0} {R : K → K → Ordering} (key : X → K) (at : X
    → ℕ) (most : ℕ) (m : FinMap R X) : Type 0 where
  pub own_key : (k : K) (x : X) → map.get m k ≡ Some x → key x ≡ k
  pub below : (k : K) (x : X) → map.get m k ≡ Some x → at x < most
  pub apart : (j k : K) (x y : X) → map.get m j ≡ Some x → map.get m k ≡ Some y → at x ≡ at y
      → j ≡ k
