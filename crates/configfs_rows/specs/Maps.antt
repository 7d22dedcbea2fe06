-- A finite map with f of what stands at a key, and as it was where nothing stands there.
use Rattle.std.specs.Prelude.{ℕ, List, length, Option, Some, None, Bool, true, false, not, Result}
use Rattle.std.specs.List.Sorted.{IsSearchInRange, IsBinarySearchResult}
use Rattle.std.specs.declared.cmp.Ordering.{Ordering}
use Rattle.std.specs.Ordering.{eq_by_cmp}
use Rattle.std.specs.FinMap as map
use Rattle.std.specs.FinMap.{FinMap}
use Rattle.std.specs.FinMap.Entries.{where_key}

abbrev pub updated : {K X : Type 0} {R : K → K → Ordering} → FinMap R X → K → (X → X) → Option X
    → FinMap R X
updated m k f None = m
updated m k f (Some x) = map.insert m k (f x)

abbrev pub update_at : {K X : Type 0} {R : K → K → Ordering} → FinMap R X → K → (X → X) → FinMap R X
update_at m k f = updated m k f (map.get m k)

-- a set of names with a name in it, or without it
abbrev pub kept_or_taken : {K : Type 0} {R : K → K → Ordering} → FinMap R (Unit {0}) → K → Bool
    → FinMap R (Unit {0})
kept_or_taken m k true = map.insert m k tt
kept_or_taken m k false = map.remove m k

-- the answer of a search for a key: the index of its entry or, where entries stand in the order of
-- their keys, the index at which it would be put in
abbrev pub IsPlaceOf : {K X : Type 0} → (K → K → Ordering) → K → List (K × X) → Result ℕ ℕ → Type 0
IsPlaceOf R k es r = IsSearchInRange r (length es) × IsBinarySearchResult (λ e. R e.0 k) es r

-- the entries with other keys
abbrev pub others : {K X : Type 0} → (K → K → Ordering) → K → List (K × X) → List (K × X)
others R k es = where_key R (λ x. not (eq_by_cmp R k x)) es
