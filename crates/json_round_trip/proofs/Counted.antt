-- As many rows stand as there are positions, at most.
use Rattle.std.proofs.Common.{◌≡◌, ◌≤◌, ◌<◌, ◌&&◌, ◌||◌, ℕ, Bool, true, false, T, List, [], ◌∷◌, ◌++◌, map as each, length, Some, refl, sym, ap, subst, ◌∙◌, append_assoc, nat_eq, arith}
use mathlib.Core.Logic.{⊎_elim}
use Rattle.std.specs.List.{AllByRecursion, IsDistinct, list_any}
use Rattle.std.specs.Ordering.{is_lt}
use Rattle.std.specs.Cmp.{IsTotalOrder, tied_itself}
use Rattle.std.specs.declared.cmp.Ordering.{Ordering}
use Rattle.std.specs.declared.cmp.Ordering.TheVariants.{Less, Equal, Greater}
use Rattle.std.specs.FinMap as map
use Rattle.std.specs.FinMap.{FinMap, find, is_sorted}
use Rattle.std.specs.FinMap.Entries.{below_all}
use Rattle.std.proofs.lemmas.Bool.{cases_Bool, eqb-true, ne_eqb}
use Rattle.std.proofs.lemmas.List.{length-map}
use Rattle.std.proofs.lemmas.Map.Steps.{length-le_from_distinct_below}
use Rattle.configfs_rows.specs.Places.{HasPlaces}
use Rattle.nvmetcli_json.proofs.Sorted.{tail_sorted, find_here}

pub first : (a b : Bool) → T (a && b) → T a
first true b p = tt
first false b p = p

pub second : (a b : Bool) → T (a && b) → T b
second true b p = p
second false b p = absurd p

never_less : (o : Ordering) → T (is_lt o) → o ≡ Equal → ⊥
never_less Less p e = cc
never_less Equal p e = p
never_less Greater p e = p

module _ {K X : Type 0} {R : K → K → Ordering} (o : IsTotalOrder R) (key : X → K) (at : X → ℕ)
    (most : ℕ) (m : FinMap R X) (h : HasPlaces key at most m) where
  entry_found : (done : List (K × X)) (e : K × X) (es : List (K × X))
      → map.entries m ≡ done ++ e ∷ es → map.get m e.0 ≡ Some e.1
  entry_found done e es is = map.get-entries m e.0 ∙ (ap (find R e.0) is
      ∙ find_here o done e es (subst (λ xs. T (is_sorted R xs)) is (map.entries_sorted m)))

  next_is : (done : List (K × X)) (e : K × X) (es : List (K × X)) → map.entries m ≡ done ++ e ∷ es
      → map.entries m ≡ (done ++ e ∷ []) ++ es
  next_is done e es is = is ∙ sym (append_assoc done (e ∷ []) es)

  -- no later row stands where one does
  apart_from : (e : K × X) → map.get m e.0 ≡ Some e.1 → (done es : List (K × X))
      → map.entries m ≡ done ++ es → T (below_all R e.0 es)
      → AllByRecursion (λ y. nat_eq (at e.1) y ≡ false) (each at (each (λ (f : K × X). f.1) es))
  apart_from e found done [] is below = tt
  apart_from e found done (f ∷ es) is below = (
    ne_eqb (at e.1) (at f.1) (λ level.
        let one : e.0 ≡ f.0 = h.apart e.0 f.0 e.1 f.1 found (entry_found done f es is) level in
        never_less (R e.0 f.0) (first (is_lt (R e.0 f.0)) (below_all R e.0 es) below)
        (ap (R e.0) (sym one) ∙ tied_itself o e.0)),
    apart_from e found (done ++ f ∷ []) es (next_is done f es is)
        (second (is_lt (R e.0 f.0)) (below_all R e.0 es) below),
  )

  distinct_from : (done es : List (K × X)) → map.entries m ≡ done ++ es → T (is_sorted R es)
      → IsDistinct nat_eq (each at (each (λ (f : K × X). f.1) es))
  unfolding IsDistinct
  distinct_from done [] is sorted = tt
  distinct_from done (e ∷ es) is sorted = (
    apart_from e (entry_found done e es is) (done ++ e ∷ []) es (next_is done e es is)
        (first (below_all R e.0 es) (is_sorted R es) sorted),
    distinct_from (done ++ e ∷ []) es (next_is done e es is) (tail_sorted o e es sorted),
  )

  below_from : (done es : List (K × X)) → map.entries m ≡ done ++ es → (q : ℕ)
      → list_any (nat_eq q) (each at (each (λ (f : K × X). f.1) es)) ≡ true → q < most
  below_from done [] is q any = absurd cc
  below_from done (e ∷ es) is q any = ⊎_elim
      (λ (hit : nat_eq q (at e.1) ≡ true). subst (λ (n : ℕ). n < most)
      (sym (eqb-true q (at e.1) hit)) (h.below e.0 e.1 (entry_found done e es is)))
      (λ (miss : nat_eq q (at e.1) ≡ false). below_from (done ++ e ∷ []) es (next_is done e es is) q
      (sym (ap (λ b. b || list_any (nat_eq q) (each at (each (λ (f : K × X). f.1) es))) miss)
      ∙ any))
      (cases_Bool (nat_eq q (at e.1)))

  pub few_places : map.len m ≤ most
  few_places =
      let rows = each at (map.values m) in
      let short : length rows ≤ most = length-le_from_distinct_below rows most
      (distinct_from [] (map.entries m) refl (map.entries_sorted m))
      (below_from [] (map.entries m) refl) in
      let counts : map.len m ≡ length (map.entries m) = map.len-entries m in
      let sizes : length rows ≡ length (map.entries m) =
      length-map (map.values m) at ∙ length-map (map.entries m) (λ (e : K × X). e.1) in
      omega arith
