-- Positions stay in range and distinct.
use Rattle.std.proofs.Common.{◌≡◌, ◌⊎◌, inl, inr, ℕ, zero, suc, ◌+◌, ◌<◌, ◌≤◌, ◌==◌, ◌||◌, Bool, true, false, cond, List, [], ◌∷◌, length, map, Option, Some, refl, sym, ap, subst, ◌∙◌, arith, nat_eq}
use mathlib.Core.Logic.{⊎_elim}
use Rattle.std.specs.List.{list_any}
use Rattle.std.proofs.lemmas.Bool.{cases_Bool, both_ways, eq-eqb}
use Rattle.std.proofs.lemmas.Grind.{common_steps}
use Rattle.std.proofs.lemmas.List.{length-map}
use Rattle.std.proofs.lemmas.Map.Steps.{le-length_from_below}
use Rattle.std.specs.Ordering.{eq_by_cmp}
use Rattle.std.specs.declared.cmp.Ordering.{Ordering}
use Rattle.std.specs.Cmp.{IsTotalOrder}
use Rattle.std.specs.FinMap as maps
use Rattle.std.specs.FinMap.{FinMap, IsAntisymmetric, find}
use Rattle.configfs_rows.proofs.LowFree.{step_of, none_left}
use Rattle.configfs_rows.specs.Maps.{update_at}
use Rattle.configfs_rows.specs.Places.{lowest_free, LowestIsFree}
use Rattle.configfs_rows.specs.Places.{HasPlaces}
use Rattle.configfs_rows.proofs.Gets.{some_same, none_some, cases_key, get-insert_at, get-insert_beside, get-remove_at, get-remove_beside, was_at}

-- ---- the lowest free position
first_or_later : (a b : ℕ) → a ≤ b → (a ≡ b) ⊎ (a < b)
first_or_later a b le = grind arith

-- it is free, or all are taken
pub record IsFree (more from : ℕ) (taken : ℕ → Bool) : Type 0 where
  pub below : lowest_free more from taken < from + more
  pub free : taken (lowest_free more from taken) ≡ false

abbrev AllTaken : ℕ → ℕ → (ℕ → Bool) → Type 0
AllTaken more from taken = (j : ℕ) → from ≤ j → j < from + more → taken j ≡ true

free_here : (more from : ℕ) (taken : ℕ → Bool) → taken from ≡ false → IsFree (suc more) from taken
free_here more from taken e =
    let is : lowest_free (suc more) from taken ≡ from = step_of more from taken false e in
    record {
      below = subst (λ (n : ℕ). n < from + suc more) (sym is) (omega arith);
      free = subst (λ (n : ℕ). taken n ≡ false) (sym is) e;
    }

free_later : (more from : ℕ) (taken : ℕ → Bool) → taken from ≡ true → IsFree more (from + 1) taken
    → IsFree (suc more) from taken
free_later more from taken e h =
    let is : lowest_free (suc more) from taken ≡ lowest_free more (from + 1) taken =
    step_of more from taken true e in
    let below : lowest_free more (from + 1) taken < from + suc more = omega (arith, h.below) in
    record {
      below = subst (λ (n : ℕ). n < from + suc more) (sym is) below;
      free = subst (λ (n : ℕ). taken n ≡ false) (sym is) h.free;
    }

all_later : (more from : ℕ) (taken : ℕ → Bool) → taken from ≡ true → AllTaken more (from + 1) taken
    → AllTaken (suc more) from taken
all_later more from taken e h j low high = ⊎_elim
    (λ (is : from ≡ j). subst (λ (n : ℕ). taken n ≡ true) is e)
    (λ (lt : from < j). let low' : from + 1 ≤ j = omega arith in
    let high' : j < from + 1 + more = omega arith in h j low' high')
    (first_or_later from j low)

free_or_full : (more from : ℕ) (taken : ℕ → Bool) → IsFree more from taken
    ⊎ AllTaken more from taken
free_or_full zero from taken = inr (λ j low high. absurd (omega arith))
free_or_full (suc more) from taken = ⊎_elim
    (λ e. ⊎_elim (λ h. inl (free_later more from taken e h))
    (λ h. inr (all_later more from taken e h)) (free_or_full more (from + 1) taken))
    (λ e. inl (free_here more from taken e))
    (cases_Bool (taken from))

-- the positions below it are taken
lower_at : (more from j : ℕ) (taken : ℕ → Bool) (b : Bool) → taken from ≡ b → from ≤ j
    → j < lowest_free (suc more) from taken → (from + 1 ≤ j → j < lowest_free more (from + 1) taken
    → taken j ≡ true) → taken j ≡ true
lower_at more from j taken true e low lt rest =
    let is : lowest_free (suc more) from taken ≡ lowest_free more (from + 1) taken =
    step_of more from taken true e in
    ⊎_elim
    (λ (here : from ≡ j). subst (λ (n : ℕ). taken n ≡ true) here e)
    (λ (above : from < j). let low' : from + 1 ≤ j = omega arith in
    let lt' : j < lowest_free more (from + 1) taken = omega arith in rest low' lt')
    (first_or_later from j low)
lower_at more from j taken false e low lt rest = let is : lowest_free (suc more) from taken ≡ from =
    step_of more from taken false e in absurd (omega arith)

lower_taken : (more from j : ℕ) (taken : ℕ → Bool) → from ≤ j → j < lowest_free more from taken
    → taken j ≡ true
lower_taken zero from j taken low lt = let e : lowest_free 0 from taken ≡ from =
    none_left from taken in absurd (omega arith)
lower_taken (suc more) from j taken low lt =
    lower_at more from j taken (taken from) refl low lt (lower_taken more (from + 1) j taken)

-- and it is free, where it is one of so many
free_at : (more from : ℕ) (taken : ℕ → Bool) (b : Bool) → taken from ≡ b
    → lowest_free (suc more) from taken < from + suc more → (lowest_free more (from
    + 1) taken < from + 1 + more → taken (lowest_free more (from + 1) taken) ≡ false)
    → taken (lowest_free (suc more) from taken) ≡ false
free_at more from taken true e lt rest =
    let is : lowest_free (suc more) from taken ≡ lowest_free more (from + 1) taken =
    step_of more from taken true e in
    let lt' : lowest_free more (from + 1) taken < from + 1 + more = omega arith in
    subst (λ (n : ℕ). taken n ≡ false) (sym is) (rest lt')
free_at more from taken false e lt rest = subst (λ (n : ℕ). taken n
    ≡ false) (sym (step_of more from taken false e)) e

lowest_free_is : (more from : ℕ) (taken : ℕ → Bool) → lowest_free more from taken < from + more
    → taken (lowest_free more from taken) ≡ false
lowest_free_is zero from taken lt = let e : lowest_free 0 from taken ≡ from =
    none_left from taken in absurd (omega arith)
lowest_free_is (suc more) from taken lt =
    free_at more from taken (taken from) refl lt (lowest_free_is more (from + 1) taken)

pub lowest_is_free : LowestIsFree
lowest_is_free most taken = (
  λ j lt. let low : 0 ≤ j = omega arith in lower_taken most 0 j taken low lt,
  λ low. let low' : lowest_free most 0 taken < 0 + most = omega arith in
      lowest_free_is most 0 taken low',
)

-- ---- rows that stand at a position
any_at : {X : Type 0} (at : X → ℕ) (j : ℕ) (xs : List X) → list_any (nat_eq j) (map at xs)
    ≡ list_any (λ x. at x == j) xs
any_at at j [] = refl
any_at at j (x ∷ xs) =
    ap (λ b. b || list_any (nat_eq j) (map at xs)) (turned j (at x))
    ∙ ap (λ b. (at x == j) || b) (any_at at j xs) where
      turned : (a b : ℕ) → (a == b) ≡ (b == a)
      turned a b = grind (arith, common_steps)

passes_on : {X : Type 0} (p : X → Bool) (b : Bool) (x y : X) (found : Option X) (rest : Bool)
    → cond b (Some y) found ≡ Some x → p x ≡ true → (found ≡ Some x → rest ≡ true)
    → (p y || rest) ≡ true
passes_on p true x y found rest e h later = ap (λ b. b || rest) (ap p (some_same y x e) ∙ h)
passes_on p false x y found rest e h later = ap (λ b. p y || b) (later e) ∙ or_true (p y) where
  or_true : (b : Bool) → (b || true) ≡ true
  or_true true = refl
  or_true false = refl

pub found_passes : {K X : Type 0} (R : K → K → Ordering) (p : X
    → Bool) (q : K) (es : List (K × X)) (x : X) → find R q es ≡ Some x → p x ≡ true
    → list_any p (map (λ e. e.1) es) ≡ true
found_passes R p q [] x e h = absurd (none_some x e)
found_passes R p q (f ∷ es) x e h = passes_on p (eq_by_cmp R q f.0) x f.1 (find R q es)
    (list_any p (map (λ e. e.1) es)) e h (λ e'. found_passes R p q es x e' h)

module _ {K X : Type 0} {R : K → K → Ordering} (o : IsTotalOrder R) (same : IsAntisymmetric R)
    (key : X → K) (at : X → ℕ) (most : ℕ) where
  pub places_inserted : (m : FinMap R X) (k : K) (v : X) → key v ≡ k → at v < most
      → ((q : K) (x : X) → maps.get m q ≡ Some x → at x ≡ at v → ⊥) → HasPlaces key at most m
      → HasPlaces key at most (maps.insert m k v)
  places_inserted m k v own low free h = record {
    own_key = λ q x e. ⊎_elim
        (λ is. ap key (sym (here q x is e)) ∙ (own ∙ sym is))
        (λ ne. h.own_key q x (beside q x ne e)) (cases_key o same q k);
    below = λ q x e. ⊎_elim
        (λ is. subst (λ (y : X). at y < most) (here q x is e) low)
        (λ ne. h.below q x (beside q x ne e)) (cases_key o same q k);
    apart = λ q r x y e f level. ⊎_elim
        (λ is. ⊎_elim
        (λ is'. is ∙ sym is')
        (λ ne'. absurd (free r y (beside r y ne' f) (sym level ∙ ap at (sym (here q x is e)))))
        (cases_key o same r k))
        (λ ne. ⊎_elim
        (λ is'. absurd (free q x (beside q x ne e) (level ∙ ap at (sym (here r y is' f)))))
        (λ ne'. h.apart q r x y (beside q x ne e) (beside r y ne' f) level)
        (cases_key o same r k))
        (cases_key o same q k);
  } where
    here : (q : K) (x : X) → q ≡ k → maps.get (maps.insert m k v) q ≡ Some x → v ≡ x
    here q x is e = some_same v x (sym (get-insert_at o same m k v)
        ∙ (ap (λ (p : K). maps.get (maps.insert m k v) p) (sym is) ∙ e))

    beside : (q : K) (x : X) → (q ≡ k → ⊥) → maps.get (maps.insert m k v) q ≡ Some x
        → maps.get m q ≡ Some x
    beside q x ne e = sym (get-insert_beside o same m k v q ne) ∙ e

  pub places_removed : (m : FinMap R X) (k : K) → HasPlaces key at most m
      → HasPlaces key at most (maps.remove m k)
  places_removed m k h = record {
    own_key = λ q x e. h.own_key q x (was q x e);
    below = λ q x e. h.below q x (was q x e);
    apart = λ q r x y e f level. h.apart q r x y (was q x e) (was r y f) level;
  } where
    was : (q : K) (x : X) → maps.get (maps.remove m k) q ≡ Some x → maps.get m q ≡ Some x
    was q x e = ⊎_elim
        (λ (is : q ≡ k). absurd (none_some x (sym (get-remove_at o same m k)
        ∙ (ap (λ (p : K). maps.get (maps.remove m k) p) (sym is) ∙ e))))
        (λ ne. sym (get-remove_beside o same m k q ne) ∙ e)
        (cases_key o same q k)

  pub places_updated : (m : FinMap R X) (k : K) (f : X → X) → ((x : X) → key (f x) ≡ key x)
      → ((x : X) → at (f x) ≡ at x) → HasPlaces key at most m
      → HasPlaces key at most (update_at m k f)
  places_updated m k f keys ats h = record {
    own_key = λ q y e. let w = was_at o same m k f q y e in ⊎_elim (λ z. ap key z.1
        ∙ keys w.x) (λ z. ap key z) w.how ∙ h.own_key q w.x w.found;
    below = λ q y e. let w = was_at o same m k f q y e in
        subst (λ (n : ℕ). n < most) (sym (at_of q y e)) (h.below q w.x w.found);
    apart = λ q r x y e g level.
        let v = was_at o same m k f q x e in
        let w = was_at o same m k f r y g in
        h.apart q r v.x w.x v.found w.found (sym (at_of q x e) ∙ (level ∙ at_of r y g));
  } where
    at_of : (q : K) (y : X) (e : maps.get (update_at m k f) q ≡ Some y)
        → at y ≡ at (was_at o same m k f q y e).x
    at_of q y e = ⊎_elim (λ z. ap at z.1 ∙ ats (was_at o same m k f q y e).x) (λ z. ap at z)
        (was_at o same m k f q y e).how

  abbrev taken_in : FinMap R X → ℕ → Bool
  taken_in m j = list_any (λ x. at x == j) (maps.values m)

  full_is_long : (m : FinMap R X) → AllTaken most 0 (taken_in m) → most ≤ maps.len m
  full_is_long m full =
      let enough : most ≤ length (map at (maps.values m)) =
      le-length_from_below (map at (maps.values m)) most (λ q lt. any_at at q (maps.values m)
      ∙ full q (omega arith) (omega arith)) in
      let counts : maps.len m ≡ length (maps.entries m) = maps.len-entries m in
      let rows : length (map at (maps.values m)) ≡ length (maps.entries m) =
      length-map (maps.values m) at ∙ length-map (maps.entries m) (λ (e : K × X). e.1) in
      omega arith

  -- where there is room, the lowest free position is in range, and no row stands there
  pub place_is_free : (m : FinMap R X) → maps.len m < most → IsFree most 0 (taken_in m)
  place_is_free m room = ⊎_elim
      (λ h. h)
      (λ full. absurd (let long : most ≤ maps.len m = full_is_long m full in omega arith))
      (free_or_full most 0 (taken_in m))

  pub stands_at_none : (m : FinMap R X) (j : ℕ) → taken_in m j ≡ false → (q : K) (x : X)
      → maps.get m q ≡ Some x → at x ≡ j → ⊥
  stands_at_none m j free q x e is = both_ways (taken_in m j) free
      (found_passes R (λ (y : X). at y == j) q (maps.entries m) x (sym (maps.get-entries m q)
      ∙ e) (eq-eqb (at x) j is))
