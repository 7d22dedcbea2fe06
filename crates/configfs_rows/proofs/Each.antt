-- Rows of a map after an insert, a removal and a write; and a row that is found by a scan of a
-- map's values.
use Rattle.std.proofs.Common.{◌≡◌, ◌⊎◌, inl, inr, ◌+◌, ◌-◌, ◌≤◌, Option, is_some, ℕ, ◌&&◌, Bool, true, false, cond, T, List, [], ◌∷◌, map, Some, None, refl, sym, ap, subst, ◌∙◌, ◌||◌, ◌==◌, arith}
use mathlib.Core.Logic.{⊎_elim}
use Rattle.std.specs.List.{find, list_any}
use Rattle.std.proofs.lemmas.Bool.{both_ways}
use Rattle.std.specs.Ordering.{eq_by_cmp, is_lt, is_eq}
use Rattle.std.specs.declared.cmp.Ordering.{Ordering}
use Rattle.std.specs.declared.cmp.Ordering.TheVariants.{Less, Equal, Greater}
use Rattle.std.specs.Cmp.{IsTotalOrder, eq_by_cmp_equiv}
use Rattle.std.specs.FinMap as maps
use Rattle.std.specs.FinMap.{FinMap, IsAntisymmetric}
use Rattle.std.specs.FinMap.Entries as entries
use Rattle.configfs_rows.specs.Maps.{update_at}
use Rattle.configfs_rows.specs.Places.{HasPlaces}
use Rattle.configfs_rows.proofs.Gets.{some_same, none_some, tied_is, cases_key, get-insert_at, get-insert_beside, get-remove_at, get-remove_beside, get-update_at, get-update_beside, was_at}
use Rattle.configfs_rows.proofs.Placing.{found_passes}

-- a row at a key, at this position
pub record RowAt {K X : Type 0} {R : K → K → Ordering} (at : X
    → ℕ) (m : FinMap R X) (k : K) (place : ℕ) : Type 0 where
  pub row : X
  pub found : maps.get m k ≡ Some row
  pub at_is : at row ≡ place

-- rows at busy positions stay, at their positions
abbrev pub StaysAt : {K X : Type 0} {R : K → K → Ordering} → (X → ℕ) → (ℕ → Bool) → FinMap R X
    → FinMap R X → Type 0
StaysAt {K} {X} at busy m w = (k : K) (x : X) → maps.get m k ≡ Some x → busy (at x) ≡ true
    → RowAt at w k (at x)

-- each row has a property, which may speak of its key
abbrev pub EachRow : {K X : Type 0} {R : K → K → Ordering} → (K → X → Type 0) → FinMap R X → Type 0
EachRow {K} {X} Q m = (k : K) (x : X) → maps.get m k ≡ Some x → Q k x

module _ {K X : Type 0} {R : K → K → Ordering} (o : IsTotalOrder R) (same : IsAntisymmetric R) where
  pub stays_same : (at : X → ℕ) (busy : ℕ → Bool) (m : FinMap R X) → StaysAt at busy m m
  stays_same at busy m k x e b = record { row = x; found = e; at_is = refl }

  pub stays_inserted : (at : X → ℕ) (busy : ℕ → Bool) (m : FinMap R X) (q : K) (v : X)
      → maps.get m q ≡ None → StaysAt at busy m (maps.insert m q v)
  stays_inserted at busy m q v none k x e b = ⊎_elim
      (λ (is : k ≡ q). absurd (none_some x (sym none ∙ (ap (λ (p : K). maps.get m p) (sym is)
      ∙ e))))
      (λ ne. record { row = x; found = get-insert_beside o same m q v k ne ∙ e; at_is = refl })
      (cases_key o same k q)

  pub stays_removed : (at : X → ℕ) (busy : ℕ → Bool) (m : FinMap R X) (q : K) (y : X)
      → maps.get m q ≡ Some y → busy (at y) ≡ false → StaysAt at busy m (maps.remove m q)
  stays_removed at busy m q y f free k x e b = ⊎_elim
      (λ (is : k ≡ q).
      let x_is : x ≡ y = some_same x y (sym e ∙ (ap (λ (p : K). maps.get m p) is ∙ f)) in
      absurd (both_ways (busy (at y)) free (ap (λ (z : X). busy (at z)) (sym x_is) ∙ b)))
      (λ ne. record { row = x; found = get-remove_beside o same m q k ne ∙ e; at_is = refl })
      (cases_key o same k q)

  pub stays_updated : (at : X → ℕ) (busy : ℕ → Bool) (m : FinMap R X) (q : K) (f : X → X)
      → ((x : X) → at (f x) ≡ at x) → StaysAt at busy m (update_at m q f)
  stays_updated at busy m q f ats k x e b = ⊎_elim
      (λ (is : k ≡ q). record {
        row = f x;
        found = ap (λ (p : K). maps.get (update_at m q f) p) is
            ∙ get-update_at o same m q f x (ap (λ (p : K). maps.get m p) (sym is) ∙ e);
        at_is = ats x;
      })
      (λ ne. record { row = x; found = get-update_beside o same m q f k ne ∙ e; at_is = refl })
      (cases_key o same k q)

  pub each_inserted : (Q : K → X → Type 0) (m : FinMap R X) (q : K) (v : X) → Q q v → EachRow Q m
      → EachRow Q (maps.insert m q v)
  each_inserted Q m q v h each k x e = ⊎_elim
      (λ (is : k ≡ q).
      let x_is : v ≡ x = some_same v x (sym (get-insert_at o same m q v)
      ∙ (ap (λ (p : K). maps.get (maps.insert m q v) p) (sym is) ∙ e)) in
      subst (λ (p : K). Q p x) (sym is) (subst (λ (y : X). Q q y) x_is h))
      (λ ne. each k x (sym (get-insert_beside o same m q v k ne) ∙ e))
      (cases_key o same k q)

  pub each_removed : (Q : K → X → Type 0) (m : FinMap R X) (q : K) → EachRow Q m
      → EachRow Q (maps.remove m q)
  each_removed Q m q each k x e = ⊎_elim
      (λ (is : k ≡ q). absurd (none_some x (sym (get-remove_at o same m q)
      ∙ (ap (λ (p : K). maps.get (maps.remove m q) p) (sym is) ∙ e))))
      (λ ne. each k x (sym (get-remove_beside o same m q k ne) ∙ e))
      (cases_key o same k q)

  pub each_updated : (Q : K → X → Type 0) (m : FinMap R X) (q : K) (f : X → X)
      → ((x : X) → maps.get m q ≡ Some x → Q q x → Q q (f x)) → EachRow Q m
      → EachRow Q (update_at m q f)
  each_updated Q m q f keeps each k y e =
      let w = was_at o same m q f k y e in
      ⊎_elim
      (λ z.
      let found : maps.get m q ≡ Some w.x = ap (λ (p : K). maps.get m p) (sym z.0) ∙ w.found in
      subst (λ (p : K). Q p y) (sym z.0) (subst (λ (x : X). Q q x) (sym z.1)
      (keeps w.x found (each q w.x found))))
      (λ z. subst (λ (x : X). Q k x) (sym z) (each k w.x w.found))
      w.how

  -- ---- keys that are there
  pub had_inserted : (m : FinMap R X) (q : K) (v : X) (k : K) → maps.contains_key m k ≡ true
      → maps.contains_key (maps.insert m q v) k ≡ true
  had_inserted m q v k had = ⊎_elim
      (λ (is : k ≡ q). ap (λ (p : K). maps.contains_key (maps.insert m q v) p) is
      ∙ ap is_some (get-insert_at o same m q v))
      (λ ne. ap is_some (get-insert_beside o same m q v k ne) ∙ had)
      (cases_key o same k q)

  pub had_removed : (m : FinMap R X) (q k : K) → (k ≡ q → ⊥) → maps.contains_key m k ≡ true
      → maps.contains_key (maps.remove m q) k ≡ true
  had_removed m q k ne had = ap is_some (get-remove_beside o same m q k ne) ∙ had

  had_updated_at : (m : FinMap R X) (q : K) (f : X → X) (found : Option X) → maps.get m q ≡ found
      → maps.contains_key m q ≡ true → maps.contains_key (update_at m q f) q ≡ true
  had_updated_at m q f None e had = absurd (both_ways (maps.contains_key m q) (ap is_some e) had)
  had_updated_at m q f (Some x) e had = ap is_some (get-update_at o same m q f x e)

  pub had_updated : (m : FinMap R X) (q : K) (f : X → X) (k : K) → maps.contains_key m k ≡ true
      → maps.contains_key (update_at m q f) k ≡ true
  had_updated m q f k had = ⊎_elim
      (λ (is : k ≡ q). ap (λ (p : K). maps.contains_key (update_at m q f) p) is
      ∙ had_updated_at m q f (maps.get m q) refl (ap (λ (p : K). maps.contains_key m p) (sym is)
      ∙ had))
      (λ ne. ap is_some (get-update_beside o same m q f k ne) ∙ had)
      (cases_key o same k q)

  -- a key that is there after an insert was there, or was put
  pub has_inserted : (m : FinMap R X) (q : K) (v : X) (k : K)
      → maps.contains_key (maps.insert m q v) k ≡ true → (k ≡ q) ⊎ (maps.contains_key m k ≡ true)
  has_inserted m q v k has = ⊎_elim
      (λ (is : k ≡ q). inl is)
      (λ ne. inr (sym (ap is_some (get-insert_beside o same m q v k ne)) ∙ has))
      (cases_key o same k q)

  pub has_removed : (m : FinMap R X) (q k : K) → maps.contains_key (maps.remove m q) k ≡ true
      → (k ≡ q → ⊥) × (maps.contains_key m k ≡ true)
  has_removed m q k has = ⊎_elim
      (λ (is : k ≡ q). absurd (both_ways (maps.contains_key (maps.remove m q) k)
      (ap (λ (p : K). maps.contains_key (maps.remove m q) p) is
      ∙ ap is_some (get-remove_at o same m q)) has))
      (λ ne. (ne, sym (ap is_some (get-remove_beside o same m q k ne)) ∙ has))
      (cases_key o same k q)

  pub none_there : (m : FinMap R X) (k : K) → maps.len m ≡ 0 → maps.contains_key m k ≡ true → ⊥
  none_there m k e has = both_ways (maps.contains_key m k) (ap
      (λ (n : FinMap R X). maps.contains_key n k) (maps.empty_of_len m e)
      ∙ ap is_some (maps.get-empty R k)) has

  pub len_inserted : (m : FinMap R X) (k : K) (v : X) → maps.len (maps.insert m k v) ≤ maps.len m
      + 1
  len_inserted m k v = by_case (maps.contains_key m k) (maps.len-insert o m k v) where
    by_case : (b : Bool) → maps.len (maps.insert m k v) ≡ cond b (maps.len m) (maps.len m + 1)
        → maps.len (maps.insert m k v) ≤ maps.len m + 1
    by_case true e = omega arith
    by_case false e = omega arith

  pub len_removed : (m : FinMap R X) (k : K) → maps.len (maps.remove m k) ≤ maps.len m
  len_removed m k = by_case (maps.contains_key m k) (maps.len-remove o m k) where
    by_case : (b : Bool) → maps.len (maps.remove m k) ≡ cond b (maps.len m - 1) (maps.len m)
        → maps.len (maps.remove m k) ≤ maps.len m
    by_case true e = omega arith
    by_case false e = omega arith

  -- where no row passes a test, none that is found does
  pub none_passing : (p : X → Bool) (m : FinMap R X) (k : K) (x : X)
      → list_any p (maps.values m) ≡ false → maps.get m k ≡ Some x → p x ≡ true → ⊥
  none_passing p m k x none e is = both_ways (list_any p (maps.values m)) none
      (found_passes R p k (maps.entries m) x (sym (maps.get-entries m k) ∙ e) is)

-- ---- a scan of the values
pub record RowOf {K X : Type 0} {R : K → K → Ordering} (m : FinMap R X) (x : X) : Type 0 where
  pub key : K
  pub found : maps.get m key ≡ Some x

both_t : (a b : Bool) → T (a && b) → T a × T b
both_t true b h = (tt, h)
both_t false b h = absurd h

less_untied : (o : Ordering) → T (is_lt o) → is_eq o ≡ false
less_untied Less h = refl
less_untied Equal h = absurd h
less_untied Greater h = absurd h

below_none : {K X : Type 0} (R : K → K → Ordering) (q : K) (es : List (K × X))
    → T (entries.below_all R q es) → entries.find R q es ≡ None
below_none R q [] h = refl
below_none R q (e ∷ es) h =
    let b = both_t (is_lt (R q e.0)) (entries.below_all R q es) h in
    ap (λ t. cond t (Some e.1) (entries.find R q es)) (less_untied (R q e.0) b.0)
    ∙ below_none R q es b.1

pub record Keyed {K X : Type 0} (R : K → K → Ordering) (es : List (K × X)) (x : X) : Type 0 where
  pub key : K
  pub found : entries.find R key es ≡ Some x

module _ {K X : Type 0} {R : K → K → Ordering} (o : IsTotalOrder R) (same : IsAntisymmetric R)
    (p : X → Bool) where
  later : (e : K × X) (es : List (K × X)) (x : X) → T (entries.below_all R e.0 es) → Keyed R es x
      → Keyed R (e ∷ es) x
  later e es x low w = on_key (eq_by_cmp R w.key e.0) refl where
    on_key : (b : Bool) → eq_by_cmp R w.key e.0 ≡ b → Keyed R (e ∷ es) x
    on_key true is = absurd (none_some x (sym (ap (λ (k : K). entries.find R k es)
        (tied_is o same w.key e.0 is) ∙ below_none R e.0 es low) ∙ w.found))
    on_key false is = record {
      key = w.key;
      found = ap (λ t. cond t (Some e.1) (entries.find R w.key es)) is ∙ w.found;
    }

  here : (e : K × X) (es : List (K × X)) (x : X) → Some e.1 ≡ Some x → Keyed R (e ∷ es) x
  here e es x is = record {
    key = e.0;
    found =
        ap (λ t. cond t (Some e.1) (entries.find R e.0 es)) ((eq_by_cmp_equiv o).refl e.0) ∙ is;
  }

  scanned_on : (e : K × X) (es : List (K × X)) (x : X) (b : Bool) → T (entries.below_all R e.0 es)
      → cond b (Some e.1) (find p (map (λ f. f.1) es)) ≡ Some x
      → (find p (map (λ f. f.1) es) ≡ Some x → Keyed R es x) → Keyed R (e ∷ es) x
  scanned_on e es x true low is rest = here e es x is
  scanned_on e es x false low is rest = later e es x low (rest is)

  scanned : (es : List (K × X)) (x : X) → T (entries.is_sorted R es)
      → find p (map (λ f. f.1) es) ≡ Some x → Keyed R es x
  scanned [] x s e = absurd (none_some x e)
  scanned (f ∷ es) x s e =
      let b = both_t (entries.below_all R f.0 es) (entries.is_sorted R es) s in
      scanned_on f es x (p f.1) b.0 e (scanned es x b.1)

  -- what a scan finds is a row of the map
  pub scan_found : (m : FinMap R X) (x : X) → find p (maps.values m) ≡ Some x → RowOf m x
  scan_found m x e =
      let w = scanned (maps.entries m) x (maps.entries_sorted m) e in
      record { key = w.key; found = maps.get-entries m w.key ∙ w.found }

pub record Passing {X : Type 0} (p : X → Bool) (xs : List X) : Type 0 where
  pub row : X
  pub found : find p xs ≡ Some row
  pub passes : p row ≡ true

passing : {X : Type 0} (p : X → Bool) (x : X) (xs : List X) (b : Bool) → p x ≡ b
    → (b ≡ false → Passing p xs) → Passing p (x ∷ xs)
passing p x xs true e rest = record {
  row = x;
  found = ap (λ b. cond b (Some x) (find p xs)) e;
  passes = e;
}
passing p x xs false e rest = let w = rest refl in record {
  row = w.row;
  found =
      ap (λ b. cond b (Some x) (find p xs)) e ∙ w.found;
  passes = w.passes;
}

any_rest : {X : Type 0} (p : X → Bool) (x : X) (xs : List X) → p x ≡ false
    → list_any p (x ∷ xs) ≡ true → list_any p xs ≡ true
any_rest p x xs e any = sym (ap (λ b. b || list_any p xs) e) ∙ any

pub first_passing : {X : Type 0} (p : X → Bool) (xs : List X) → list_any p xs ≡ true → Passing p xs
first_passing p [] any = absurd (both_ways false refl any)
first_passing p (x ∷ xs) any = passing p x xs (p x) refl (λ miss. first_passing p xs
    (any_rest p x xs miss any))

-- the row at a key is what a scan by its position finds, since positions are apart
module _ {K X : Type 0} {R : K → K → Ordering} (o : IsTotalOrder R) (same : IsAntisymmetric R)
    (key : X → K) (at : X → ℕ) (most : ℕ) where
  pub scan_row : (m : FinMap R X) (k : K) (x : X) → HasPlaces key at most m → maps.get m k ≡ Some x
      → find (λ y. at y == at x) (maps.values m) ≡ Some x
  scan_row m k x h e =
      let any : list_any (λ (y : X). at y == at x) (maps.values m) ≡ true =
      found_passes R (λ (y : X). at y == at x) k (maps.entries m) x (sym (maps.get-entries m k)
      ∙ e) (eqb_same (at x)) in
      let w = first_passing (λ (y : X). at y == at x) (maps.values m) any in
      let r = scan_found o same (λ (y : X). at y == at x) m w.row w.found in
      let keys : r.key ≡ k = h.apart r.key k w.row x r.found e (eqb_is (at w.row) (at x) w.passes)
      in
      w.found ∙ (sym r.found ∙ (ap (λ (q : K). maps.get m q) keys ∙ e)) where
        eqb_same : (n : ℕ) → (n == n) ≡ true
        eqb_same n = grind arith

        eqb_is : (a b : ℕ) → (a == b) ≡ true → a ≡ b
        eqb_is a b e = grind arith
