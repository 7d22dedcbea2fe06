-- What a look-up finds after an insert, a removal and a write.
use Rattle.std.proofs.Common.{◌≡◌, ◌⊎◌, inl, inr, true, false, cond, Option, Some, None, refl, sym, ap, subst, ◌∙◌}
use mathlib.Core.Logic.{⊎_elim}
use Rattle.std.proofs.lemmas.Bool.{cases_Bool, both_ways}
use Rattle.std.specs.Ordering.{eq_by_cmp}
use Rattle.std.specs.declared.cmp.Ordering.{Ordering}
use Rattle.std.specs.Cmp.{IsTotalOrder, eq_by_cmp_equiv, Equal-is}
use Rattle.std.specs.FinMap as map
use Rattle.std.specs.FinMap.{FinMap, IsAntisymmetric}
use Rattle.configfs_rows.specs.Maps.{updated, update_at}

pub some_same : {X : Type 0} (x y : X) → Some x ≡ Some y → x ≡ y
some_same x y e = cc

pub none_some : {X : Type 0} (x : X) → None ≡ Some x → ⊥
none_some x e = cc

module _ {K : Type 0} {R : K → K → Ordering} (o : IsTotalOrder R) (same : IsAntisymmetric R) where
  pub tied_is : (q k : K) → eq_by_cmp R q k ≡ true → q ≡ k
  tied_is q k e = same q k ((Equal-is (R q k)).0 e)

  pub tied : (q k : K) → q ≡ k → eq_by_cmp R q k ≡ true
  tied q k e = subst (λ (x : K). eq_by_cmp R q x ≡ true) e ((eq_by_cmp_equiv o).refl q)

  pub cases_key : (q k : K) → (q ≡ k) ⊎ (q ≡ k → ⊥)
  cases_key q k = ⊎_elim (λ e. inl (tied_is q k e)) (λ e. inr
      (λ is. both_ways (eq_by_cmp R q k) e (tied q k is))) (cases_Bool (eq_by_cmp R q k))

  untied : (q k : K) → (q ≡ k → ⊥) → eq_by_cmp R q k ≡ false
  untied q k ne = ⊎_elim (λ e. absurd (ne (tied_is q k e))) (λ e. e) (cases_Bool (eq_by_cmp R q k))

module _ {K X : Type 0} {R : K → K → Ordering} (o : IsTotalOrder R) (same : IsAntisymmetric R) where
  pub get-insert_at : (m : FinMap R X) (k : K) (v : X) → map.get (map.insert m k v) k ≡ Some v
  get-insert_at m k v = map.get-insert o m k v k
      ∙ ap (λ b. cond b (Some v) (map.get m k)) (tied o same k k refl)

  pub get-insert_beside : (m : FinMap R X) (k : K) (v : X) (q : K) → (q ≡ k → ⊥)
      → map.get (map.insert m k v) q ≡ map.get m q
  get-insert_beside m k v q ne = map.get-insert o m k v q
      ∙ ap (λ b. cond b (Some v) (map.get m q)) (untied o same q k ne)

  pub get-remove_at : (m : FinMap R X) (k : K) → map.get (map.remove m k) k ≡ None
  get-remove_at m k = map.get-remove o m k k
      ∙ ap (λ b. cond b None (map.get m k)) (tied o same k k refl)

  pub get-remove_beside : (m : FinMap R X) (k : K) (q : K) → (q ≡ k → ⊥)
      → map.get (map.remove m k) q ≡ map.get m q
  get-remove_beside m k q ne = map.get-remove o m k q
      ∙ ap (λ b. cond b None (map.get m q)) (untied o same q k ne)

  pub get-update_at : (m : FinMap R X) (k : K) (f : X → X) (x : X) → map.get m k ≡ Some x
      → map.get (update_at m k f) k ≡ Some (f x)
  get-update_at m k f x e = ap (λ (found : Option X). map.get (updated m k f found) k) e
      ∙ get-insert_at m k (f x)

  pub update_none : (m : FinMap R X) (k : K) (f : X → X) → map.get m k ≡ None → update_at m k f ≡ m
  update_none m k f e = ap (updated m k f) e

  updated_beside : (m : FinMap R X) (k : K) (f : X → X) (found : Option X) (q : K) → (q ≡ k → ⊥)
      → map.get (updated m k f found) q ≡ map.get m q
  updated_beside m k f None q ne = refl
  updated_beside m k f (Some x) q ne = get-insert_beside m k (f x) q ne

  pub get-update_beside : (m : FinMap R X) (k : K) (f : X → X) (q : K) → (q ≡ k → ⊥)
      → map.get (update_at m k f) q ≡ map.get m q
  get-update_beside m k f q ne = updated_beside m k f (map.get m k) q ne

  -- where a row of the new map comes from
  pub record WasAt (m : FinMap R X) (k : K) (f : X → X) (q : K) (y : X) : Type 0 where
    pub x : X
    pub found : map.get m q ≡ Some x
    pub how : ((q ≡ k) × (y ≡ f x)) ⊎ (y ≡ x)

  was_here : (m : FinMap R X) (k : K) (f : X → X) (y : X) (found : Option X) → map.get m k ≡ found
      → map.get (update_at m k f) k ≡ Some y → WasAt m k f k y
  was_here m k f y None e got = absurd (none_some y (sym e
      ∙ (sym (ap (λ (n : FinMap R X). map.get n k) (update_none m k f e)) ∙ got)))
  was_here m k f y (Some x) e got = record {
    x = x;
    found = e;
    how = inl (refl, some_same y (f x) (sym got ∙ get-update_at m k f x e));
  }

  pub was_at : (m : FinMap R X) (k : K) (f : X → X) (q : K) (y : X)
      → map.get (update_at m k f) q ≡ Some y → WasAt m k f q y
  was_at m k f q y got = ⊎_elim
      (λ (e : q ≡ k). subst (λ (p : K). WasAt m k f p y) (sym e)
      (was_here m k f y (map.get m k) refl (sym (ap (λ (p : K). map.get (update_at m k f) p) e)
      ∙ got)))
      (λ ne. record { x = y; found = sym (get-update_beside m k f q ne) ∙ got; how = inr refl })
      (cases_key o same q k)
