-- Finite maps with one entry.
use Rattle.std.proofs.Common.{◌≡◌, Bool, true, false, cond, List, [], ◌∷◌, Some, length, map as each, arith, refl, sym, ap, ◌∙◌}
use Rattle.std.specs.Ordering.{eq_by_cmp}
use Rattle.std.specs.declared.cmp.Ordering.{Ordering}
use Rattle.std.specs.Cmp.{IsTotalOrder}
use Rattle.std.specs.FinMap as map
use Rattle.std.specs.FinMap.{FinMap, IsAntisymmetric, put}
use Rattle.configfs_rows.specs.Maps.{updated, update_at}
use Rattle.configfs_rows.proofs.Gets.{get-insert_at}

abbrev pub single : {K X : Type 0} {R : K → K → Ordering} → K → X → FinMap R X
single k x = map.insert map.empty k x

nil_of_length : {A : Type 0} (es : List A) → length es ≡ 0 → es ≡ []
nil_of_length [] e = refl
nil_of_length (x ∷ es) e = absurd (omega arith)

no_entries : (K X : Type 0) (R : K → K → Ordering) → map.entries (map.empty {X = X} {R = R}) ≡ []
no_entries K X R = nil_of_length _ (sym (map.len-entries (map.empty {X = X} {R = R}))
    ∙ map.len-empty R X)

pub no_values : (K X : Type 0) (R : K → K → Ordering) → map.values (map.empty {X = X} {R = R}) ≡ []
no_values K X R = ap (λ (es : List (K × X)). each (λ e. e.1) es) (no_entries K X R)

cond_again : {A : Type 0} (b : Bool) (x y z : A) → cond b y (cond b x z) ≡ cond b y z
cond_again true x y z = refl
cond_again false x y z = refl

module _ {K X : Type 0} {R : K → K → Ordering} (o : IsTotalOrder R) (same : IsAntisymmetric R) where
  pub get_single : (k : K) (x : X) → map.get (single {R = R} k x) k ≡ Some x
  get_single k x = get-insert_at o same map.empty k x

  pub values_single : (k : K) (x : X) → map.values (single {R = R} k x) ≡ x ∷ []
  values_single k x = ap (λ (es : List (K × X)). each (λ e. e.1) es)
      (map.entries-insert o (map.empty {X = X} {R = R}) k x ∙ ap (put R k x) (no_entries K X R))

  insert_again : (k : K) (x y : X) → map.insert (single {R = R} k x) k y ≡ single k y
  insert_again k x y = map.same_map o same _ _ (λ q.
      map.get-insert o (single {R = R} k x) k y q
      ∙ ap (cond (eq_by_cmp R q k) (Some y)) (map.get-insert o (map.empty {X = X} {R = R}) k x q)
      ∙ cond_again (eq_by_cmp R q k) (Some x) (Some y) (map.get (map.empty {X = X} {R = R}) q)
      ∙ sym (map.get-insert o (map.empty {X = X} {R = R}) k y q))

  pub update_single : (k : K) (x : X) (f : X → X) → update_at (single {R = R} k x) k f
      ≡ single k (f x)
  update_single k x f = ap (updated (single {R = R} k x) k f) (get_single k x)
      ∙ insert_again k x (f x)
