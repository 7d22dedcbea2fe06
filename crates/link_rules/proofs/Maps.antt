-- A map after what stands at a key was changed, and a set of names after one was put in or taken
-- away.
use Rattle.std.proofs.Common.{◌≡◌, ◌⊎◌, inl, inr, Bool, true, false, cond, not, List, [], ◌∷◌, Option, Some, None, refl, sym, ap, subst, ◌∙◌, IsTrue}
use mathlib.Core.Logic.{⊎_elim}
use Rattle.std.proofs.lemmas.Bool.{cases_Bool, both_ways}
use Rattle.std.specs.List.{find, list_any}
use Rattle.std.specs.Option.{is_some}
use Rattle.std.specs.Ordering.{eq_by_cmp}
use Rattle.std.specs.declared.cmp.Ordering.{Ordering}
use Rattle.std.specs.Cmp.{IsTotalOrder, eq_by_cmp_equiv, Equal-is}
use Rattle.std.specs.FinMap as map
use Rattle.std.specs.FinMap.{FinMap, IsAntisymmetric}
use Rattle.configfs_rows.specs.Maps.{updated, update_at, kept_or_taken}

pub some_same : {X : Type 0} (x y : X) → Some x ≡ Some y → x ≡ y
some_same x y e = cc

pub none_some : {X : Type 0} (x : X) → None ≡ Some x → ⊥
none_some x e = cc

-- what is found passes the test
pub found_any : {X : Type 0} (p : X → Bool) (xs : List X) (x : X) → find p xs ≡ Some x
    → list_any p xs ≡ true
found_any p [] x e = absurd (none_some x e)
found_any p (y ∷ xs) x e = elim (cases_Bool (p y)) [
  | inl here ↦ rw here refl
  | inr beside ↦ let rest : find p xs ≡ Some x = rw beside at e in rw
      (beside, found_any p xs x rest) refl
]

module _ {K : Type 0} {R : K → K → Ordering} (o : IsTotalOrder R) (same : IsAntisymmetric R) where
  tied_is : (q k : K) → eq_by_cmp R q k ≡ true → q ≡ k
  tied_is q k e = same q k ((Equal-is (R q k)).0 e)

  pub tied : (q k : K) → q ≡ k → eq_by_cmp R q k ≡ true
  tied q k e = subst (λ (x : K). eq_by_cmp R q x ≡ true) e ((eq_by_cmp_equiv o).refl q)

  pub cases_key : (q k : K) → (q ≡ k) ⊎ (q ≡ k → ⊥)
  cases_key q k = ⊎_elim (λ e. inl (tied_is q k e)) (λ e. inr
      (λ is. both_ways (eq_by_cmp R q k) e (tied q k is))) (cases_Bool (eq_by_cmp R q k))

  untied : (q k : K) → (q ≡ k → ⊥) → eq_by_cmp R q k ≡ false
  untied q k ne = ⊎_elim (λ e. absurd (ne (tied_is q k e))) (λ e. e) (cases_Bool (eq_by_cmp R q k))

module _ {K X : Type 0} {R : K → K → Ordering} (o : IsTotalOrder R) (same : IsAntisymmetric R) where
  updated_is : (m : FinMap R X) (k : K) (f : X → X) (x : X) → map.get m k ≡ Some x
      → update_at m k f ≡ map.insert m k (f x)
  updated_is m k f x e = ap (updated m k f) e

  pub get_here : (m : FinMap R X) (k : K) (f : X → X) (x : X) → map.get m k ≡ Some x
      → map.get (update_at m k f) k ≡ Some (f x)
  get_here m k f x e = ap (λ (w : FinMap R X). map.get w k) (updated_is m k f x e)
      ∙ (map.get-insert o m k (f x) k
      ∙ ap (λ b. cond b (Some (f x)) (map.get m k)) (tied o same k k refl))

  pub get_beside : (m : FinMap R X) (k : K) (f : X → X) (x : X) → map.get m k ≡ Some x
      → (q : K) → (q ≡ k → ⊥) → map.get (update_at m k f) q ≡ map.get m q
  get_beside m k f x e q ne = ap (λ (w : FinMap R X). map.get w q) (updated_is m k f x e)
      ∙ (map.get-insert o m k (f x) q
      ∙ ap (λ b. cond b (Some (f x)) (map.get m q)) (untied o same q k ne))

  -- what a change leaves of a row, it leaves at each key
  pub look_same : {Y : Type 0} (look : Option X → Y) (m : FinMap R X) (k : K) (f : X → X) (x : X)
      → map.get m k ≡ Some x → look (Some (f x)) ≡ look (Some x) → (q : K)
      → look (map.get (update_at m k f) q) ≡ look (map.get m q)
  look_same {Y} look m k f x e left q = ⊎_elim
      (λ (is : q ≡ k). subst (λ (p : K). look (map.get (update_at m k f) p) ≡ look (map.get m p))
      (sym is) (ap look (get_here m k f x e) ∙ (left ∙ ap look (sym e))))
      (λ ne. ap look (get_beside m k f x e q ne))
      (cases_key o same q k)

-- a set of names has a name that was put in, and hasn't one that was taken away
pub kept_has : {K : Type 0} {R : K → K → Ordering} (o : IsTotalOrder R) (m : FinMap R (Unit {0}))
    (k : K) (kept : Bool) → is_some (map.get (kept_or_taken m k kept) k) ≡ kept
kept_has o m k true = ap is_some (map.get-insert o m k tt k
    ∙ ap (λ b. cond b (Some tt) (map.get m k)) ((eq_by_cmp_equiv o).refl k))
kept_has o m k false = ap is_some (map.get-remove o m k k
    ∙ ap (λ b. cond b None (map.get m k)) ((eq_by_cmp_equiv o).refl k))

not_both : (b : Bool) → b ≡ not b → ⊥
not_both true e = cc
not_both false e = cc

-- so it is another set where the name wasn't there before it was put in, or was before it was taken
pub kept_differs : {K : Type 0} {R : K → K → Ordering} (o : IsTotalOrder R)
    (m : FinMap R (Unit {0})) (k : K) (kept : Bool) → map.contains_key m k ≡ not kept
    → kept_or_taken m k kept ≡ m → ⊥
kept_differs {R = R} o m k kept was e = not_both kept (sym (kept_has o m k kept)
    ∙ (ap (λ (w : FinMap R (Unit {0})). is_some (map.get w k)) e ∙ was))
