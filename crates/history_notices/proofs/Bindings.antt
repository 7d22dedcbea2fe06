-- Lists of bindings, controllers and events.
use Rattle.std.proofs.Common.{◌≡◌, ◌≤◌, ◌<◌, ◌⊎◌, inl, inr, ℕ, zero, suc, true, List, [], ◌∷◌, ◌++◌, length, Option, Some, None, is_some, slice_get, slice_set, refl, sym, ap, ◌∙◌, arith}
use mathlib.Core.Logic.{⊎_elim}
use Rattle.sqe_cqe.specs.declared.controllers.ControllerRow.{ControllerRow}
use Rattle.async_events.specs.declared.events.Events.{Events}
use Rattle.fabrics_connect.specs.Checks.{numbered}
use Rattle.fabrics_connect.specs.After.{changed as changed_rows, changed_at, changed_bound}
use Rattle.sqe_cqe.specs.declared.controllers.Bound.{Bound as CodeBound}
use Rattle.tree_target.specs.Model.{Bound, Binding, binding_in, bound_of}
use Rattle.tree_target.specs.Admission.{events_numbered, put_events}
use Rattle.tree_target.specs.Controls.{put_binding}
use Rattle.tree_target.proofs.Joining.{get_put, get_put_other}

pub none_some : {X : Type 0} (x : X) → None ≡ Some x → ⊥
none_some x e = cc

pub some_same : {X : Type 0} (x y : X) → Some x ≡ Some y → x ≡ y
some_same x y e = cc

-- ---- ends of lists
pub get_front : {X : Type 0} (xs ys : List X) (i : ℕ) (x : X) → slice_get xs i ≡ Some x
    → slice_get (xs ++ ys) i ≡ Some x
get_front [] ys i x e = absurd (none_some x e)
get_front (z ∷ xs) ys zero x e = e
get_front (z ∷ xs) ys (suc i) x e = get_front xs ys i x e

pub get_last : {X : Type 0} (xs : List X) (x : X) → slice_get (xs ++ x ∷ []) (length xs) ≡ Some x
get_last [] x = refl
get_last (z ∷ xs) x = get_last xs x

pub there_front : {X : Type 0} (xs ys : List X) (i : ℕ) → is_some (slice_get xs i) ≡ true
    → is_some (slice_get (xs ++ ys) i) ≡ true
there_front [] ys i e = absurd cc
there_front (z ∷ xs) ys zero e = refl
there_front (z ∷ xs) ys (suc i) e = there_front xs ys i e

there_set : {X : Type 0} (xs : List X) (i j : ℕ) (x : X)
    → is_some (slice_get (slice_set xs i x) j) ≡ is_some (slice_get xs j)
there_set [] i j x = refl
there_set (z ∷ xs) zero zero x = refl
there_set (z ∷ xs) zero (suc j) x = refl
there_set (z ∷ xs) (suc i) zero x = refl
there_set (z ∷ xs) (suc i) (suc j) x = there_set xs i j x

-- ---- controllers
pub row_front : (cs ds : List ControllerRow) (n : ℕ) → is_some (numbered cs n) ≡ true
    → is_some (numbered (cs ++ ds) n) ≡ true
row_front cs ds zero e = e
row_front cs ds (suc n) e = there_front cs ds n e

changed_at_there : (cs : List ControllerRow) (m j : ℕ) (f : ControllerRow → ControllerRow)
    (o : Option ControllerRow)
    → is_some (slice_get (changed_at cs m f o) j) ≡ is_some (slice_get cs j)
changed_at_there cs m j f None = refl
changed_at_there cs m j f (Some c) = there_set cs m j (f c)

pub row_changed : (cs : List ControllerRow) (m n : ℕ) (f : ControllerRow → ControllerRow)
    → is_some (numbered (changed_rows cs m f) n) ≡ is_some (numbered cs n)
row_changed cs zero n f = refl
row_changed cs (suc m) zero f = refl
row_changed cs (suc m) (suc n) f = changed_at_there cs m n f (slice_get cs m)

pub row_bound : (cs : List ControllerRow) (b : Option CodeBound) (n : ℕ)
    (f : ControllerRow → ControllerRow)
    → is_some (numbered (changed_bound cs b f) n) ≡ is_some (numbered cs n)
row_bound cs None n f = refl
row_bound cs (Some b) n f = row_changed cs b.ctrl n f

-- ---- events
pub events_put : (ks : List Events) (n : ℕ) (k j : Events) → events_numbered ks n ≡ Some k
    → events_numbered (put_events ks n j) n ≡ Some j
events_put ks zero k j e = absurd (none_some k e)
events_put ks (suc n) k j e = get_put ks n j k e

pub events_beside : (ks : List Events) (m n : ℕ) (j : Events) → (m ≡ n → ⊥)
    → events_numbered (put_events ks m j) n ≡ events_numbered ks n
events_beside ks zero n j ne = refl
events_beside ks (suc m) zero j ne = refl
events_beside ks (suc m) (suc n) j ne =
    get_put_other ks m n j (λ e. ne (ap (λ (i : ℕ). suc i) (sym e)))

pub events_front : (ks js : List Events) (n : ℕ) (k : Events) → events_numbered ks n ≡ Some k
    → events_numbered (ks ++ js) n ≡ Some k
events_front ks js zero k e = e
events_front ks js (suc n) k e = get_front ks js n k e

-- ---- bindings
-- what a queue is connected to after one binding was put: that one's, or what it was
pub bound_put : (bs : List Binding) (q p : ℕ) (x : Binding) (d : Bound)
    → bound_of (binding_in (put_binding bs q x) p) ≡ Some d
    → ((p ≡ q) × (x.bound ≡ Some d)) ⊎ ((p ≡ q → ⊥) × (bound_of (binding_in bs p) ≡ Some d))
bound_put bs zero zero x d e = absurd (none_some d e)
bound_put bs zero (suc j) x d e = inr ((λ (is : suc j ≡ zero). absurd cc), e)
bound_put bs (suc i) zero x d e = absurd (none_some d e)
bound_put bs (suc i) (suc j) x d e = at bs i j e where
  at : (bs : List Binding) (i j : ℕ) → bound_of (slice_get (slice_set bs i x) j) ≡ Some d
      → ((suc j ≡ suc i) × (x.bound ≡ Some d))
      ⊎ ((suc j ≡ suc i → ⊥) × (bound_of (slice_get bs j) ≡ Some d))
  at [] i j e = absurd (none_some d e)
  at (b ∷ bs) zero zero e = inl (refl, e)
  at (b ∷ bs) zero (suc j) e = inr ((λ (is : suc (suc j) ≡ suc zero). absurd cc), e)
  at (b ∷ bs) (suc i) zero e = inr ((λ (is : suc zero ≡ suc (suc i)). absurd cc), e)
  at (b ∷ bs) (suc i) (suc j) e = ⊎_elim
      (λ (x : (suc j ≡ suc i) × (_ ≡ Some d)). inl (ap (λ (n : ℕ). suc n) x.0, x.1))
      (λ (x : (suc j ≡ suc i → ⊥) × (_ ≡ Some d)). inr (
        (λ (is : suc (suc j) ≡ suc (suc i)).
            x.0 (one_less (suc j) (suc i) is)),
        x.1,
      )) (at bs i j e) where
        one_less : (a b : ℕ) → suc a ≡ suc b → a ≡ b
        one_less a b h = omega (arith, h)

-- admin queues have controllers of their own, and no controller is above the count
pub record Apart (bs : List Binding) (count : ℕ) : Type 0 where
  pub low : (q : ℕ) (d : Bound) → bound_of (binding_in bs q) ≡ Some d → d.qid ≡ 0
      → d.controller ≤ count
  pub one : (p q : ℕ) (b d : Bound) → bound_of (binding_in bs p) ≡ Some b
      → bound_of (binding_in bs q) ≡ Some d → b.qid ≡ 0 → d.qid ≡ 0
      → b.controller ≡ d.controller → p ≡ q

above : (a b n : ℕ) → a ≡ b → n < a → b ≤ n → ⊥
above a b n e low high = absurd (omega (arith, e, low, high))

pub put_apart : (bs : List Binding) (count more : ℕ) (q : ℕ) (x : Binding) → Apart bs count
    → count ≤ more → ((d : Bound) → x.bound ≡ Some d → d.qid ≡ 0
    → (count < d.controller) × (d.controller ≤ more)) → Apart (put_binding bs q x) more
put_apart bs count more q x a grows new = record {
  low = λ p d e admin. ⊎_elim (λ (h : (p ≡ q) × (x.bound ≡ Some d)). (new d h.1 admin).1)
      (λ (h : (p ≡ q → ⊥) × (bound_of (binding_in bs p) ≡ Some d)).
      let low = a.low p d h.1 admin in omega (arith, low, grows)) (bound_put bs q p x d e);
  one = λ p r b d e f eb ed same. ⊎_elim
      (λ (h : (p ≡ q) × (x.bound ≡ Some b)). ⊎_elim
      (λ (g : (r ≡ q) × (x.bound ≡ Some d)). h.0 ∙ sym g.0)
      (λ (g : (r ≡ q → ⊥) × (bound_of (binding_in bs r) ≡ Some d)).
      absurd (above b.controller d.controller count same (new b h.1 eb).0 (a.low r d g.1 ed)))
      (bound_put bs q r x d f))
      (λ (h : (p ≡ q → ⊥) × (bound_of (binding_in bs p) ≡ Some b)). ⊎_elim
      (λ (g : (r ≡ q) × (x.bound ≡ Some d)).
      absurd (above d.controller b.controller count (sym same) (new d g.1 ed).0
      (a.low p b h.1 eb)))
      (λ (g : (r ≡ q → ⊥) × (bound_of (binding_in bs r) ≡ Some d)).
      a.one p r b d h.1 g.1 eb ed same) (bound_put bs q r x d f)) (bound_put bs q p x b e);
}
