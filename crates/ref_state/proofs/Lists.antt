-- Lists of views, and what is added up over them.
use Rattle.std.proofs.Common.{◌≡◌, ◌≢◌, ◌⊎◌, ℕ, zero, suc, ◌+◌, ◌<◌, ◌≤◌, ◌==◌, nat_le, Bool, true, false, List, [], ◌∷◌, ◌++◌, length, get_or, set, sym, refl, ap, ◌∙◌, subst, le-leb, inl, inr, ⊎_elim, arith, cond, Option, Some, None}
use Rattle.std.specs.Prelude.{sum_by}
use Rattle.std.proofs.lemmas.List.Sums.{sum_by-cons}
use Rattle.std.proofs.lemmas.Bool.{lt-leb}
use Rattle.std.proofs.lemmas.Bool.Decides.{nat_tests}
use mathlib.Core.Option.{some, some-injective, some-ne-none}
use lib.ListN.{get_elem?}
use Rattle.ref_state.specs.declared.state.View.{View}
use Rattle.ref_state.specs.State.{At, total, one_if, once_below}
use Rattle.ref_state.specs.Steps.{first, without, change, listed, Some_where}
use Rattle.ref_state.specs.Soundness.{Each, Every}

module _ {A : Type 0} where
  pub at_set : (l : List A) (i j : ℕ) (a b : A) → get_elem? (set l i a) j ≡ some b
      → ((j ≡ i) × (a ≡ b)) ⊎ ((j ≢ i) × (get_elem? l j ≡ some b))
  at_set [] i j a b e = absurd (some-ne-none b (sym e))
  at_set (x ∷ xs) zero zero a b e = inl (refl, some-injective a b e)
  at_set (x ∷ xs) zero (suc j) a b e = inr ((λ h. omega arith), e)
  at_set (x ∷ xs) (suc i) zero a b e = inr ((λ h. omega arith), e)
  at_set (x ∷ xs) (suc i) (suc j) a b e = ⊎_elim (λ t. inl (ap suc t.0, t.1)) (λ t. let n = t.0 in
      inr ((λ h. n (omega arith)), t.1)) (at_set xs i j a b e)

  pub set_again : (l : List A) (i : ℕ) (a : A) → get_elem? l i ≡ some a → set l i a ≡ l
  set_again [] i a e = refl
  set_again (x ∷ xs) zero a e = λ k. sym (some-injective x a e) k ∷ xs
  set_again (x ∷ xs) (suc i) a e = λ k. x ∷ set_again xs i a e k

  -- the sums of the definitions are std's
  pub total_is_sum_by : (f : A → ℕ) (xs : List A) → total f xs ≡ sum_by f xs
  total_is_sum_by f [] = refl
  total_is_sum_by f (x ∷ xs) = ap (λ (n : ℕ). f x + n) (total_is_sum_by f xs)
      ∙ sym (sum_by-cons f x xs)

  pub total_append : (f : A → ℕ) (xs ys : List A) → total f (xs ++ ys) ≡ total f xs + total f ys
  total_append f [] ys = omega arith
  total_append f (x ∷ xs) ys = omega (arith, total_append f xs ys)

  -- the sum after a change of one
  pub total_set : (f : A → ℕ) (l : List A) (i : ℕ) (a b : A) → get_elem? l i ≡ some a
      → total f (set l i b) + f a ≡ total f l + f b
  total_set f [] i a b e = absurd (some-ne-none a (sym e))
  total_set f (x ∷ xs) zero a b e = let s : f x ≡ f a = ap f (some-injective x a e) in omega arith
  total_set f (x ∷ xs) (suc i) a b e = omega (arith, total_set f xs i a b e)

  -- one that adds up to the same changes nothing
  pub total_same : (f : A → ℕ) (l : List A) (i : ℕ) (a b : A) → get_elem? l i ≡ some a → f b ≡ f a
      → total f (set l i b) ≡ total f l
  total_same f l i a b e s = omega (arith, total_set f l i a b e)

  -- one adds no more than all
  pub total_one : (f : A → ℕ) (l : List A) (i : ℕ) (a : A) → get_elem? l i ≡ some a
      → f a ≤ total f l
  total_one f [] i a e = absurd (some-ne-none a (sym e))
  total_one f (x ∷ xs) zero a e = let s : f x ≡ f a = ap f (some-injective x a e) in omega arith
  total_one f (x ∷ xs) (suc i) a e = omega (arith, total_one f xs i a e)

  pub every_map : {P Q : A → Type 0} → ((x : A) → P x → Q x) → (xs : List A) → Every P xs
      → Every Q xs
  every_map h [] e = tt
  every_map h (x ∷ xs) e = (h x e.0, every_map h xs e.1)

pub some_is : {A : Type 0} {a b : A} → Some a ≡ Some b → a ≡ b
some_is {A} {a} {b} e = ap (unwrap_or a) e
  where
    unwrap_or : A → Option A → A
    unwrap_or d None = d
    unwrap_or d (Some x) = x

-- one seat's view changes: the others have what they had
pub each_move : (Q : ℕ → View → Type 0) (views : List View) (j : ℕ) (w : View)
    → ((i : ℕ) (u : View) → i ≢ j → At views i u → Q i u) → Q j w → Each (set views j w) Q
each_move Q views j w others mine i u e = ⊎_elim (λ (t : (i ≡ j)
    × (w ≡ u)). subst (λ (x : ℕ × View). Q x.0 x.1) (λ k. (sym t.0 k, t.1 k)) mine)
    (λ (t : (i ≢ j) × At views i u). others i u t.0 t.1) (at_set views j i w u e)

pub each_set : (P : ℕ → View → Type 0) (views : List View) (j : ℕ) (w : View) → Each views P → P j w
    → Each (set views j w) P
each_set P views j w all mine = each_move P views j w (λ i u _. all i u) mine

pub one_if_le : (a b : ℕ) → a ≤ b → one_if (nat_le a b) ≡ 1
one_if_le a b h = ap one_if (le-leb a b h)

pub one_if_not : (a b : ℕ) → b < a → one_if (nat_le a b) ≡ 0
one_if_not a b h = ap one_if (lt-leb a b h)

pub once_more : (k n : ℕ) → once_below k (n + 1) ≡ one_if (n == k) + once_below k n
once_more k n = grind (arith, nat_tests)

-- a list after a change of one, read at any place
pub or_set : {A : Type 0} (l : List A) (i j : ℕ) (a x : A) → (get_or (set l i a) j x ≡ get_or l j x)
    ⊎ ((j ≡ i) × (get_or (set l i a) j x ≡ a))
or_set [] i j a x = inl refl
or_set (y ∷ ys) zero zero a x = inr (refl, refl)
or_set (y ∷ ys) zero (suc j) a x = inl refl
or_set (y ∷ ys) (suc i) zero a x = inl refl
or_set (y ∷ ys) (suc i) (suc j) a x = ⊎_elim (λ e. inl e) (λ t. inr (
  ap suc t.0,
  t.1,
)) (or_set ys i j a x)

pub or_at : {A : Type 0} (l : List A) (i : ℕ) (a x : A) → get_elem? l i ≡ some a → get_or l i x ≡ a
or_at [] i a x e = absurd (some-ne-none a (sym e))
or_at (y ∷ ys) zero a x e = some-injective y a e
or_at (y ∷ ys) (suc i) a x e = or_at ys i a x e

pub at_or : {A : Type 0} (l : List A) (i : ℕ) (x : A) → i < length l
    → get_elem? l i ≡ some (get_or l i x)
at_or [] i x h = absurd (omega arith)
at_or (y ∷ ys) zero x h = refl
at_or (y ∷ ys) (suc i) x h = at_or ys i x (omega arith)

pub every_set : {A : Type 0} (P : A → Type 0) (l : List A) (i : ℕ) (a : A) → Every P l → P a
    → Every P (set l i a)
every_set P [] i a e h = tt
every_set P (y ∷ ys) zero a e h = (h, e.1)
every_set P (y ∷ ys) (suc i) a e h = (e.0, every_set P ys i a e.1 h)

pub every_at : {A : Type 0} (P : A → Type 0) (l : List A) (i : ℕ) (a : A) → Every P l
    → get_elem? l i ≡ some a → P a
every_at P [] i a e h = absurd (some-ne-none a (sym h))
every_at P (y ∷ ys) zero a e h = subst P (some-injective y a h) e.0
every_at P (y ∷ ys) (suc i) a e h = every_at P ys i a e.1 h

-- what is taken out of a list
module _ {A : Type 0} (p : A → Bool) where
  pub first_passes : (xs : List A) (x : A) → first p xs ≡ Some x → p x ≡ true
  first_passes [] x e = absurd (let h : None ≡ Some x = e in grind arith)
  first_passes (y ∷ ys) x e = by_case (p y) refl e (first_passes ys x)
    where
      by_case : (z : Bool) → p y ≡ z → cond z (Some y) (first p ys) ≡ Some x
          → (first p ys ≡ Some x → p x ≡ true) → p x ≡ true
      by_case true is h rec = let same : y ≡ x = some_is h in ap p (sym same) ∙ is
      by_case false is h rec = rec h

  pub without_total : (f : A → ℕ) (xs : List A) (x : A) → first p xs ≡ Some x
      → total f (without p xs) + f x ≡ total f xs
  without_total f [] x e = absurd (let h : None ≡ Some x = e in grind arith)
  without_total f (y ∷ ys) x e = by_case (p y) e (without_total f ys x)
    where
      by_case : (z : Bool) → cond z (Some y) (first p ys) ≡ Some x
          → (first p ys ≡ Some x → total f (without p ys) + f x ≡ total f ys)
          → total f (cond z ys (y ∷ without p ys)) + f x ≡ total f (y ∷ ys)
      by_case true h rec = let same : f y ≡ f x = ap f (some_is h) in omega arith
      by_case false h rec = let i = rec h in omega arith

pub total_le : {A : Type 0} (f g : A → ℕ) → ((x : A) → f x ≤ g x) → (xs : List A)
    → total f xs ≤ total g xs
total_le f g h [] = omega arith
total_le f g h (x ∷ xs) = let a = h x in let b = total_le f g h xs in omega arith

pub at_end : {A : Type 0} (l : List A) (x : A) (i : ℕ) (a : A) → get_elem? (l ++ x ∷ []) i ≡ some a
    → (get_elem? l i ≡ some a) ⊎ ((i ≡ length l) × (x ≡ a))
at_end [] x zero a e = inr (refl, some-injective x a e)
at_end [] x (suc i) a e = absurd (some-ne-none a (sym e))
at_end (y ∷ ys) x zero a e = inl e
at_end (y ∷ ys) x (suc i) a e = ⊎_elim (λ t. inl t) (λ t. inr (ap suc t.0, t.1)) (at_end ys x i a e)

pub set_else : {A : Type 0} (l : List A) (i j : ℕ) (a : A) → j ≢ i
    → get_elem? (set l i a) j ≡ get_elem? l j
set_else [] i j a n = refl
set_else (x ∷ xs) zero zero a n = absurd (n refl)
set_else (x ∷ xs) zero (suc j) a n = refl
set_else (x ∷ xs) (suc i) zero a n = refl
set_else (x ∷ xs) (suc i) (suc j) a n = set_else xs i j a (λ e. n (ap suc e))

pub every_append : {A : Type 0} (P : A → Type 0) (xs ys : List A) → Every P xs → Every P ys
    → Every P (xs ++ ys)
every_append P [] ys a b = b
every_append P (x ∷ xs) ys a b = (a.0, every_append P xs ys a.1 b)

pub every_left : {A : Type 0} (P : A → Type 0) (xs ys : List A) → Every P (xs ++ ys) → Every P xs
every_left P [] ys a = tt
every_left P (x ∷ xs) ys a = (a.0, every_left P xs ys a.1)

pub every_right : {A : Type 0} (P : A → Type 0) (xs ys : List A) → Every P (xs ++ ys) → Every P ys
every_right P [] ys a = a
every_right P (x ∷ xs) ys a = every_right P xs ys a.1

-- what is taken out, and what is left
pub every_without : {A : Type 0} (P : A → Type 0) (p : A → Bool) (xs : List A) → Every P xs
    → Every P (without p xs) × Every P (listed (first p xs))
every_without P p [] a = (tt, tt)
every_without P p (x ∷ xs) a = by_case (p x) (every_without P p xs a.1)
  where
    by_case : (z : Bool) → Every P (without p xs) × Every P (listed (first p xs))
        → Every P (cond z xs (x ∷ without p xs)) × Every P (listed (cond z (Some x) (first p xs)))
    by_case true rec = (a.1, (a.0, tt))
    by_case false rec = ((a.0, rec.0), rec.1)

pub parted : {A : Type 0} (p : A → Bool) (f : A → ℕ) (xs : List A)
    → total f (without p xs) + total f (listed (first p xs)) ≡ total f xs
parted p f [] = omega arith
parted p f (x ∷ xs) = by_case (p x) (parted p f xs)
  where
    by_case : (z : Bool) → total f (without p xs) + total f (listed (first p xs)) ≡ total f xs
        → total f (cond z xs (x ∷ without p xs)) + total f (listed (cond z (Some x) (first p xs)))
        ≡ f x + total f xs
    by_case true rec = omega arith
    by_case false rec = omega arith

pub some_append : {A : Type 0} (p : A → Bool) (xs ys : List A) → Some_where p ys
    → Some_where p (xs ++ ys)
some_append p [] ys m = m
some_append p (x ∷ xs) ys m = by_case (p x) (some_append p xs ys m)
  where
    by_case : (z : Bool) → Some_where p (xs ++ ys) → (a : _)
        × (cond z (Some x) (first p (xs ++ ys)) ≡ Some a)
    by_case true rec = (x, refl)
    by_case false rec = rec

-- one is changed
module _ {A : Type 0} (p : A → Bool) (g : A → A) where
  pub change_total : (f : A → ℕ) (xs : List A) (x : A) → first p xs ≡ Some x
      → total f (change p g xs) + f x ≡ total f xs + f (g x)
  change_total f [] x e = absurd (let h : None ≡ Some x = e in grind arith)
  change_total f (y ∷ ys) x e = by_case (p y) e (change_total f ys x)
    where
      by_case : (z : Bool) → cond z (Some y) (first p ys) ≡ Some x
          → (first p ys ≡ Some x → total f (change p g ys) + f x ≡ total f ys + f (g x))
          → total f (cond z (g y ∷ ys) (y ∷ change p g ys)) + f x ≡ total f (y ∷ ys) + f (g x)
      by_case true h rec = let same : f y ≡ f x = ap f (some_is h) in
          let other : f (g y) ≡ f (g x) = ap (λ a. f (g a)) (some_is h) in omega arith
      by_case false h rec = let i = rec h in omega arith

  -- what the change leaves adds up to the same
  pub change_same : (f : A → ℕ) → ((x : A) → f (g x) ≡ f x) → (xs : List A)
      → total f (change p g xs) ≡ total f xs
  change_same f s [] = refl
  change_same f s (y ∷ ys) = by_case (p y) (change_same f s ys)
    where
      by_case : (z : Bool) → total f (change p g ys) ≡ total f ys
          → total f (cond z (g y ∷ ys) (y ∷ change p g ys)) ≡ total f (y ∷ ys)
      by_case true rec = let a = s y in omega arith
      by_case false rec = omega arith

  pub change_every : (P : A → Type 0) → ((x : A) → P x → P (g x)) → (xs : List A) → Every P xs
      → Every P (change p g xs)
  change_every P h [] a = tt
  change_every P h (y ∷ ys) a = by_case (p y) (change_every P h ys a.1)
    where
      by_case : (z : Bool) → Every P (change p g ys)
          → Every P (cond z (g y ∷ ys) (y ∷ change p g ys))
      by_case true rec = (h y a.0, a.1)
      by_case false rec = (a.0, rec)

  pub change_some : (q : A → Bool) → ((x : A) → q (g x) ≡ q x) → (xs : List A) → Some_where q xs
      → Some_where q (change p g xs)
  change_some q same [] m = m
  change_some q same (y ∷ ys) m = by_case (p y) (q y) refl m.1 (λ e. change_some q same ys (m.0, e))
    where
      by_case : (z b : Bool) → q y ≡ b → cond b (Some y) (first q ys) ≡ Some m.0
          → (first q ys ≡ Some m.0 → Some_where q (change p g ys))
          → Some_where q (cond z (g y ∷ ys) (y ∷ change p g ys))
      by_case true true is e rec = (g y, ap (λ b. cond b (Some (g y)) (first q ys)) (same y ∙ is))
      by_case true false is e rec = (
        m.0,
        ap (λ b. cond b (Some (g y)) (first q ys)) (same y ∙ is)
            ∙ e,
      )
      by_case false true is e rec = (y, ap (λ b. cond b (Some y) (first q (change p g ys))) is)
      by_case false false is e rec = let r = rec e in
          (r.0, ap (λ b. cond b (Some y) (first q (change p g ys))) is ∙ r.1)

-- a sum of nothing
pub none_total : {A : Type 0} (f : A → ℕ) (xs : List A) → total f xs ≡ 0 → Every (λ x. f x ≡ 0) xs
none_total f [] e = tt
none_total f (x ∷ xs) e = (omega arith, none_total f xs (omega arith))
