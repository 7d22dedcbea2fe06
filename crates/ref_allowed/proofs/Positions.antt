-- The first item that passes a test, by its index.
use Rattle.std.proofs.Common.{◌≡◌, ℕ, suc, ◌+◌, ◌<◌, ◌≤◌, cond, not, ◌||◌, Bool, true, false, List, [], ◌∷◌, length, get_or, set, position, remove, sym, refl, ap, ◌∙◌, subst, arith, Some, None}
use Rattle.std.specs.List.{position_or_len, list_any}
use Rattle.std.specs.Prelude.{nat_lt}
use Rattle.std.proofs.lemmas.Bool.Decides.{nat_tests}
use Rattle.ref_state.specs.Steps.{first, without, change, Some_where}
use Rattle.ref_state.proofs.Lists.{some_is}

module _ {A : Type 0} (p : A → Bool) where
  -- where one passes, its index is the number of those before it
  is_at_len : (xs : List A) (i : ℕ) → position p xs ≡ Some i → (position_or_len p xs ≡ i)
      × (i < length xs)
  is_at_len xs i e = by_case (nat_lt (position_or_len p xs) (length xs)) refl e
    where
      by_case : (z : Bool) → nat_lt (position_or_len p xs) (length xs) ≡ z
          → cond z (Some (position_or_len p xs)) None ≡ Some i → (position_or_len p xs ≡ i)
          × (i < length xs)
      by_case true is h = let same = some_is h in
          (same, subst (λ (n : ℕ). n < length xs) same (grind (arith, nat_tests)))
      by_case false is h = absurd (let g : None ≡ Some i = h in grind arith)

  none_len : (xs : List A) → position p xs ≡ None → length xs ≤ position_or_len p xs
  none_len xs e = by_case (nat_lt (position_or_len p xs) (length xs)) refl e
    where
      by_case : (z : Bool) → nat_lt (position_or_len p xs) (length xs) ≡ z
          → cond z (Some (position_or_len p xs)) None ≡ None → length xs ≤ position_or_len p xs
      by_case true is h = absurd (let g : Some (position_or_len p xs) ≡ None = h in grind arith)
      by_case false is h = grind (arith, nat_tests)

  first_at : (xs : List A) (d : A) → position_or_len p xs < length xs
      → first p xs ≡ Some (get_or xs (position_or_len p xs) d)
  first_at [] d h = absurd (omega arith)
  first_at (x ∷ xs) d h = by_case (p x) h (first_at xs d)
    where
      by_case : (z : Bool) → cond (not z) (1 + position_or_len p xs) 0 < suc (length xs)
          → (position_or_len p xs < length xs → first p xs
          ≡ Some (get_or xs (position_or_len p xs) d)) → cond z (Some x) (first p xs)
          ≡ Some (get_or (x ∷ xs) (cond (not z) (1 + position_or_len p xs) 0) d)
      by_case true near rec = refl
      by_case false near rec = let e : 1 + position_or_len p xs ≡ suc (position_or_len p xs) =
          omega arith in rec (omega arith) ∙ ap (λ i. Some (get_or (x ∷ xs) i d)) (sym e)

  without_at : (xs : List A) → position_or_len p xs < length xs
      → remove xs (position_or_len p xs) ≡ without p xs
  without_at [] h = absurd (omega arith)
  without_at (x ∷ xs) h = by_case (p x) h (without_at xs)
    where
      by_case : (z : Bool) → cond (not z) (1 + position_or_len p xs) 0 < suc (length xs)
          → (position_or_len p xs < length xs → remove xs (position_or_len p xs) ≡ without p xs)
          → remove (x ∷ xs) (cond (not z) (1 + position_or_len p xs) 0)
          ≡ cond z xs (x ∷ without p xs)
      by_case true near rec = refl
      by_case false near rec = let e : 1 + position_or_len p xs ≡ suc (position_or_len p xs) =
          omega arith in ap (λ i. remove (x ∷ xs) i) e ∙ ap (λ l. x ∷ l) (rec (omega arith))

  change_at : (f : A → A) (xs : List A) (d : A) → position_or_len p xs < length xs
      → set xs (position_or_len p xs) (f (get_or xs (position_or_len p xs) d)) ≡ change p f xs
  change_at f [] d h = absurd (omega arith)
  change_at f (x ∷ xs) d h = by_case (p x) h (change_at f xs d)
    where
      by_case : (z : Bool) → cond (not z) (1 + position_or_len p xs) 0 < suc (length xs)
          → (position_or_len p xs < length xs → set xs (position_or_len p xs)
          (f (get_or xs (position_or_len p xs) d)) ≡ change p f xs)
          → set (x ∷ xs) (cond (not z) (1 + position_or_len p xs) 0)
          (f (get_or (x ∷ xs) (cond (not z) (1 + position_or_len p xs) 0) d))
          ≡ cond z (f x ∷ xs) (x ∷ change p f xs)
      by_case true near rec = refl
      by_case false near rec = let e : 1 + position_or_len p xs ≡ suc (position_or_len p xs) =
          omega arith in ap (λ i. set (x ∷ xs) i (f (get_or (x ∷ xs) i d))) e
          ∙ ap (λ l. x ∷ l) (rec (omega arith))

  no_first : (xs : List A) → length xs ≤ position_or_len p xs → (first p xs ≡ None)
      × (without p xs ≡ xs) × ((f : A → A) → change p f xs ≡ xs)
  no_first [] h = (refl, refl, λ f. refl)
  no_first (x ∷ xs) h = by_case (p x) h (no_first xs)
    where
      by_case : (z : Bool) → suc (length xs) ≤ cond (not z) (1 + position_or_len p xs) 0
          → (length xs ≤ position_or_len p xs → (first p xs ≡ None) × (without p xs ≡ xs)
          × ((f : A → A) → change p f xs ≡ xs))
          → (cond z (Some x) (first p xs) ≡ None) × (cond z xs (x ∷ without p xs) ≡ x ∷ xs)
          × ((f : A → A) → cond z (f x ∷ xs) (x ∷ change p f xs) ≡ x ∷ xs)
      by_case true near rec = absurd (omega arith)
      by_case false near rec = let r = rec (omega arith) in (
        r.0,
        ap (λ l. x ∷ l) r.1,
        λ f. ap (λ l. x ∷ l) (r.2 f),
      )

  pub in_range : (xs : List A) (i : ℕ) → position p xs ≡ Some i → i < length xs
  in_range xs i e = (is_at_len xs i e).1

  pub first_is : (xs : List A) (i : ℕ) (d : A) → position p xs ≡ Some i
      → first p xs ≡ Some (get_or xs i d)
  first_is xs i d e = let a = is_at_len xs i e in subst (λ n. first p xs
      ≡ Some (get_or xs n d)) a.0 (first_at xs d (omega arith))

  pub removed_is : (xs : List A) (i : ℕ) → position p xs ≡ Some i → remove xs i ≡ without p xs
  removed_is xs i e = let a = is_at_len xs i e in subst (λ n. remove xs n
      ≡ without p xs) a.0 (without_at xs (omega arith))

  pub changed_is : (f : A → A) (xs : List A) (i : ℕ) (d : A) → position p xs ≡ Some i
      → set xs i (f (get_or xs i d)) ≡ change p f xs
  changed_is f xs i d e = let a = is_at_len xs i e in subst (λ n. set xs n (f (get_or xs n d))
      ≡ change p f xs) a.0 (change_at f xs d (omega arith))

  pub none_is : (xs : List A) → position p xs ≡ None → (first p xs ≡ None) × (without p xs ≡ xs)
      × ((f : A → A) → change p f xs ≡ xs)
  none_is xs e = no_first xs (none_len xs e)

-- a test that passes somewhere
pub any_some : {A : Type 0} (p : A → Bool) (xs : List A) → list_any p xs ≡ true → Some_where p xs
any_some p [] e = absurd (let h : false ≡ true = e in grind arith)
any_some p (x ∷ xs) e = by_case (p x) e (any_some p xs)
  where
    by_case : (z : Bool) → (z || list_any p xs) ≡ true → (list_any p xs ≡ true → Some_where p xs)
        → (y : _) × (cond z (Some x) (first p xs) ≡ Some y)
    by_case true h rec = (x, refl)
    by_case false h rec = rec h

pub some_any : {A : Type 0} (p : A → Bool) (xs : List A) → Some_where p xs → list_any p xs ≡ true
some_any p [] m = absurd (let h : None ≡ Some m.0 = m.1 in grind arith)
some_any p (x ∷ xs) m = by_case (p x) m.1 (λ e. some_any p xs (m.0, e))
  where
    by_case : (z : Bool) → cond z (Some x) (first p xs) ≡ Some m.0
        → (first p xs ≡ Some m.0 → list_any p xs ≡ true) → (z || list_any p xs) ≡ true
    by_case true h rec = refl
    by_case false h rec = rec h

-- no test passes
pub none_any : {A : Type 0} (p : A → Bool) (xs : List A) → list_any p xs ≡ false → first p xs ≡ None
none_any p [] e = refl
none_any p (x ∷ xs) e = by_case (p x) e (none_any p xs)
  where
    by_case : (z : Bool) → (z || list_any p xs) ≡ false → (list_any p xs ≡ false → first p xs
        ≡ None) → cond z (Some x) (first p xs) ≡ None
    by_case true h rec = absurd (let g : true ≡ false = h in grind arith)
    by_case false h rec = rec h

pub any_none : {A : Type 0} (p : A → Bool) (xs : List A) → first p xs ≡ None → list_any p xs ≡ false
any_none p [] e = refl
any_none p (x ∷ xs) e = by_case (p x) e (any_none p xs)
  where
    by_case : (z : Bool) → cond z (Some x) (first p xs) ≡ None
        → (first p xs ≡ None → list_any p xs ≡ false) → (z || list_any p xs) ≡ false
    by_case true h rec = absurd (let g : Some x ≡ None = h in grind arith)
    by_case false h rec = rec h
