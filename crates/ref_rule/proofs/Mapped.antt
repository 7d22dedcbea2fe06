-- A list whose first items were changed one after another.
use Rattle.std.proofs.Common.{◌≡◌, ℕ, zero, suc, ◌<◌, List, [], ◌∷◌, ◌++◌, length, get_or, set, take, drop, map, refl, ap, arith}

module _ {A : Type 0} (f : A → A) where
  abbrev pub mapped : List A → ℕ → List A
  mapped xs i = map f (take i xs) ++ drop i xs

  pub mapped_long : (xs : List A) (i : ℕ) → length (mapped xs i) ≡ length xs
  mapped_long [] zero = refl
  mapped_long [] (suc i) = refl
  mapped_long (x ∷ xs) zero = refl
  mapped_long (x ∷ xs) (suc i) = ap suc (mapped_long xs i)

  pub mapped_at : (xs : List A) (i : ℕ) (d : A) → get_or (mapped xs i) i d ≡ get_or xs i d
  mapped_at [] zero d = refl
  mapped_at [] (suc i) d = refl
  mapped_at (x ∷ xs) zero d = refl
  mapped_at (x ∷ xs) (suc i) d = mapped_at xs i d

  pub mapped_step : (xs : List A) (i : ℕ) (d : A) → i < length xs
      → set (mapped xs i) i (f (get_or xs i d)) ≡ mapped xs (suc i)
  mapped_step [] i d h = absurd (omega arith)
  mapped_step (x ∷ xs) zero d h = refl
  mapped_step (x ∷ xs) (suc i) d h = ap (λ l. f x ∷ l) (mapped_step xs i d (omega arith))

  pub mapped_all : (xs : List A) → mapped xs (length xs) ≡ map f xs
  mapped_all [] = refl
  mapped_all (x ∷ xs) = ap (λ l. f x ∷ l) (mapped_all xs)
