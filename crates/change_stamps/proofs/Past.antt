-- A write past the end of a list.
use Rattle.std.proofs.Common.{◌≡◌, ◌≤◌, ℕ, zero, suc, List, [], ◌∷◌, length, slice_set, refl, ap, arith}

pub set_past : (xs : List ℕ) (at x : ℕ) → length xs ≤ at → slice_set xs at x ≡ xs
set_past [] at x h = refl
set_past (y ∷ xs) zero x h = absurd (omega arith)
set_past (y ∷ xs) (suc at) x h =
    ap (λ (ys : List ℕ). y ∷ ys) (set_past xs at x (omega arith))
