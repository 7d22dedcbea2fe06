-- The extents at the start.
use Rattle.std.proofs.Common.{◌≡◌, ℕ, zero, suc, List, [], ◌∷◌, replicate, get_or, refl, sym, ◌∙◌}
use mathlib.Core.Option.{some, some-injective, some-ne-none}
use lib.ListN.{get_elem?}

is_zero : (n i x : ℕ) → get_elem? (replicate n 0) i ≡ some x → x ≡ 0
is_zero zero i x e = absurd (some-ne-none x (sym e))
is_zero (suc n) zero x e = sym (some-injective 0 x e)
is_zero (suc n) (suc i) x e = is_zero n i x e

abbrev blanks : List ℕ
blanks = 0 ∷ (0 ∷ [])

blank : (n : ℕ) → get_or blanks n 0 ≡ 0
blank zero = refl
blank (suc zero) = refl
blank (suc (suc n)) = refl

pub all_blank : (n i x : ℕ) → get_elem? (replicate n 0) i ≡ some x → x ≡ get_or blanks i 0
all_blank n i x e = is_zero n i x e ∙ sym (blank i)
