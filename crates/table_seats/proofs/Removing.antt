-- What is left of a list once its first item is taken out.
use Rattle.std.proofs.Common.{◌≡◌, ◌<◌, List, [], ◌∷◌, length, refl, arith}
use Rattle.std.specs.Prelude.{remove}
use lib.ListN.{get_elem?}

pub second : {A : Type 0} (l : List A) → get_elem? (remove l 0) 0 ≡ get_elem? l 1
second [] = refl
second (x ∷ xs) = refl

pub some_left : {A : Type 0} (l : List A) → 1 < length l → 0 < length (remove l 0)
some_left [] h = absurd (omega arith)
some_left (x ∷ xs) h = omega arith
