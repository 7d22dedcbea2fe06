-- Words that are put one after another.
use Rattle.std.proofs.Common.{◌≡◌, ℕ, ◌==◌, Bool, true, false, if◌then◌else◌, List, [], ◌∷◌, ◌++◌, slice_index, refl, ap, ◌∙◌, append_assoc}
use Rattle.edit_words.specs.Differing.{differing}

split-on : (b : Bool) (x : ℕ × ℕ) (d : List (ℕ × ℕ)) → (if b then [] else x ∷ []) ++ d ≡ (if b then d else x ∷ d)
split-on true x d = refl
split-on false x d = refl

pub then-rest : (ws : List ℕ) (x : ℕ × ℕ) (xs p0 p1 p2 : List (ℕ × ℕ)) → p1 ≡ p0 ++ differing ws (x ∷ []) → p2 ≡ p1 ++ differing ws xs → p2 ≡ p0 ++ differing ws (x ∷ xs)
then-rest ws x xs p0 p1 p2 e f =
    f ∙ (ap (λ (p : List (ℕ × ℕ)). p ++ differing ws xs) e
    ∙ (append_assoc p0 (differing ws (x ∷ [])) (differing ws xs)
    ∙ ap (λ (d : List (ℕ × ℕ)). p0 ++ d) (split-on (slice_index ws x.0 == x.1) x (differing ws xs))))
