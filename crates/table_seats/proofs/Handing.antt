-- What stays and what goes with a hold that is handed over.
use Rattle.std.proofs.Common.{◌≡◌, ℕ, Bool, false, cond, List, [], ◌∷◌, ◌++◌, refl, ap, ◌∙◌}
use Rattle.table_rule.specs.declared.rule.Claim.{Claim}
use Rattle.table_rule.specs.Shown.{claims_but, claims_only}

pub but_none : (goes : ℕ → Bool) → ((q : ℕ) → goes q ≡ false) → (cs : List Claim) → claims_but goes cs ≡ cs
but_none goes none [] = refl
but_none goes none (c ∷ cs) = ap (λ b. cond b (claims_but goes cs) (c ∷ claims_but goes cs)) (none c.caller) ∙ ap (λ l. c ∷ l) (but_none goes none cs)

pub only_none : (goes : ℕ → Bool) → ((q : ℕ) → goes q ≡ false) → (cs : List Claim) → claims_only goes cs ≡ []
only_none goes none [] = refl
only_none goes none (c ∷ cs) = ap (λ b. cond b (c ∷ claims_only goes cs) (claims_only goes cs)) (none c.caller) ∙ only_none goes none cs

pub nil_right : {A : Type 0} (l : List A) → l ++ [] ≡ l
nil_right [] = refl
nil_right (x ∷ xs) = ap (λ l. x ∷ l) (nil_right xs)
