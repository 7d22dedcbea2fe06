-- A text names a state exactly where it is the state's own.
use Rattle.std.proofs.Common.{◌≡◌, ℕ, Bool, true, false, cond, List, [], ◌∷◌, Option, Some, refl, ap, ◌∙◌}
use Rattle.std.specs.List.{find}
use Rattle.std.specs.Str.{bytes_eq}
use Rattle.std.proofs.lemmas.Slice.Eq.{bytes_eq-Decides}
use Rattle.sqe_cqe.specs.Anas.{ana_text, ana_named, AnaNamesAgain, ana_states}
use Rattle.sqe_cqe.specs.declared.rows.Ana.{Ana}
use Rattle.sqe_cqe.specs.declared.rows.Ana.TheVariants.{Optimized, NonOptimized, Inaccessible, PersistentLoss, Changing}

own_text : (value : List ℕ) (x a : Ana) (rest : Option Ana) (b : Bool) → bytes_eq value (ana_text x) ≡ b → cond b (Some x) rest ≡ Some a → (rest ≡ Some a → value ≡ ana_text a) → value ≡ ana_text a
own_text value x a rest true is e later =
    let same : x ≡ a = cc in
    (bytes_eq-Decides value (ana_text x)).0 is ∙ ap ana_text same
own_text value x a rest false is e later = later e

found_text : (value : List ℕ) (states : List Ana) (a : Ana) → find (λ s. bytes_eq value (ana_text s)) states ≡ Some a → value ≡ ana_text a
found_text value [] a e = cc
found_text value (x ∷ states) a e = own_text value x a (find (λ s. bytes_eq value (ana_text s)) states) (bytes_eq value (ana_text x)) refl e (found_text value states a)

named_again : (a : Ana) → ana_named (ana_text a) ≡ Some a
named_again Optimized = refl
named_again NonOptimized = refl
named_again Inaccessible = refl
named_again PersistentLoss = refl
named_again Changing = refl

pub names_again : (value : List ℕ) (a : Ana) → AnaNamesAgain value a
names_again value a = (found_text value ana_states a, λ e. ap ana_named e ∙ named_again a)
