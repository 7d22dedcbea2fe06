-- The wide target at its start, and after its Executes.
use Rattle.std.proofs.Common.{◌≡◌, ℕ, zero, suc, ◌<◌, ◌==◌, nat_lt, Bool, true, false, cond, List, [], ◌∷◌, Some, length, get_or, set, sym, refl, ap, ◌∙◌, arith}
use Rattle.std.proofs.lemmas.Bool.{ltb-true}
use Rattle.std.proofs.lemmas.List.{length-set}
use Rattle.std.specs.List.{slice_index}
use Rattle.ref_state.specs.declared.kinds.Tag.{Tag}
use Rattle.ref_state.specs.Steps.{first}
use Rattle.table_rule.specs.Meant.{Legal, target, replay, is_named}
use Rattle.small_target.specs.declared.Wide.{Wide}
use Rattle.small_target.specs.Wide.{all_to, wide_executed, wide_added, wide_next}
use Rattle.table_steps_tests.specs.WideMeans.{wide_means}
use Rattle.table_steps_tests.proofs.Three.{seven, submitted}

abbrev two_blanks : List ℕ
two_blanks = 0 ∷ (0 ∷ [])

abbrev three_blanks : List ℕ
three_blanks = 0 ∷ (0 ∷ (0 ∷ []))

pub one_more : (n : ℕ) → get_or two_blanks n 0 ≡ get_or three_blanks n 0
one_more zero = refl
one_more (suc zero) = refl
one_more (suc (suc zero)) = refl
one_more (suc (suc (suc n))) = refl

-- what is below 3 is a slot of three
pub among_three : (n : ℕ) → nat_lt n 3 ≡ true
    → (x : ℕ) × (x < 3) × (slice_index (0 ∷ 1 ∷ 2 ∷ []) x ≡ n)
among_three zero e = (0, omega arith, refl)
among_three (suc zero) e = (1, omega arith, refl)
among_three (suc (suc zero)) e = (2, omega arith, refl)
among_three (suc (suc (suc n))) e = let near = ltb-true (suc (suc (suc n))) 3 e in absurd (omega arith)

set_three : (n : ℕ) (l : List ℕ) → length (all_to n l) ≡ length l
set_three n l = length-set (set (set l 0 n) 1 n) 2 n ∙ (length-set (set l 0 n) 1 n ∙ length-set l 0 n)

next_long : (t : Wide) (tag : Tag) → length (wide_next t tag).blocks ≡ length t.blocks
next_long t tag = by_kind (tag.kind == 2)
  where
    by_kind : (b : Bool) → length (cond b (wide_executed t tag) (wide_added t tag)).blocks ≡ length t.blocks
    by_kind true = set_three tag.number t.blocks
    by_kind false = refl

always_three : (t : Wide) (log : List Tag) → length t.blocks ≡ 3 → length (replay wide_means t log).blocks ≡ 3
always_three t [] e = e
always_three t (tag ∷ tags) e = always_three (wide_next t tag) tags (next_long t tag ∙ e)

all_set : (n i : ℕ) (l : List ℕ) → length l ≡ 3 → i < 3 → n ≡ get_or (all_to n l) i 0
all_set n i [] e near = absurd (omega arith)
all_set n i (x ∷ []) e near = absurd (omega arith)
all_set n i (x ∷ (y ∷ [])) e near = absurd (omega arith)
all_set n zero (x ∷ (y ∷ (z ∷ zs))) e near = refl
all_set n (suc zero) (x ∷ (y ∷ (z ∷ zs))) e near = refl
all_set n (suc (suc zero)) (x ∷ (y ∷ (z ∷ zs))) e near = refl
all_set n (suc (suc (suc i))) (x ∷ (y ∷ (z ∷ zs))) e near = absurd (omega arith)

abbrev pub WritesAll : ℕ → ℕ → ℕ → Type 0
WritesAll n before after = (log : List Tag) → Legal wide_means log → wide_means.stands before n (target wide_means log)
    → first (λ (y : Tag × ℕ). is_named seven y.0) (wide_means.commands (target wide_means log)) ≡ Some (submitted, 0)
    → wide_means.stands after n (wide_means.next (target wide_means log) seven)

-- the three extents hold the number after it
pub writes_all : (n before : ℕ) → n < 3 → WritesAll n before 7
writes_all n before near log legal stands held = all_set 7 n (target wide_means log).blocks (always_three wide_means.start log refl) near
