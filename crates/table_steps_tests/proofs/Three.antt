-- An Execute over three extents, of which its command writes two.
use Rattle.std.proofs.Common.{◌≡◌, ℕ, zero, suc, ◌<◌, List, [], ◌∷◌, ◌++◌, Some, get_or, refl, ap, ◌∙◌, arith}
use Rattle.ref_state.specs.declared.kinds.Tag.{Tag}
use Rattle.ref_state.specs.Steps.{first}
use Rattle.table_rule.specs.Meant.{Legal, target, is_named}
use Rattle.table_rule.proofs.Histories.{target_snoc}
use Rattle.small_target.specs.declared.Small.{Small}
use Rattle.table_seats.specs.EndingMeans.{ending_means}
use Rattle.table_seats.proofs.Taking.{wrote}

abbrev pub seven : Tag
seven = record { kind = 2; caller = 1; number = 7 }

abbrev pub submitted : Tag
submitted = record { kind = 1; caller = 1; number = 7 }

abbrev pub AppliesTo : ℕ → ℕ → ℕ → Type 0
AppliesTo n before after = (log : List Tag) → Legal ending_means log → ending_means.stands before n (target ending_means log)
    → first (λ (y : Tag × ℕ). is_named seven y.0) (ending_means.commands (target ending_means log)) ≡ Some (submitted, 0)
    → ending_means.stands after n (ending_means.next (target ending_means log) seven)

-- the first two extents hold the number after it
pub writes : (n before : ℕ) → n < 2 → AppliesTo n before 7
writes zero before near log legal stands held = (wrote log seven refl).0 ∙ ap (λ (z : Small). get_or z.blocks 0 0) (target_snoc ending_means log seven)
writes (suc zero) before near log legal stands held = (wrote log seven refl).1 ∙ ap (λ (z : Small). get_or z.blocks 1 0) (target_snoc ending_means log seven)
writes (suc (suc n)) before near log legal stands held = absurd (omega arith)
