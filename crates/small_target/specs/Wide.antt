-- A wide target: one disk of three extents that commands write, which is always shown. A submit is
-- Held, and its Execute writes its number to all three extents.
use Rattle.std.specs.Prelude.{◌≡◌, ℕ, ◌==◌, nat_lt, cond, Bool, true, List, [], ◌∷◌, ◌++◌, Option, Some, None, is_some, slice_index, slice_set}
use Rattle.ref_state.specs.declared.kinds.Tag.{Tag}
use Rattle.ref_state.specs.Steps.{first, without}
use Rattle.small_target.specs.declared.Wide.{Wide}
use Rattle.small_target.specs.Small.{listed_on}
use Rattle.table_rule.specs.Meant.{is_named}

abbrev pub wide_held : Wide → Tag → Option ℕ
wide_held t tag = cond (tag.kind == 1) (Some 0) None

abbrev pub all_to : ℕ → List ℕ → List ℕ
all_to n bs = slice_set (slice_set (slice_set bs 0 n) 1 n) 2 n

-- after an Execute
abbrev pub wide_executed : Wide → Tag → Wide
wide_executed t tag = record {
  waiting = without (λ (y : Tag × ℕ). is_named tag y.0) t.waiting;
  blocks = all_to tag.number t.blocks;
}

-- after another call, which is held or changes nothing
abbrev pub wide_added : Wide → Tag → Wide
wide_added t tag = record t { waiting = t.waiting ++ listed_on tag (wide_held t tag) }

abbrev pub wide_next : Wide → Tag → Wide
wide_next t tag = cond (tag.kind == 2) (wide_executed t tag) (wide_added t tag)

abbrev pub wide_lawful : Wide → Tag → Bool
wide_lawful t tag = cond (tag.kind == 2) (is_some (first (λ (y : Tag × ℕ). is_named tag y.0) t.waiting)) true

abbrev pub wide_words : Wide → List ℕ
wide_words t = 1 ∷ []

-- the extents 0, 1 and 2
abbrev pub wide_touches : Tag → ℕ → ℕ → Bool
wide_touches c d n = nat_lt n 3

abbrev pub wide_stands : ℕ → ℕ → Wide → Type 0
wide_stands x n t = x ≡ slice_index t.blocks n

abbrev pub wide_start : Wide
wide_start = record { waiting = []; blocks = 0 ∷ (0 ∷ (0 ∷ [])) }
