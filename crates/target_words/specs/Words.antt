-- The words of a target's configuration.
use Rattle.std.specs.Prelude.{◌≡◌, ℕ, List}
use Rattle.tree_target.specs.Model.{Target}
use Rattle.ns_table.specs.Kept.{shape_of}
use Rattle.ns_table.specs.Words.{words_of}
use Rattle.target_states.specs.States.{fixed_at}

-- with the serials of last changes that the target keeps
abbrev pub words_at : Target → List ℕ
words_at t = words_of (shape_of t.tree t.controllers t.blocks t.stamps)

-- what published calls alone change, and so the words, are as before
pub record LeavesWords (t u : Target) : Type 0 where
  pub fixed : fixed_at u ≡ fixed_at t
  pub words : words_at u ≡ words_at t
