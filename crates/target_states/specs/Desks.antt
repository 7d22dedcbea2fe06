-- What the editor's calls come to depends on the desk alone.
use Rattle.std.specs.Prelude.{◌≡◌}
use Rattle.tree_target.specs.Model.{Call, Target}
use Rattle.tree_target.specs.Steps.{reply_of, target_after}
use Rattle.tree_target.specs.Fixed.{is_published}
use Rattle.target_states.specs.States.{desk_at}

-- the call replies at both targets the same, is published at both or at none, and leaves the same
-- desk
pub record IsSame (t u : Target) (call : Call) : Type 0 where
  pub reply : reply_of u call ≡ reply_of t call
  pub published : is_published u call ≡ is_published t call
  pub desk : desk_at (target_after u call) ≡ desk_at (target_after t call)
